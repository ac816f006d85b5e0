use Rattle.std.proofs.Common.{◌≡◌, ◌≤◌, take}
use Rattle.grammar.specs.Limits.{count, claiming}
use Rattle.rule.specs.Stored.{symbols_of}
use Rattle.rule.proofs.limits.uncrowded.Given as goal

abbrev pub invariant-loop-spot : goal.invariant-loop-spot
invariant-loop-spot l = (l.claims ≡ count claiming (take l.spot-index (symbols_of l.tokens))) × (l.claims ≤ 60)
