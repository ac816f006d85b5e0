use Rattle.std.proofs.Common.{◌≡◌, ◌≤◌, drop}
use Rattle.grammar.specs.Spelling.{valued}
use Rattle.rule.proofs.spelling.value.Given as goal

abbrev pub invariant-loop-digit : goal.invariant-loop-digit
invariant-loop-digit l = (valued l.sum (drop l.digit-index l.digits) ≡ valued 0 l.digits) × (l.sum ≤ 1000000000)
