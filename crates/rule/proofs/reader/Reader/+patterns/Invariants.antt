use Rattle.std.proofs.Common.{◌+◌, ◌-◌, ◌*◌, length}
use Rattle.rule.specs.Trees.{as_pattern}
use Rattle.rule.specs.Readers.{symbols_in, Read, BaseEnds, ChainSoFar, RuleSoFar}
use Rattle.rule.proofs.reader.Reader.+patterns.Given as goal

abbrev pub decreases-base : goal.decreases-base
decreases-base l = 4 * (length (symbols_in l.self.now) - l.self.now.at)

abbrev pub decreases-piece : goal.decreases-piece
decreases-piece l = 4 * (length (symbols_in l.self.now) - l.self.now.at) + 1

abbrev pub decreases-chain : goal.decreases-chain
decreases-chain l = 4 * (length (symbols_in l.self.now) - l.self.now.at) + 2

abbrev pub decreases-rule : goal.decreases-rule
decreases-rule l = 4 * (length (symbols_in l.self.now) - l.self.now.at) + 3

abbrev pub invariant-piece-loop-self : goal.invariant-piece-loop-self
invariant-piece-loop-self l = Read as_pattern BaseEnds l.fn.self l.self l.piece

abbrev pub decreases-piece-loop-self : goal.decreases-piece-loop-self
decreases-piece-loop-self l = length (symbols_in l.self) - l.self.at

abbrev pub invariant-chain-loop-self : goal.invariant-chain-loop-self
invariant-chain-loop-self l = Read as_pattern ChainSoFar l.fn.self l.self l.left

abbrev pub decreases-chain-loop-self : goal.decreases-chain-loop-self
decreases-chain-loop-self l = length (symbols_in l.self) - l.self.at

abbrev pub invariant-rule-loop-self : goal.invariant-rule-loop-self
invariant-rule-loop-self l = Read as_pattern RuleSoFar l.fn.self l.self l.left

abbrev pub decreases-rule-loop-self : goal.decreases-rule-loop-self
decreases-rule-loop-self l = length (symbols_in l.self) - l.self.at
