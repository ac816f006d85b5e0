use Rattle.std.proofs.Common.{◌+◌, ◌-◌, ◌*◌, length}
use Rattle.rule.specs.Trees.{as_claim}
use Rattle.rule.specs.Readers.{symbols_in, Read, BothSoFar, EitherSoFar}
use Rattle.rule.proofs.reader.Reader.+claims.Given as goal

abbrev pub decreases-single : goal.decreases-single
decreases-single l = 4 * (length (symbols_in l.self.now) - l.self.now.at)

abbrev pub decreases-both : goal.decreases-both
decreases-both l = 4 * (length (symbols_in l.self.now) - l.self.now.at) + 1

abbrev pub decreases-either : goal.decreases-either
decreases-either l = 4 * (length (symbols_in l.self.now) - l.self.now.at) + 2

abbrev pub decreases-claim : goal.decreases-claim
decreases-claim l = 4 * (length (symbols_in l.self.now) - l.self.now.at) + 3

abbrev pub invariant-both-loop-self : goal.invariant-both-loop-self
invariant-both-loop-self l = Read as_claim BothSoFar l.fn.self l.self l.left

abbrev pub decreases-both-loop-self : goal.decreases-both-loop-self
decreases-both-loop-self l = length (symbols_in l.self) - l.self.at

abbrev pub invariant-either-loop-self : goal.invariant-either-loop-self
invariant-either-loop-self l = Read as_claim EitherSoFar l.fn.self l.self l.left

abbrev pub decreases-either-loop-self : goal.decreases-either-loop-self
decreases-either-loop-self l = length (symbols_in l.self) - l.self.at
