use Rattle.rule.specs.Trees.{as_sum}
use Rattle.rule.specs.Readers.{Read, SumOf}
use Rattle.rule.proofs.reader.Reader.sum.Given as goal

abbrev pub invariant-loop-terms : goal.invariant-loop-terms
invariant-loop-terms l = Read as_sum (λ ts at p x. SumOf ts at l.terms p x) l.fn.self l.self l.sum
