-- What holds at each turn of the loop.
use Rattle.rule.proofs.Sofar.{Sofar}
use Rattle.rule.proofs.tokens.Tokens.cut.Given as goal

abbrev pub invariant-loop-token : goal.invariant-loop-token
invariant-loop-token l = Sofar l.fn.text l.token-iterator l.tokens
