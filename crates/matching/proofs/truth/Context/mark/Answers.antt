use Rattle.std.proofs.Common.{◌^◌, ◌&&◌, eqb, sym, ap, ap₂, ◌∙◌, arith, lit<, one-mul, shl_exact}
use Rattle.matching.specs.Marks.{bit}
use Rattle.matching.proofs.Bitwise.{bit_one}
use Rattle.matching.proofs.truth.Context.mark.Goals as goal

pub returns-then-holds : goal.returns-then-holds
returns-then-holds c = λ k.
    ap (λ n. bit n k) (shl_exact 1 c.args.others 64 (lit< tt) (omega arith) ∙ one-mul (2 ^ c.args.others))
    ∙ bit_one c.args.others k ∙ sym (ap₂ (λ b t. b && t && eqb k c.args.others) c.if-entering.true (sym c.if-holds.ensures))
