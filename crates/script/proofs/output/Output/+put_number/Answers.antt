use Rattle.std.proofs.Common.{◌/◌, ◌+◌, ◌%◌, [], ◌∷◌, decimal, sym, ap, ◌∙◌, arith}
use Rattle.std.proofs.lemmas.Fmt.{decimal_digit, decimal_step}
use Rattle.script.specs.Output.{Appended}
use Rattle.script.proofs.Writing.{appended_then, appended_same}
use Rattle.script.proofs.output.Output.+put_number.Goals as goal
use Rattle.script.proofs.output.Output.+put_number.Goals.{then-n-ge10, else-n-ge10}

pub returns : goal.returns
returns t c =
    elim c.if-n-ge10.branch [
      | then-n-ge10 w ↦
          let front : Appended c.args.self.now (decimal (c.args.n / 10)) c.if-n-ge10.self = rw w.self-is w.put_number.ensures in
          appended_same (sym (decimal_step c.args.n w.if-n-ge10.true c.ranges.n.fits)) (appended_then front c.put_byte.ensures)
      | else-n-ge10 w ↦
          let digit : Appended c.args.self.now ((48 + c.args.n % 10) ∷ []) c.put_byte.new.self = rw (← w.self-is) c.put_byte.ensures in
          appended_same (ap (λ d. (48 + d) ∷ []) (omega arith) ∙ sym (decimal_digit c.args.n w.if-n-ge10.false)) digit
    ]
