use Rattle.std.proofs.Common.{◌≡◌, [], ◌∷◌, ℤ, pos, negsuc, nat_abs, ◌≤ℤ◌, ◌<ℤ◌, decimal, refl, ap, ◌∙◌, arith, rules}
use Rattle.std.proofs.lemmas.Int.{ints}
use Rattle.std.specs.Fmt.{signed_decimal}
use Rattle.script.specs.Output.{Appended}
use Rattle.script.proofs.Writing.{appended_then, appended_same}
use Rattle.script.proofs.output.Output.put_signed.Goals as goal
use Rattle.script.proofs.output.Output.put_signed.Goals.{then-z-lt0, else-z-lt0}

below : (z : ℤ) → z <ℤ pos 0 → 45 ∷ decimal (nat_abs z) ≡ signed_decimal z
below (pos n) h = absurd (omega (arith, ints))
below (negsuc n) h = refl

above : (z : ℤ) → pos 0 ≤ℤ z → decimal (nat_abs z) ≡ signed_decimal z
above (pos n) h = refl
above (negsuc n) h = absurd h.le

pub returns : goal.returns
returns c =
    let size : c.from.result ≡ nat_abs c.args.z = search rules in
    elim c.if-z-lt0.branch [
      | then-z-lt0 w ↦
          let low : c.args.z <ℤ pos 0 = search rules in
          let sign : Appended c.args.self.now (45 ∷ []) c.if-z-lt0.self = rw w.self-is w.put_byte.ensures in
          appended_same (ap (λ n. 45 ∷ decimal n) size ∙ below c.args.z low) (appended_then sign c.put_number.ensures)
      | else-z-lt0 w ↦
          let high : pos 0 ≤ℤ c.args.z = search rules in
          let number : Appended c.args.self.now (decimal c.from.result) c.put_number.new.self = rw (← w.self-is) c.put_number.ensures in
          appended_same (ap decimal size ∙ above c.args.z high) number
    ]
