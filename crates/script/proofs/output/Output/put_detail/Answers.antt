use Rattle.std.proofs.Common.{◌≡◌, ℕ, Bool, true, false, cond, ◌==◌, List, [], ◌++◌, map, None, sym, ap, ◌∙◌, eq-eqb, ne_eqb}
use Rattle.engine.specs.Messages.{Message, message}
use Rattle.script.specs.Text.{spaced, columns_text, row_text, detail_text}
use Rattle.script.proofs.Writing.{appended_nothing, appended_then, appended_same}
use Rattle.script.proofs.output.Output.put_detail.Goals as goal

no_fault : (row n : ℕ) (m : Message) (shown : List Message) (zero : Bool) → None ≡ m.fault → n ≡ m.number → (n == 0) ≡ zero → cond zero (spaced row ++ columns_text shown) [] ≡ detail_text row m.number m.fault shown
no_fault row n m shown zero fault number test =
    ap (λ b. cond b (spaced row ++ columns_text shown) []) (sym test) ∙ ap (λ k. row_text row k shown) number ∙ ap (λ f. detail_text row m.number f shown) fault

pub returns-in-Some : goal.returns-in-Some
returns-in-Some c =
    appended_same (ap (λ f. detail_text c.args.row (message c.args.first).number f (map message c.args.shown.now)) c.in-Some.ensures)
    (appended_then (appended_same (ap spaced c.from.ensures) c.put_spaced.ensures)
    (appended_then (appended_same (ap spaced c.from-in-Some.ensures) c.put_spaced-in-Some.ensures)
    (appended_same (ap spaced c.from-in-Some-2.ensures) c.put_spaced-in-Some-2.ensures)))

pub returns-then-number-eq0 : goal.returns-then-number-eq0
returns-then-number-eq0 c =
    appended_same (no_fault _ _ (message c.args.first) _ true c.in_default.ensures c.number.ensures (eq-eqb _ 0 c.if-number-eq0.true))
    (appended_then (appended_same (ap spaced c.from-then-number-eq0.ensures) c.put_spaced-then-number-eq0.ensures) c.put_columns.ensures)

pub returns-else-number-eq0 : goal.returns-else-number-eq0
returns-else-number-eq0 c =
    appended_same (no_fault _ _ (message c.args.first) (map message c.args.shown.now) false c.in_default.ensures c.number.ensures (ne_eqb _ 0 c.if-number-eq0.false))
    appended_nothing
