use Rattle.std.proofs.Common.{◌≡◌, ℕ, ◌+◌, ◌-◌, ◌*◌, ◌≤◌, List, [], ◌∷◌, get_or, drop, sym, ap, ◌∙◌, arith}
use Rattle.std.proofs.lemmas.List.{at_drop_more}
use Rattle.grammar.specs.Spelling.{valued}
use Rattle.rule.proofs.spelling.value.Goals as goal

grows : (n : ℕ) (ds : List ℕ) → n ≤ valued n ds
grows n [] = omega arith
grows n (d ∷ ds) = omega (arith, grows (n * 10 + (d - 48)) ds)

pub returns-then-sum-gt-GREATEST : goal.returns-then-sum-gt-GREATEST
returns-then-sum-gt-GREATEST c =
    let l = c.loop-digit in
    let ds = c.args.digits.now in
    let digit : c.from.result ≡ get_or ds l.digit-index 0 - 48 = omega (arith, c.saturating_sub.ensures, c.from.ensures) in
    let step : valued l.sum (drop l.digit-index ds) ≡ valued (l.sum * 10 + c.from.result) (drop (l.digit-index + 1) ds) =
    at_drop_more (valued l.sum) ds l.digit-index 0 c.loop-digit-test.true ∙ ap (λ k. valued (l.sum * 10 + k) (drop (l.digit-index + 1) ds)) (sym digit) in
    omega (arith, l.invariant.0, step, grows (l.sum * 10 + c.from.result) (drop (l.digit-index + 1) ds), c.if-sum-gt-GREATEST.true)
