use Rattle.std.proofs.Common.{◌≡◌, [], ◌∷◌, inl, inr, sym, ◌∙◌, rules, tests}
use Rattle.std.proofs.lemmas.Bool.Decides.{Decides-eqb}
use Rattle.std.proofs.lemmas.Iterator.{YieldsList-from_slice}
use Rattle.std.proofs.lemmas.Iterator.Search.{all_from_yields_List}
use Rattle.std.proofs.lemmas.Slice.Eq.{strip_prefix_is}
use Rattle.std.specs.List.{list_all}
use Rattle.script.specs.Orders.{is_digit}
use Rattle.script.proofs.Reading.{unsigned, accepted, refused}
use Rattle.script.proofs.orders.argument.Goals as goal
use Rattle.script.proofs.orders.argument.Goals.{then-digits-gt-MOST_DIGITS-via-then-digits-gt-MOST_DIGITS, then-digits-gt-MOST_DIGITS-via-else-digits-gt-MOST_DIGITS+then-not-all}

pub returns-then-digits-gt-MOST_DIGITS : goal.returns-then-digits-gt-MOST_DIGITS
returns-then-digits-gt-MOST_DIGITS c =
    let ds = c.unwrap_or-digits.result.now in
    let after = unsigned c.args.text _ _ (strip_prefix_is Decides-eqb c.args.text.now (45 ∷ []) _ c.strip_prefix.ensures.cases) c.unwrap_or-digits.ensures in
    elim c.then-digits-gt-MOST_DIGITS.branch [
      | then-digits-gt-MOST_DIGITS-via-then-digits-gt-MOST_DIGITS w ↦ refused _ _ after (inl w.if-digits-gt-MOST_DIGITS.true)
      | then-digits-gt-MOST_DIGITS-via-else-digits-gt-MOST_DIGITS+then-not-all w ↦
          let all : w.all.result ≡ list_all is_digit ds = all_from_yields_List _ _ _ _ w.all.ensures.ran (YieldsList-from_slice ds cc) (λ x b q k. search (rules, tests)) in
          refused _ _ after (inr (sym all ∙ w.if-not-all.true))
    ]

pub returns : goal.returns
returns c =
    let ds = c.unwrap_or-digits.result.now in
    let after = unsigned c.args.text _ _ (strip_prefix_is Decides-eqb c.args.text.now (45 ∷ []) _ c.strip_prefix.ensures.cases) c.unwrap_or-digits.ensures in
    let all : c.all.result ≡ list_all is_digit ds = all_from_yields_List _ _ _ _ c.all.ensures.ran (YieldsList-from_slice ds cc) (λ x b q k. search (rules, tests)) in
    accepted _ _ after _ (sym all ∙ c.if-not-all.false) c.if-digits-gt-MOST_DIGITS.false c.decimal.ensures
