-- An argument is what `decimal` reads, where at most nine digits follow an optional minus.
use Rattle.std.proofs.Common.{◌≡◌, ◌≢◌, ◌⊎◌, inl, inr, ℕ, ◌^◌, ◌<◌, ◌≤◌, true, false, ◌&&◌, List, [], ◌∷◌, length, ℤ, pos, neg_ℤ, Some, None, Ok, Err, Option, Result, fold, refl, sym, ap, ◌∙◌, arith, rules, w32, ◌==◌, subst, ne_eqb, Bor, MatchOption}
use Rattle.std.proofs.lemmas.Bool.Decides.{nat_tests}
use Rattle.std.proofs.lemmas.Str.Parse.{IsNumeralModel, numerals_by_fold, digits_value_short, parse_signed_minus, parse_signed_digits}
use Rattle.std.specs.List.{list_all}
use Rattle.std.specs.Option.{option_map, SomeIff, unwrap_or}
use Rattle.std.specs.Result.{OkIff}
use Rattle.std.specs.Str.Parse.{signed_digits_value, ParsesSigned}
use Rattle.fields.specs.Numbers.{IsDecimal}
use Rattle.script.specs.Orders.{is_digit, all_digits, with_digit, count_fits, number_of, argument_of}

own : IsNumeralModel (λ ds. all_digits ds ≡ true) (fold with_digit 0)
own = numerals_by_fold _ (search rules) (fold with_digit) (search rules)

abbrev as_result : Option ℤ → Result ℤ ℕ
as_result None = Err 0
as_result (Some z) = Ok z

parsed : (text : List ℕ) (r : Option ℤ) → SomeIff r (IsDecimal text) (signed_digits_value 10 text) → ParsesSigned w32 10 text (as_result r)
parsed text None h = h
parsed text (Some z) h = h

all_is : (ds : List ℕ) → list_all is_digit ds ≡ all_digits ds
all_is [] = refl
all_is (d ∷ ds) = ap (λ b. is_digit d && b) (all_is ds)

number : (ds : List ℕ) → all_digits ds ≡ true → length ds ≤ 9 → 0 < length ds → number_of ds ≡ Some (fold with_digit 0 ds)
number ds digits few some = let fits : count_fits (length ds) ≡ true = grind (arith, nat_tests) in rw (fits, digits) refl

no_number : (ds : List ℕ) → (9 < length ds) ⊎ (list_all is_digit ds ≡ false) → number_of ds ≡ None
no_number ds (inl many) = let fits : count_fits (length ds) ≡ false = grind (arith, nat_tests) in rw fits refl
no_number ds (inr other) = let e : all_digits ds ≡ false = sym (all_is ds) ∙ other in grind (arith, nat_tests, e)

-- what a parse says where these digits follow the sign
read : (ds : List ℕ) (r : Option ℤ) (Q : Type 0) (sign : ℕ → ℤ) → all_digits ds ≡ true → length ds ≤ 9 → (0 < length ds → Q) → (Q → 0 < length ds) → OkIff (as_result r) Q (sign (fold with_digit 0 ds)) → r ≡ option_map sign (number_of ds)
read [] None Q sign digits few to from h = refl
read [] (Some z) Q sign digits few to from h = absurd (let k = from h.0 in omega arith)
read (d ∷ ds) None Q sign digits few to from h = absurd (h (to (omega arith)))
read (d ∷ ds) (Some z) Q sign digits few to from h = rw (number (d ∷ ds) digits few (omega arith)) (ap Some h.1)

-- the bytes after a minus, or all bytes where there is none
pub data Unsigned (text ds : List ℕ) : Type 0 where
  minus : text ≡ 45 ∷ ds → Unsigned text ds
  plain : ((rest : List ℕ) → text ≢ 45 ∷ rest) → text ≡ ds → Unsigned text ds

pub unsigned : (t d : Bor (List ℕ)) (r : Option (Bor (List ℕ))) → MatchOption r ((rest : List ℕ) → t.now ≢ 45 ∷ rest) (λ x. t.now ≡ 45 ∷ x.now) → d ≡ unwrap_or r t → Unsigned t.now d.now
unsigned t d None h e = plain h (ap (λ x. x.now) (sym e))
unsigned t d (Some x) h e = minus (h ∙ ap (λ y. 45 ∷ y.now) (sym e))

-- where there is no minus
plain_argument : (text : List ℕ) → ((rest : List ℕ) → text ≢ 45 ∷ rest) → argument_of text ≡ option_map pos (number_of text)
plain_argument [] other = refl
plain_argument (byte ∷ bytes) other = let test : (byte == 45) ≡ false = ne_eqb byte 45 (λ e. other bytes (ap (λ b. b ∷ bytes) e)) in rw test refl

module _ (text ds : List ℕ) where
  pub accepted : Unsigned text ds → (r : Option ℤ) → list_all is_digit ds ≡ true → length ds ≤ 9 → SomeIff r (IsDecimal text) (signed_digits_value 10 text) → r ≡ argument_of text
  accepted (minus e) r all few h =
      let digits : all_digits ds ≡ true = sym (all_is ds) ∙ all in
      let small : fold with_digit 0 ds < 10 ^ 9 = digits_value_short own ds 9 digits few in
      let told = parse_signed_minus own w32 (45 ∷ ds) (as_result r) (parsed (45 ∷ ds) r (subst (λ t. SomeIff r (IsDecimal t) (signed_digits_value 10 t)) e h)) refl in
      read ds r _ (λ n. neg_ℤ (pos n)) digits few (λ k. (digits, k, omega arith)) (λ q. q.1) told ∙ sym (ap argument_of e)
  accepted (plain other e) r all few h =
      let digits : all_digits ds ≡ true = sym (all_is ds) ∙ all in
      let small : fold with_digit 0 ds < 10 ^ 9 = digits_value_short own ds 9 digits few in
      let told = parse_signed_digits own w32 ds (as_result r) (parsed ds r (subst (λ t. SomeIff r (IsDecimal t) (signed_digits_value 10 t)) e h)) digits in
      read ds r _ pos digits few (λ k. (k, omega arith)) (λ q. q.0) told ∙ sym (plain_argument text other ∙ ap (λ t. option_map pos (number_of t)) e)

  pub refused : Unsigned text ds → (9 < length ds) ⊎ (list_all is_digit ds ≡ false) → None ≡ argument_of text
  refused (minus e) bad = sym (ap argument_of e ∙ ap (option_map (λ n. neg_ℤ (pos n))) (no_number ds bad))
  refused (plain other e) bad = sym (plain_argument text other ∙ ap (λ t. option_map pos (number_of t)) e ∙ ap (option_map pos) (no_number ds bad))
