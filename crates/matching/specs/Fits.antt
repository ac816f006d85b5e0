-- The pattern relation: which rows fit a pattern, and when rows pass it.
use Rattle.std.specs.Prelude.{◌≡◌, Bool, T, List, [], ◌∷◌, ◌++◌}
use Rattle.grammar.specs.Tree.{Claim, Pattern, empty, claim, alternative, sequence, star}

-- which rows fit a pattern; `test c r` says whether the claim c is true of the row r
pub data Fits {R : Type 0} (test : Claim → R → Bool) : Pattern → List R → Type 0 where
  fits_empty : Fits test empty []
  fits_claim : {c : Claim} {r : R} → T (test c r) → Fits test (claim c) (r ∷ [])
  fits_left : {p q : Pattern} {xs : List R} → Fits test p xs → Fits test (alternative p q) xs
  fits_right : {p q : Pattern} {xs : List R} → Fits test q xs → Fits test (alternative p q) xs
  fits_sequence : {p q : Pattern} {xs ys : List R} → Fits test p xs → Fits test q ys → Fits test (sequence p q) (xs ++ ys)
  fits_stop : {p : Pattern} → Fits test (star p) []
  fits_more : {p : Pattern} {xs ys : List R} → Fits test p xs → Fits test (star p) ys → Fits test (star p) (xs ++ ys)

-- a list cut in two, with a fact of each part
pub record Split {R : Type 0} (P Q : List R → Type 0) (rows : List R) : Type 0 where
  pub front : List R
  pub back : List R
  pub joined : rows ≡ front ++ back
  pub first : P front
  pub rest : Q back

-- some beginning of the rows fits
pub record Passes {R : Type 0} (test : Claim → R → Bool) (p : Pattern) (rows : List R) : Type 0 where
  pub beginning : List R
  pub others : List R
  pub joined : rows ≡ beginning ++ others
  pub fits : Fits test p beginning
