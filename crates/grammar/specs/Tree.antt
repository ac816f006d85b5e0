-- The trees that rule texts stand for.
use Rattle.std.specs.Prelude.{ℕ, suc, ◌+◌}
use Rattle.grammar.specs.Symbol.{Sign, Relation, Name, Term}

-- signed terms, grouped from the left
pub data Sum : Type 0 where
  first : Sign → Term → Sum
  more : Sum → Sign → Term → Sum

abbrev pub terms : Sum → ℕ
terms (first d t) = 1
terms (more s d t) = suc (terms s)

pub data Claim : Type 0 where
  implication : Claim → Claim → Claim
  disjunction : Claim → Claim → Claim
  conjunction : Claim → Claim → Claim
  negation : Claim → Claim
  truth : Claim
  presence : Name → Claim
  comparison : Relation → Sum → Sum → Claim

pub data Pattern : Type 0 where
  empty : Pattern
  claim : Claim → Pattern
  alternative : Pattern → Pattern → Pattern
  sequence : Pattern → Pattern → Pattern
  star : Pattern → Pattern

-- how many claims a pattern has
abbrev pub claims_in : Pattern → ℕ
claims_in empty = 0
claims_in (claim c) = 1
claims_in (alternative x y) = claims_in x + claims_in y
claims_in (sequence x y) = claims_in x + claims_in y
claims_in (star x) = claims_in x
