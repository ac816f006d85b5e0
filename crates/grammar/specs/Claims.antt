-- The grammar of claims: for each nonterminal, which lists of symbols it derives, and the tree of each. What is joined groups
-- from the left, since the left part of a join is of the same kind as the whole.
use Rattle.std.specs.Prelude.{ℕ, ◌≤◌, List, [], ◌∷◌, ◌++◌}
use Rattle.grammar.specs.Symbol.{Sign, Plus, Minus, Relation, Symbol, LeftRound, RightRound, Quote, Arrow, And, Or, Not, Has, True, Additive, Relational, Number, FieldName, Field, Name, Plain, Newest, Term, Constant, Named}
use Rattle.grammar.specs.Tree.{Sum, first, more, terms, Claim, implication, disjunction, conjunction, negation, truth, presence, comparison}

-- NAME = FIELD ["'"]
pub data IsName : List Symbol → Name → Type 0 where
  unquoted : (k : Field) → IsName (FieldName k ∷ []) (Plain k)
  quoted : (k : Field) → IsName (FieldName k ∷ Quote ∷ []) (Newest k)

-- TERM = NUMBER | NAME
pub data IsTerm : List Symbol → Term → Type 0 where
  a_number : (n : ℕ) → IsTerm (Number n ∷ []) (Constant n)
  a_name : {us : List Symbol} {l : Name} → IsName us l → IsTerm us (Named l)

-- TERMS = ["-"] TERM | TERMS ("+" | "-") TERM
pub data Terms : List Symbol → Sum → Type 0 where
  one_term : {us : List Symbol} {t : Term} → IsTerm us t → Terms us (first Plus t)
  minus_term : {us : List Symbol} {t : Term} → IsTerm us t → Terms (Additive Minus ∷ us) (first Minus t)
  joined_terms : {us vs : List Symbol} {s : Sum} {t : Term} → Terms us s → (d : Sign) → IsTerm vs t → Terms (us ++ (Additive d ∷ vs)) (more s d t)

-- SUM = TERMS, at most eight of them
pub data IsSum : List Symbol → Sum → Type 0 where
  to_eight : {us : List Symbol} {s : Sum} → Terms us s → terms s ≤ 8 → IsSum us s

mutual
  -- CLAIM = EITHER | EITHER "=>" EITHER
  pub data IsClaim : List Symbol → Claim → Type 0 where
    one_either : {us : List Symbol} {x : Claim} → IsEither us x → IsClaim us x
    implied : {us vs : List Symbol} {x y : Claim} → IsEither us x → IsEither vs y → IsClaim (us ++ (Arrow ∷ vs)) (implication x y)

  -- EITHER = BOTH | EITHER "or" BOTH
  pub data IsEither : List Symbol → Claim → Type 0 where
    one_both : {us : List Symbol} {x : Claim} → IsBoth us x → IsEither us x
    joined_boths : {us vs : List Symbol} {x y : Claim} → IsEither us x → IsBoth vs y → IsEither (us ++ (Or ∷ vs)) (disjunction x y)

  -- BOTH = SINGLE | BOTH "and" SINGLE
  pub data IsBoth : List Symbol → Claim → Type 0 where
    one_single : {us : List Symbol} {x : Claim} → IsSingle us x → IsBoth us x
    joined_singles : {us vs : List Symbol} {x y : Claim} → IsBoth us x → IsSingle vs y → IsBoth (us ++ (And ∷ vs)) (conjunction x y)

  -- SINGLE = "not" SINGLE | "(" CLAIM ")" | "true" | "has" NAME | SUM RELATION SUM
  pub data IsSingle : List Symbol → Claim → Type 0 where
    denied : {us : List Symbol} {x : Claim} → IsSingle us x → IsSingle (Not ∷ us) (negation x)
    bracketed : {us : List Symbol} {x : Claim} → IsClaim us x → IsSingle (LeftRound ∷ (us ++ (RightRound ∷ []))) x
    is_true : IsSingle (True ∷ []) truth
    is_known : {us : List Symbol} {l : Name} → IsName us l → IsSingle (Has ∷ us) (presence l)
    compared : {us vs : List Symbol} {s t : Sum} → IsSum us s → (r : Relation) → IsSum vs t → IsSingle (us ++ (Relational r ∷ vs)) (comparison r s t)
