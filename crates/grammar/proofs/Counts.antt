-- A rule's symbols have one `[` for each claim of its tree.
use Rattle.std.proofs.Common.{◌≡◌, ℕ, ◌+◌, List, [], ◌∷◌, ◌++◌, refl, arith}
use Rattle.grammar.specs.Symbol.{Symbol, RightSquare, RightRound, Bar, Dot, Star, Arrow, And, Or, Additive, Relational, Name, Term}
use Rattle.grammar.specs.Tree.{Sum, Claim, Pattern, claims_in}
use Rattle.grammar.specs.Claims.{IsName, unquoted, quoted, IsTerm, a_number, a_name, Terms, one_term, minus_term, joined_terms, IsSum, to_eight, IsClaim, one_either, implied, IsEither, one_both, joined_boths, IsBoth, one_single, joined_singles, IsSingle, denied, bracketed, is_true, is_known, compared}
use Rattle.grammar.specs.Patterns.{Rule, one_chain, joined_chains, Chain, one_piece, joined_pieces, Piece, bare, starred, Base, blank, round, square}
use Rattle.grammar.specs.Limits.{count, claiming}

abbrev squares : List Symbol → ℕ
squares ts = count claiming ts

pub count_append : (f : Symbol → ℕ) (us vs : List Symbol) → count f (us ++ vs) ≡ count f us + count f vs
count_append f [] vs = omega arith
count_append f (u ∷ us) vs = omega (arith, count_append f us vs)

name_free : {us : List Symbol} {l : Name} → IsName us l → squares us ≡ 0
name_free (unquoted k) = refl
name_free (quoted k) = refl

term_free : {us : List Symbol} {t : Term} → IsTerm us t → squares us ≡ 0
term_free (a_number n) = refl
term_free (a_name d) = name_free d

terms_free : {us : List Symbol} {s : Sum} → Terms us s → squares us ≡ 0
terms_free (one_term d) = term_free d
terms_free (minus_term d) = omega (arith, term_free d)
terms_free (joined_terms {us = us} {vs = vs} d s e) = omega (arith, count_append claiming us (Additive s ∷ vs), terms_free d, term_free e)

sum_free : {us : List Symbol} {s : Sum} → IsSum us s → squares us ≡ 0
sum_free (to_eight d h) = terms_free d

mutual
  claim_free : {us : List Symbol} {x : Claim} → IsClaim us x → squares us ≡ 0
  claim_free (one_either d) = either_free d
  claim_free (implied {us = us} {vs = vs} d e) = omega (arith, count_append claiming us (Arrow ∷ vs), either_free d, either_free e)

  either_free : {us : List Symbol} {x : Claim} → IsEither us x → squares us ≡ 0
  either_free (one_both d) = both_free d
  either_free (joined_boths {us = us} {vs = vs} d e) = omega (arith, count_append claiming us (Or ∷ vs), either_free d, both_free e)

  both_free : {us : List Symbol} {x : Claim} → IsBoth us x → squares us ≡ 0
  both_free (one_single d) = single_free d
  both_free (joined_singles {us = us} {vs = vs} d e) = omega (arith, count_append claiming us (And ∷ vs), both_free d, single_free e)

  single_free : {us : List Symbol} {x : Claim} → IsSingle us x → squares us ≡ 0
  single_free (denied d) = omega (arith, single_free d)
  single_free (bracketed {us = us} d) = omega (arith, count_append claiming us (RightRound ∷ []), claim_free d)
  single_free is_true = refl
  single_free (is_known d) = omega (arith, name_free d)
  single_free (compared {us = us} {vs = vs} d r e) = omega (arith, count_append claiming us (Relational r ∷ vs), sum_free d, sum_free e)

mutual
  pub rule_claims : {us : List Symbol} {x : Pattern} → Rule us x → squares us ≡ claims_in x
  rule_claims (one_chain d) = chain_claims d
  rule_claims (joined_chains {us = us} {vs = vs} d e) = omega (arith, count_append claiming us (Bar ∷ vs), rule_claims d, chain_claims e)

  chain_claims : {us : List Symbol} {x : Pattern} → Chain us x → squares us ≡ claims_in x
  chain_claims (one_piece d) = piece_claims d
  chain_claims (joined_pieces {us = us} {vs = vs} d e) = omega (arith, count_append claiming us (Dot ∷ vs), chain_claims d, piece_claims e)

  piece_claims : {us : List Symbol} {x : Pattern} → Piece us x → squares us ≡ claims_in x
  piece_claims (bare d) = base_claims d
  piece_claims (starred {us = us} d) = omega (arith, count_append claiming us (Star ∷ []), piece_claims d)

  base_claims : {us : List Symbol} {x : Pattern} → Base us x → squares us ≡ claims_in x
  base_claims blank = refl
  base_claims (round {us = us} d) = omega (arith, count_append claiming us (RightRound ∷ []), rule_claims d)
  base_claims (square {us = us} d) = omega (arith, count_append claiming us (RightSquare ∷ []), claim_free d)
