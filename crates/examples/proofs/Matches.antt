-- Rows that pass rules, from the bytes of the rules on.
use Rattle.std.proofs.Common.{◌≡◌, not, T, List, [], ◌∷◌, pos, Some, None, codes, sym, refl, subst, arith}
use Rattle.engine.specs.declared.Row.{Row}
use Rattle.engine.specs.Values.{Value}
use Rattle.grammar.specs.declared.Field.TheVariants.{C6}
use Rattle.grammar.specs.declared.Name.TheVariants.{Plain}
use Rattle.grammar.specs.declared.Relation.TheVariants.{Equal}
use Rattle.grammar.specs.declared.Sign.TheVariants.{Plus}
use Rattle.grammar.specs.declared.Term.TheVariants.{Constant, Named}
use Rattle.grammar.specs.Symbol.{LeftSquare, RightSquare, Underscore, Not, Relational, Number, FieldName}
use Rattle.grammar.specs.Tree.{Claim, empty, claim, negation, comparison, first}
use Rattle.grammar.specs.Cutting.{Placed, placed, symbols, Cut, cut_end, cut_space, cut_token}
use Rattle.grammar.proofs.Lexemes.{word_longest, number_longest, one_longest}
use Rattle.grammar.proofs.Sound.{run_rule}
use Rattle.matching.specs.Truth.{signed_by, compared}
use Rattle.matching.specs.Fits.{fits_empty, fits_claim}
use Rattle.matching.specs.Passing.{PassesRule}
use Rattle.examples.specs.Examples.{LetsBy, Any, NoColumn6}
use Rattle.examples.proofs.Texts.{no_round}

-- `_`
empty_passes : (rows : List Row) → PassesRule empty rows
empty_passes [] = record { beginning = []; others = []; joined = refl; fits = fits_empty }
empty_passes (newest ∷ older) = record { beginning = []; others = newest ∷ older; joined = refl; fits = fits_empty }

empty_tokens : List Placed
empty_tokens = placed Underscore 0 ∷ []

pub empty_pattern : LetsBy Any (codes "_")
unfolding empty_tokens
empty_pattern n w = (
  empty,
  empty_tokens,
  record {
    numbered = w;
    within = record { short = omega arith; cut = cut_token (one_longest 95 [] Underscore refl refl).0 refl cut_end; few = omega arith; shallow = no_round (symbols empty_tokens) refl; uncrowded = omega arith };
    derived = run_rule (symbols empty_tokens) empty refl;
  },
  λ rows p. empty_passes rows,
)

-- `[not c6 = 1]`
unequal : Claim
unequal = negation (comparison Equal (first Plus (Named (Plain C6))) (first Plus (Constant 1)))

unequal_tokens : List Placed
unequal_tokens = placed LeftSquare 0 ∷ placed Not 1 ∷ placed (FieldName C6) 5 ∷ placed (Relational Equal) 8 ∷ placed (Number 1) 10 ∷ placed RightSquare 11 ∷ []

unequal_cut : Cut 0 (codes "[not c6 = 1]") unequal_tokens
unfolding unequal_tokens
unequal_cut =
    cut_token (one_longest 91 (codes "not c6 = 1]") LeftSquare refl refl).0 refl
    (cut_token (word_longest 110 (codes "ot c6 = 1]") refl) refl
    (cut_space (cut_token (word_longest 99 (codes "6 = 1]") refl) refl
    (cut_space (cut_token (one_longest 61 (codes " 1]") (Relational Equal) refl refl).0 refl
    (cut_space (cut_token (number_longest 49 (codes "]") refl) ((tt, tt), refl, omega arith)
    (cut_token (one_longest 93 [] RightSquare refl refl).0 refl cut_end))))))))

-- a missing side makes the comparison false
missing_true : (v : Value) → v ≡ None → T (not (compared Equal (signed_by Plus v) (Some (pos 1))))
missing_true v e = subst (λ (x : Value). T (not (compared Equal (signed_by Plus x) (Some (pos 1))))) (sym e) tt

unequal_passes : (rows : List Row) → NoColumn6 rows → PassesRule (claim unequal) rows
unfolding unequal
unequal_passes [] p = absurd p
unequal_passes (newest ∷ older) p = record { beginning = newest ∷ []; others = older; joined = refl; fits = fits_claim (missing_true newest.values.c6 p) }

pub missing_is_unequal : LetsBy NoColumn6 (codes "[not c6 = 1]")
unfolding unequal unequal_tokens
missing_is_unequal n w = (
  claim unequal,
  unequal_tokens,
  record {
    numbered = w;
    within = record { short = omega arith; cut = unequal_cut; few = omega arith; shallow = no_round (symbols unequal_tokens) refl; uncrowded = omega arith };
    derived = run_rule (symbols unequal_tokens) (claim unequal) refl;
  },
  unequal_passes,
)
