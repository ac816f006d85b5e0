-- Texts cut by hand, token by token.
use Rattle.std.proofs.Common.{◌≡◌, ℕ, zero, suc, ◌+◌, ◌≤◌, List, [], ◌∷◌, take, Some, None, codes, refl, arith}
use Rattle.grammar.specs.declared.Refusal.TheVariants.{NotAToken, Unexpected}
use Rattle.grammar.specs.Symbol.{Symbol, LeftSquare, RightSquare, True, FieldName}
use Rattle.grammar.specs.declared.Field.TheVariants.{C1}
use Rattle.grammar.specs.Tree.{claim, truth}
use Rattle.grammar.specs.Spelling.{Spells}
use Rattle.grammar.specs.Cutting.{Placed, placed, symbols, Cut, cut_end, cut_token, uncut_lexeme, uncut_later}
use Rattle.grammar.specs.Limits.{count, opening, Shallow}
use Rattle.grammar.specs.Reading.{Within, no_token, unexpected}
use Rattle.grammar.proofs.Lexemes.{word_longest, one_longest}
use Rattle.grammar.proofs.Cuts.{spells_spelled}
use Rattle.grammar.proofs.Fault.{first_bad}
use Rattle.grammar.proofs.Sound.{run_rule}
use Rattle.examples.specs.Examples.{RefusedBy, ReadAs}

count_front : (f : Symbol → ℕ) (k : ℕ) (ts : List Symbol) → count f (take k ts) ≤ count f ts
count_front f zero ts = omega arith
count_front f (suc k) [] = omega arith
count_front f (suc k) (t ∷ ts) = omega (arith, count_front f k ts)

-- with no `(` none is too deep
pub no_round : (ts : List Symbol) → count opening ts ≡ 0 → Shallow ts
no_round ts e k d = omega (arith, d.over, count_front opening (k + 1) ts)

empty_within : Within (codes "") []
empty_within = record { short = omega arith; cut = cut_end; few = omega arith; shallow = no_round [] refl; uncrowded = omega arith }

pub empty_text : RefusedBy 7 0 (codes "")
empty_text n w = (Unexpected 0, unexpected w empty_within (first_bad [] [] refl), refl, refl)

-- `[true]`
true_tokens : List Placed
true_tokens = placed LeftSquare 0 ∷ placed True 1 ∷ placed RightSquare 5 ∷ []

true_cut : Cut 0 (codes "[true]") true_tokens
unfolding true_tokens
true_cut =
    cut_token (one_longest 91 (codes "true]") LeftSquare refl refl).0 refl
    (cut_token (word_longest 116 (codes "rue]") refl) refl
    (cut_token (one_longest 93 [] RightSquare refl refl).0 refl cut_end))

pub always_true : ReadAs (claim truth) (codes "[true]")
unfolding true_tokens
always_true n w = (
  true_tokens,
  record {
    numbered = w;
    within = record { short = omega arith; cut = true_cut; few = omega arith; shallow = no_round (symbols true_tokens) refl; uncrowded = omega arith };
    derived = run_rule (symbols true_tokens) (claim truth) refl;
  },
)

-- `[c1]`
c1_tokens : List Placed
c1_tokens = placed LeftSquare 0 ∷ placed (FieldName C1) 1 ∷ placed RightSquare 3 ∷ []

c1_cut : Cut 0 (codes "[c1]") c1_tokens
unfolding c1_tokens
c1_cut =
    cut_token (one_longest 91 (codes "c1]") LeftSquare refl refl).0 refl
    (cut_token (word_longest 99 (codes "1]") refl) refl
    (cut_token (one_longest 93 [] RightSquare refl refl).0 refl cut_end))

c1_within : Within (codes "[c1]") c1_tokens
unfolding c1_tokens
c1_within = record { short = omega arith; cut = c1_cut; few = omega arith; shallow = no_round (symbols c1_tokens) refl; uncrowded = omega arith }

pub no_comparison : RefusedBy 7 3 (codes "[c1]")
unfolding c1_tokens
no_comparison n w = (Unexpected 3, unexpected w c1_within (first_bad (symbols c1_tokens) (RightSquare ∷ []) refl), refl, refl)

-- `[c7 = 1]`
unknown : (s : Symbol) → Spells s (codes "c7") → ⊥
unknown s h = let e : None ≡ Some s = spells_spelled s (codes "c7") h in let z : ◌≡◌ {A = ℕ} 0 1 = cc in omega arith

pub unknown_word : RefusedBy 3 1 (codes "[c7 = 1]")
unknown_word n w = (
  NotAToken 1,
  no_token w (omega arith)
      (uncut_later LeftSquare (one_longest 91 (codes "c7 = 1]") LeftSquare refl refl).0 refl
      (uncut_lexeme (word_longest 99 (codes "7 = 1]") refl) unknown)),
  refl,
  refl,
)
