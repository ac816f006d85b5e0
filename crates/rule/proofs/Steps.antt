-- How the answers of the readers of rule, chain, piece and base join.
use Rattle.std.proofs.Common.{◌≡◌, ℕ, ◌+◌, ◌-◌, ◌<◌, ◌≤◌, List, [], ◌∷◌, length, drop, refl, ap, ◌∙◌, subst, arith, length-drop}
use mathlib.Core.Option.{Option, none, some}
use Rattle.grammar.specs.Symbol.{Symbol, LeftSquare, LeftRound, RightRound, Bar, Dot, Star, Underscore}
use Rattle.grammar.specs.Tree.{Claim, Pattern, empty, claim, alternative, sequence, star}
use Rattle.grammar.specs.Views.{AtBase, base_Underscore, base_LeftRound, base_LeftSquare, base_other, at_base, AfterPiece, piece_Star, piece_Dot, piece_Bar, piece_RightRound, piece_other, after_piece}
use Rattle.grammar.specs.ClaimMachine.{claim_run, claim_start, claim_good, claim_bad}
use Rattle.grammar.specs.Patterns.{Rule}
use Rattle.grammar.specs.Viable.{FirstBad}
use Rattle.grammar.specs.Machine.{Frame, frame, want, have, Next as Step, stop, on_want, on_have, follow, run, start, good, bad}
use Rattle.grammar.proofs.Complete.{NoStar, NoDot, PieceOver, ChainOver, chain_takes, rule_takes, inside_runs, then_have}
use Rattle.grammar.proofs.Sound.{run_rule}
use Rattle.grammar.proofs.Fault.{first_bad}
use Rattle.rule.specs.Readers.{Next, Lacks, BaseEnds, BaseFails, PieceEnds, ChainSoFar, ChainEnds, RuleSoFar, RuleEnds, RuleFails}

by_step : (t : Symbol) (ts : List Symbol) {m n : Step} → m ≡ n → follow m t ts (λ s. run s ts) ≡ follow n t ts (λ s. run s ts)
by_step t ts e = ap (λ (n : Step). follow n t ts (λ s. run s ts)) e

star_free : (t : Symbol) (v : AfterPiece t) → (t ≡ Star → ⊥) → NoStar v
star_free t piece_Star e = e refl
star_free t piece_Dot e = tt
star_free t piece_Bar e = tt
star_free t piece_RightRound e = tt
star_free t (piece_other u) e = tt

piece_is_over : (l : List Symbol) → Lacks Star l → PieceOver l
piece_is_over [] e = tt
piece_is_over (t ∷ l) e = star_free t (after_piece t) e

dot_free : (t : Symbol) (v : AfterPiece t) → (t ≡ Star → ⊥) → (t ≡ Dot → ⊥) → NoDot v
dot_free t piece_Star e f = e refl
dot_free t piece_Dot e f = f refl
dot_free t piece_Bar e f = tt
dot_free t piece_RightRound e f = tt
dot_free t (piece_other u) e f = tt

chain_is_over : (l : List Symbol) → Lacks Star l → Lacks Dot l → ChainOver l
chain_is_over [] e f = tt
chain_is_over (t ∷ l) e f = dot_free t (after_piece t) e f

-- what no base begins with stops where one is wanted
want_stops : (f : Frame) (K : List Frame) (t : Symbol) (v : AtBase t) → (t ≡ Underscore → ⊥) → (t ≡ LeftRound → ⊥) → (t ≡ LeftSquare → ⊥) → on_want f K v ≡ stop
want_stops f K t base_Underscore n m l = absurd (n refl)
want_stops f K t base_LeftRound n m l = absurd (m refl)
want_stops f K t base_LeftSquare n m l = absurd (l refl)
want_stops f K t (base_other u) n m l = refl

want_bad : (f : Frame) (K : List Frame) (l : List Symbol) → Lacks Underscore l → Lacks LeftRound l → Lacks LeftSquare l → run (want f K) l ≡ bad l
want_bad f K [] a b c = refl
want_bad f K (t ∷ l) a b c = by_step t l (want_stops f K t (at_base t) a b c)

-- what no rule goes on with stops where a piece is had, inside round brackets
round_stops : (f g : Frame) (K : List Frame) (x : Pattern) (t : Symbol) (v : AfterPiece t) → (t ≡ Star → ⊥) → (t ≡ Dot → ⊥) → (t ≡ Bar → ⊥) → (t ≡ RightRound → ⊥) → on_have f (g ∷ K) x v ≡ stop
round_stops f g K x t piece_Star a b c d = absurd (a refl)
round_stops f g K x t piece_Dot a b c d = absurd (b refl)
round_stops f g K x t piece_Bar a b c d = absurd (c refl)
round_stops f g K x t piece_RightRound a b c d = absurd (d refl)
round_stops f g K x t (piece_other u) a b c d = refl

round_bad : (r c : Option Pattern) (g : Frame) (K : List Frame) (x : Pattern) (l : List Symbol) → Lacks Star l → Lacks Dot l → Lacks Bar l → Lacks RightRound l → run (have (frame r c) (g ∷ K) x) l ≡ bad l
round_bad r c g K x [] a b d e = refl
round_bad r c g K x (t ∷ l) a b d e = by_step t l (round_stops (frame r c) g K x t (after_piece t) a b d e)

-- the same at the whole rule, where `)` stops too
whole_stops : (r c : Option Pattern) (x : Pattern) (t : Symbol) (v : AfterPiece t) → (t ≡ Star → ⊥) → (t ≡ Dot → ⊥) → (t ≡ Bar → ⊥) → on_have (frame r c) [] x v ≡ stop
whole_stops r c x t piece_Star a b d = absurd (a refl)
whole_stops r c x t piece_Dot a b d = absurd (b refl)
whole_stops r c x t piece_Bar a b d = absurd (d refl)
whole_stops r c x t piece_RightRound a b d = refl
whole_stops r c x t (piece_other u) a b d = refl

module _ (ts : List Symbol) where
  pub base_blank : (at : ℕ) → Next ts at Underscore → BaseEnds ts at (at + 1) empty
  base_blank at n = record { on = omega arith; within = omega (arith, n.within); runs = λ f K. ap (run (want f K)) n.here }

  pub base_stops : (at : ℕ) → at ≤ length ts → Lacks Underscore (drop at ts) → Lacks LeftRound (drop at ts) → Lacks LeftSquare (drop at ts) → BaseFails ts at at
  base_stops at h a b c = record { within = h; runs = λ f K. want_bad f K (drop at ts) a b c }

  pub base_unclosed : (at p : ℕ) (x : Pattern) → Next ts at LeftRound → RuleEnds ts (at + 1) p x → Lacks RightRound (drop p ts) → BaseFails ts at p
  base_unclosed at p x m r n =
      let s : RuleSoFar ts (at + 1) p x = r.so_far in
      record {
        within = s.within;
        runs = λ f K. ap (run (want f K)) m.here ∙ s.runs (f ∷ K) ∙ round_bad none none f K x (drop p ts) s.star_over s.dot_over r.over n;
      }

  pub base_square : (at p : ℕ) (x : Claim) → Next ts at LeftSquare → at < p → p ≤ length ts → claim_run claim_start (drop (at + 1) ts) ≡ claim_good x (drop p ts) → BaseEnds ts at p (claim x)
  base_square at p x m h k e = record {
    on = h;
    within = k;
    runs = λ f K. ap (run (want f K)) m.here ∙ inside_runs f K claim_start (drop (at + 1) ts) ∙ ap (then_have f K) e;
  }

  pub base_unsquare : (at k : ℕ) → Next ts at LeftSquare → k ≤ length ts → claim_run claim_start (drop (at + 1) ts) ≡ claim_bad (drop k ts) → BaseFails ts at k
  base_unsquare at k m h e = record { within = h; runs = λ f K. ap (run (want f K)) m.here ∙ inside_runs f K claim_start (drop (at + 1) ts) ∙ ap (then_have f K) e }

  pub piece_more : (at p : ℕ) (x : Pattern) → BaseEnds ts at p x → Next ts p Star → BaseEnds ts at (p + 1) (star x)
  piece_more at p x b n = record { on = omega (arith, b.on); within = omega (arith, n.within); runs = λ f K. b.runs f K ∙ ap (run (have f K x)) n.here }

  pub chain_more : (at p q : ℕ) (x y : Pattern) → ChainSoFar ts at p x → Next ts p Dot → PieceEnds ts (p + 1) q y → ChainSoFar ts at q (sequence x y)
  chain_more at p q x y s n b = record {
    on = omega (arith, s.on, b.base.on);
    within = b.base.within;
    runs = λ r K. s.runs r K ∙ ap (run (have (frame r none) K x)) n.here ∙ b.base.runs (frame r (some x)) K
        ∙ chain_takes r (some x) K y (drop q ts) (piece_is_over (drop q ts) b.over);
    star_over = b.over;
  }

  pub rule_more : (at p q : ℕ) (x y : Pattern) → RuleSoFar ts at p x → Next ts p Bar → ChainEnds ts (p + 1) q y → RuleSoFar ts at q (alternative x y)
  rule_more at p q x y s n b =
      let c : ChainSoFar ts (p + 1) q y = b.so_far in
      record {
        on = omega (arith, s.on, c.on);
        within = c.within;
        runs = λ K. s.runs K ∙ ap (run (have (frame none none) K x)) n.here ∙ c.runs (some x) K
            ∙ rule_takes (some x) K y (drop q ts) (chain_is_over (drop q ts) c.star_over b.over);
        star_over = c.star_over;
        dot_over = b.over;
      }

  -- the whole
  fails_at : (k : ℕ) → k ≤ length ts → run start ts ≡ bad (drop k ts) → FirstBad ts k
  fails_at k h e =
      let q : length ts - length (drop k ts) ≡ k = omega (arith, length-drop k ts) in
      subst (FirstBad ts) q (first_bad ts (drop k ts) e)

  pub read_fails : (k : ℕ) → RuleFails ts 0 k → FirstBad ts k
  read_fails k r = fails_at k r.within (r.runs [])

  whole_bad : (x : Pattern) (l : List Symbol) → 0 < length l → Lacks Star l → Lacks Dot l → Lacks Bar l → run (have (frame none none) [] x) l ≡ bad l
  whole_bad x [] h a b c = absurd (omega arith)
  whole_bad x (t ∷ l) h a b c = by_step t l (whole_stops none none x t (after_piece t) a b c)

  pub read_goes_on : (p : ℕ) (x : Pattern) → RuleEnds ts 0 p x → p < length ts → FirstBad ts p
  read_goes_on p x r h =
      let s : RuleSoFar ts 0 p x = r.so_far in
      fails_at p s.within (s.runs [] ∙ whole_bad x (drop p ts) (omega (arith, length-drop p ts)) s.star_over s.dot_over r.over)

  ended : (x : Pattern) (l : List Symbol) → length l ≡ 0 → run (have (frame none none) [] x) l ≡ good x
  ended x [] h = refl
  ended x (t ∷ l) h = absurd (omega arith)

  pub read_ends : (p : ℕ) (x : Pattern) → RuleEnds ts 0 p x → length ts ≤ p → Rule ts x
  read_ends p x r h =
      let s : RuleSoFar ts 0 p x = r.so_far in
      run_rule ts x (s.runs [] ∙ ended x (drop p ts) (omega (arith, length-drop p ts)))
