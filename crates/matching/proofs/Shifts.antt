-- One row's walk at a node, from what it is at the parts.
use Rattle.std.proofs.Common.{◌≡◌, ℕ, ◌+◌, ◌≤◌, Bool, true, false, ◌&&◌, ◌||◌, ap, ◌∙◌, subst, sym, ap₂, arith, bit_or}
use Rattle.grammar.specs.Tree.{Pattern, claims_in}
use Rattle.rule.specs.declared.node.Node.TheVariants.{Alternative, Sequence, Star}
use Rattle.rule.specs.declared.rule.Rule.{Rule}
use Rattle.rule.specs.declared.summary.Summary.{Summary}
use Rattle.rule.specs.Summaries.{after}
use Rattle.rule.specs.Trees.{Thing, as_pattern}
use Rattle.rule.specs.Held.{thing_of, meaning, summary_of}
use Rattle.matching.specs.declared.truth.Context.{Context}
use Rattle.matching.specs.Walk.{null, left, shift}
use Rattle.matching.specs.Marks.{bit, meets}
use Rattle.matching.specs.Passing.{tested, pattern_at, Shifted}
use Rattle.matching.proofs.Bitwise.{bit_of_or}
use Rattle.matching.proofs.Summed.{nullable_is, claims_are, last_is}

-- what d is after `a || b`, by the value of a
module _ (b : Bool) {a d : Bool} where
  pub or_first : d ≡ a → a ≡ true → d ≡ (a || b)
  or_first p q = p ∙ q ∙ sym (ap (λ x. x || b) q)

  pub or_second : d ≡ b → a ≡ false → d ≡ (a || b)
  or_second p q = p ∙ sym (ap (λ x. x || b) q)

abbrev pub claims_at : Thing → ℕ
claims_at t = claims_in (as_pattern t)

-- the claims of two parts lie in the bounds of the whole
pub parts_within : (u : Rule) (n a b lo : ℕ) (s : Summary) → claims_at (thing_of u n) ≡ claims_at (thing_of u a) + claims_at (thing_of u b) → lo + claims_in (pattern_at u n) ≤ 60 → s ≡ summary_of u a
    → (s.claims ≡ claims_in (pattern_at u a)) × (lo + s.claims + claims_in (pattern_at u b) ≤ 60)
parts_within u n a b lo s e h f =
    let g : (summary_of u a).claims ≡ claims_in (pattern_at u a) = claims_are (pattern_at u a) (omega arith) in
    let k : s.claims ≡ claims_in (pattern_at u a) = ap (λ x. x.claims) f ∙ g in
    (k, omega arith)

module _ (x : Context) (n lo : ℕ) (e : Bool) (m : ℕ) (h : lo + claims_in (pattern_at x.rule.now n) ≤ 60) where
  abbrev walked : Bool → ℕ → Pattern → ℕ → Bool
  walked d i p k = shift (tested x.newest.now) x.row.now (bit m) d i p k

  module _ (a b : ℕ) (s : Summary) (f : s ≡ summary_of x.rule.now a) (one other : ℕ) (i : Shifted x a lo e m one) where
    -- the parts a and b side by side or one after the other, where b is entered so
    both : (d : Bool) → lo + s.claims ≡ lo + claims_in (pattern_at x.rule.now a) → Shifted x b (lo + s.claims) d m other
        → (k : ℕ) → bit (bit_or one other) k ≡ (walked e lo (pattern_at x.rule.now a) k || walked d (lo + claims_in (pattern_at x.rule.now a)) (pattern_at x.rule.now b) k)
    both d q j k = bit_of_or one other k ∙ ap₂ ◌||◌ (i k) (j k ∙ ap (λ c. walked d c (pattern_at x.rule.now b) k) q)

    pub step_alternative : thing_of x.rule.now n ≡ meaning x.rule.now (Alternative a b) → Shifted x b (lo + s.claims) e m other → Shifted x n lo e m (bit_or one other)
    step_alternative p j k =
        let w = parts_within x.rule.now n a b lo s (ap claims_at p) h f in
        subst (λ t. bit (bit_or one other) k ≡ walked e lo (as_pattern t) k) (sym p) (both e (ap (λ c. lo + c) w.0) j k)

    pub step_sequence : (d : Bool) → thing_of x.rule.now n ≡ meaning x.rule.now (Sequence a b) → d ≡ (e && s.nullable || meets m (after lo s.last)) → Shifted x b (lo + s.claims) d m other → Shifted x n lo e m (bit_or one other)
    step_sequence d p t j k =
        let w = parts_within x.rule.now n a b lo s (ap claims_at p) h f in
        let on : d ≡ (e && null (pattern_at x.rule.now a) || left (bit m) lo (pattern_at x.rule.now a)) =
        t ∙ ap (λ s. e && s.nullable || meets m (after lo s.last)) f ∙ ap₂ (λ v z. e && v || z) (nullable_is (pattern_at x.rule.now a)) (last_is (pattern_at x.rule.now a) m lo (omega (arith, w))) in
        subst (λ t. bit (bit_or one other) k ≡ walked e lo (as_pattern t) k) (sym p)
        (both d (ap (λ c. lo + c) w.0) j k ∙ ap (λ d. walked e lo (pattern_at x.rule.now a) k || walked d (lo + claims_in (pattern_at x.rule.now a)) (pattern_at x.rule.now b) k) on)

  pub step_star : (a : ℕ) (d : Bool) (one : ℕ) → thing_of x.rule.now n ≡ meaning x.rule.now (Star a) → d ≡ (e || meets m (after lo (summary_of x.rule.now a).last)) → Shifted x a lo d m one → Shifted x n lo e m one
  step_star a d one p t i k =
      let w : lo + claims_in (pattern_at x.rule.now a) ≤ 60 = omega (arith, ap claims_at p) in
      let on : d ≡ (e || left (bit m) lo (pattern_at x.rule.now a)) = t ∙ ap (λ v. e || v) (last_is (pattern_at x.rule.now a) m lo w) in
      subst (λ t. bit one k ≡ walked e lo (as_pattern t) k) (sym p) (i k ∙ ap (λ d. walked d lo (pattern_at x.rule.now a) k) on)
