-- A text has one answer: its tree, or the first refusal that applies.
use Rattle.std.proofs.Common.{◌≡◌, ℕ, zero, suc, ◌+◌, ◌<◌, ◌≤◌, List, [], ◌∷◌, ◌++◌, length, take, drop, ℤ, Some, None, Option, sym, refl, ap, ◌∙◌, subst, ⊎_elim, append_assoc, arith}
use Rattle.std.proofs.lemmas.List.{take_all, take-take, take-append-drop}
use Rattle.std.proofs.lemmas.Bool.{cases_order}
use Rattle.grammar.specs.declared.Refusal.{Refusal}
use Rattle.grammar.specs.declared.Refusal.TheVariants.{WatchNumber, TextTooLong, NotAToken, TooManyTokens, TooDeep, TooManyClaims, Unexpected}
use Rattle.grammar.specs.Symbol.{Symbol, LeftSquare}
use Rattle.grammar.specs.Patterns.{Rule}
use Rattle.grammar.specs.Viable.{Viable, FirstBad}
use Rattle.grammar.specs.Cutting.{Placed, symbols, place_at, Cut, Uncut}
use Rattle.grammar.specs.Limits.{text_limit, token_limit, claim_limit, claiming, count, FirstDeep, Shallow, Crowding}
use Rattle.grammar.specs.Reading.{Numbered, Within, Refused, misnumbered, too_long, no_token, too_many, too_deep, too_crowded, unexpected}
use Rattle.grammar.specs.Theorems.{OneTree, NeverBoth, OneRefusal}
use Rattle.grammar.proofs.Complete as complete
use Rattle.grammar.proofs.Cuts.{cut_one, cut_or_uncut, uncut_one}

pub one_tree : OneTree
one_tree text ts us x y c d e f = (cut_one c e, complete.one_tree d (subst (λ (l : List Placed). Rule (symbols l) y) (cut_one e c) f))

-- a cause that rules out a later one stands at one place only
module _ {C : ℕ → Type 0} (first : (j k : ℕ) → j < k → C j → C k → ⊥) where
  one_place : (j k : ℕ) → C j → C k → j ≡ k
  one_place j k c d = ⊎_elim (λ e. e) (⊎_elim (λ l. absurd (first j k l c d)) (λ l. absurd (first k j l d c))) (cases_order j k)

deep_first : {ts : List Symbol} (j k : ℕ) → j < k → FirstDeep ts j → FirstDeep ts k → ⊥
deep_first j k l c d = d.first j l c.deep

-- a `[` counts among the symbols up to any later place
claimed : (ts back : List Symbol) (j k : ℕ) → j < k → drop j ts ≡ LeftSquare ∷ back → count claiming (take j ts) + 1 ≤ count claiming (take k ts)
claimed [] back zero k l e = let z : ◌≡◌ {A = ℕ} 0 1 = cc in absurd (omega arith)
claimed [] back (suc j) k l e = let z : ◌≡◌ {A = ℕ} 0 1 = cc in absurd (omega arith)
claimed (t ∷ ts) back zero zero l e = absurd (omega arith)
claimed (t ∷ ts) back zero (suc k) l e = let is : t ≡ LeftSquare = cc in omega (arith, ap claiming is)
claimed (t ∷ ts) back (suc j) zero l e = absurd (omega arith)
claimed (t ∷ ts) back (suc j) (suc k) l e = omega (arith, claimed ts back j k (omega arith) e)

crowding_first : {ts : List Symbol} (j k : ℕ) → j < k → Crowding ts j → Crowding ts k → ⊥
crowding_first {ts} j k l c d = omega (arith, claimed ts _ j k l c.stands)

uncrowded_none : {ts : List Symbol} → count claiming ts ≤ claim_limit → (k : ℕ) → Crowding ts k → ⊥
uncrowded_none {ts} h k c =
    let n : ℕ = k + 1 + length ts in
    omega (arith, claimed ts _ k n (omega arith) c.stands, ap (count claiming) (take_all n ts (omega arith)))

-- what can go on to a rule could before
viable_front : (us vs : List Symbol) → Viable (us ++ vs) → Viable us
viable_front us vs v = (vs ++ v.0, v.1, subst (λ (l : List Symbol). Rule l v.1) (append_assoc us vs v.0) v.2)

bad_first : {ts : List Symbol} (j k : ℕ) → j < k → FirstBad ts j → FirstBad ts k → ⊥
bad_first {ts} j k l c d =
    let front : take k ts ≡ take (j + 1) ts ++ drop (j + 1) (take k ts) = sym (take-append-drop (j + 1) (take k ts)) ∙ ap (λ (us : List Symbol). us ++ drop (j + 1) (take k ts)) (take-take (j + 1) k ts (omega arith)) in
    c.here (omega (arith, d.within)) (viable_front (take (j + 1) ts) (drop (j + 1) (take k ts)) (subst Viable front d.before))

-- the refusal of a text, or `None` if it is allowed
abbrev Answer : Type 0
Answer = Option Refusal

-- one stage of answering: the cause C stands at k, and r k is the refusal; or C stands nowhere, and what is later answers.
-- Seven stages in a row need seven comparisons, where the seven refusals would need each with each
data Stage (C : ℕ → Type 0) (r : ℕ → Refusal) (Later : Answer → Type 0) : Answer → Type 0 where
  here : (k : ℕ) → C k → Stage C r Later (Some (r k))
  later : {a : Answer} → ((k : ℕ) → C k → ⊥) → Later a → Stage C r Later a

abbrev One : (Answer → Type 0) → Type 0
One P = (a b : Answer) → P a → P b → a ≡ b

stage_one : {C : ℕ → Type 0} {r : ℕ → Refusal} {Later : Answer → Type 0} → ((j k : ℕ) → C j → C k → r j ≡ r k) → One Later → One (Stage C r Later)
stage_one same on _ _ (here j c) (here k d) = ap Some (same j k c d)
stage_one same on _ _ (here j c) (later n x) = absurd (n j c)
stage_one same on _ _ (later n x) (here k d) = absurd (n k d)
stage_one same on a b (later n x) (later m y) = on a b x y

module _ (text : List ℕ) where
  module _ (ts : List Placed) where
    abbrev by_grammar : Answer → Type 0
    by_grammar = Stage (FirstBad (symbols ts)) (λ k. Unexpected (place_at text ts k)) (λ a. a ≡ None)

    abbrev by_claims : Answer → Type 0
    by_claims = Stage (Crowding (symbols ts)) (λ k. TooManyClaims (place_at text ts k)) by_grammar

    abbrev by_depth : Answer → Type 0
    by_depth = Stage (FirstDeep (symbols ts)) (λ k. TooDeep (place_at text ts k)) by_claims

    abbrev by_tokens : Answer → Type 0
    by_tokens = Stage (λ k. token_limit < length ts) (λ k. TooManyTokens (place_at text ts token_limit)) by_depth

    tokens_one : One by_tokens
    tokens_one =
        stage_one (λ j k c d. refl)
        (stage_one (λ j k c d. ap (λ (n : ℕ). TooDeep (place_at text ts n)) (one_place deep_first j k c d))
        (stage_one (λ j k c d. ap (λ (n : ℕ). TooManyClaims (place_at text ts n)) (one_place crowding_first j k c d))
        (stage_one (λ j k c d. ap (λ (n : ℕ). Unexpected (place_at text ts n)) (one_place bad_first j k c d)) (λ a b p q. p ∙ sym q))))

    -- how each stage is passed
    few : {a : Answer} → length ts ≤ token_limit → by_depth a → by_tokens a
    few h = later (λ k c. omega arith)

    shallow : {a : Answer} → Shallow (symbols ts) → by_claims a → by_depth a
    shallow h = later (λ k c. h k c.deep)

    uncrowded : {a : Answer} → count claiming (symbols ts) ≤ claim_limit → by_grammar a → by_claims a
    uncrowded h = later (uncrowded_none h)

  abbrev some_tokens : Answer → Type 0
  some_tokens a = (ts : List Placed) × Cut 0 text ts × by_tokens ts a

  abbrev by_cutting : Answer → Type 0
  by_cutting = Stage (Uncut 0 text) NotAToken some_tokens

  abbrev by_length : Answer → Type 0
  by_length = Stage (λ k. text_limit < length text) (λ k. TextTooLong) by_cutting

  abbrev by_number : ℤ → Answer → Type 0
  by_number n = Stage (λ k. Numbered n → ⊥) (λ k. WatchNumber) by_length

  number_one : (n : ℤ) → One (by_number n)
  number_one n =
      stage_one (λ j k c d. refl)
      (stage_one (λ j k c d. refl)
      (stage_one (λ j k c d. ap NotAToken (uncut_one c d))
      (λ a b x y. tokens_one x.0 a b x.2 (subst (λ (ts : List Placed). by_tokens ts b) (cut_one y.1 x.1) y.2))))

  numbered : {n : ℤ} {a : Answer} → Numbered n → by_length a → by_number n a
  numbered h = later (λ k c. c h)

  short : {a : Answer} → length text ≤ text_limit → by_cutting a → by_length a
  short h = later (λ k c. omega arith)

  cut : {ts : List Placed} {a : Answer} → Cut 0 text ts → by_tokens ts a → by_cutting a
  cut {ts} d x = later (λ k c. cut_or_uncut d c) (ts, d, x)

  kept : {ts : List Placed} {a : Answer} → Within text ts → by_grammar ts a → by_length a
  kept {ts} w x = short w.short (cut w.cut (few ts w.few (shallow ts w.shallow (uncrowded ts w.uncrowded x))))

  refused : {n : ℤ} {e : Refusal} → Refused n text e → by_number n (Some e)
  refused (misnumbered f) = here 0 f
  refused (too_long h l) = numbered h (here 0 l)
  refused (no_token {p = p} h s u) = numbered h (short s (here p u))
  refused (too_many h s c m) = numbered h (short s (cut c (here 0 m)))
  refused (too_deep {ts = ts} {k = k} h s c f d) = numbered h (short s (cut c (few ts f (here k d))))
  refused (too_crowded {ts = ts} {k = k} h s c f d m) = numbered h (short s (cut c (few ts f (shallow ts d (here k m)))))
  refused (unexpected {k = k} h w b) = numbered h (kept w (here k b))

pub never_both : NeverBoth
never_both n text ts x e a r =
    let h : None ≡ Some e = number_one text n _ _ (numbered text a.numbered (kept text a.within (later (λ k b. b.none x a.derived) refl))) (refused text r) in
    let z : ◌≡◌ {A = ℕ} 0 1 = cc in omega arith

pub one_refusal : OneRefusal
one_refusal n text e f p q = let h : Some e ≡ Some f = number_one text n _ _ (refused text p) (refused text q) in cc
