-- Deciding whether rows pass: marks stand on the claims that have just taken a row, and move past one row after another.
use Rattle.std.specs.Prelude.{◌≡◌, ℕ, ◌+◌, ◌<◌, ◌≤◌, Bool, true, false, ◌&&◌, ◌||◌, T, ◌⊎◌, List, [], ◌∷◌, ◌++◌, ◌==◌, refl}
use Rattle.std.proofs.Common.{sym, ap, subst, inl, inr, arith, eqb→eq}
use Rattle.std.proofs.Math.Bool.{or-false}
use Rattle.std.proofs.Math.Dec.{eqb_refl}
use Rattle.grammar.specs.Tree.{Claim, Pattern, empty, claim, alternative, sequence, star, claims_in}
use Rattle.matching.specs.Fits.{Fits, fits_empty, fits_claim, fits_left, fits_right, fits_sequence, fits_stop, fits_more, Split, Passes}

-- whether a pattern fits no rows
abbrev pub null : Pattern → Bool
null empty = true
null (claim c) = false
null (alternative p q) = null p || null q
null (sequence p q) = null p && null q
null (star p) = true

-- Marks stand on the claims, which are numbered from `lo` on, left to right. A marked claim has just taken a row.
-- `left m lo p`: some mark stands at the end of p, so that p is left.
abbrev pub left : (ℕ → Bool) → ℕ → Pattern → Bool
left m lo empty = false
left m lo (claim c) = m lo
left m lo (alternative p q) = left m lo p || left m (lo + claims_in p) q
left m lo (sequence p q) = left m lo p && null q || left m (lo + claims_in p) q
left m lo (star p) = left m lo p

-- the marks after one more row `r`, where `e` says whether p is entered from before it
abbrev pub shift : {R : Type 0} → (Claim → R → Bool) → R → (ℕ → Bool) → Bool → ℕ → Pattern → ℕ → Bool
shift test r m e lo empty k = false
shift test r m e lo (claim c) k = e && test c r && k == lo
shift test r m e lo (alternative p q) k = shift test r m e lo p k || shift test r m e (lo + claims_in p) q k
shift test r m e lo (sequence p q) k = shift test r m e lo p k || shift test r m (e && null p || left m lo p) (lo + claims_in p) q k
shift test r m e lo (star p) k = shift test r m (e || left m lo p) lo p k

-- the rows that lead from some mark to the end of p
abbrev pub After : {R : Type 0} → (Claim → R → Bool) → (ℕ → Bool) → ℕ → Pattern → List R → Type 0
After test m lo empty rows = ⊥
After test m lo (claim c) rows = T (m lo) × (rows ≡ [])
After test m lo (alternative p q) rows = After test m lo p rows ⊎ After test m (lo + claims_in p) q rows
After test m lo (sequence p q) rows = Split (After test m lo p) (Fits test q) rows ⊎ After test m (lo + claims_in p) q rows
After test m lo (star p) rows = Split (After test m lo p) (Fits test (star p)) rows

-- truth values
and_both : (a b : Bool) → T (a && b) → T a × T b
and_both true true t = (tt, tt)
and_both true false t = elim t [ ]
and_both false b t = elim t [ ]

both_and : (a b : Bool) → T a → T b → T (a && b)
both_and true b s t = t
both_and false b s t = elim s [ ]

or_either : (a b : Bool) → T (a || b) → T a ⊎ T b
or_either true b t = inl tt
or_either false b t = inr t

left_or : (a b : Bool) → T a → T (a || b)
left_or true b t = tt
left_or false b t = elim t [ ]

right_or : (a b : Bool) → T b → T (a || b)
right_or true b t = tt
right_or false b t = t

-- lists that are parted in two
-- how a list that begins with r is cut in two
abbrev Halves : {R : Type 0} → R → List R → List R → List R → Type 0
Halves {R} r rows xs ys = ((xs ≡ []) × (ys ≡ (r ∷ rows))) ⊎ ((zs : List R) × (xs ≡ (r ∷ zs)) × (rows ≡ zs ++ ys))

halves : {R : Type 0} (r : R) (rows xs ys : List R) → (r ∷ rows) ≡ xs ++ ys → Halves r rows xs ys
halves r rows [] ys e = inl (refl, sym e)
halves r rows (x ∷ xs) ys e = let a : x ≡ r = cc in let b : rows ≡ xs ++ ys = cc in inr (xs, ap (λ (z : _). z ∷ xs) a, b)

empty_front : {R : Type 0} (xs ys : List R) → [] ≡ xs ++ ys → xs ≡ []
empty_front [] ys e = refl
empty_front (x ∷ xs) ys e = let z : ◌≡◌ {A = ℕ} 0 1 = cc in absurd (omega arith)

empty_back : {R : Type 0} (xs ys : List R) → [] ≡ xs ++ ys → ys ≡ []
empty_back [] ys e = sym e
empty_back (x ∷ xs) ys e = let z : ◌≡◌ {A = ℕ} 0 1 = cc in absurd (omega arith)

module _ {R : Type 0} (test : Claim → R → Bool) where
  -- what a fit is made of
  of_empty : {xs : List R} → Fits test empty xs → xs ≡ []
  of_empty fits_empty = refl

  of_claim : {c : Claim} {xs : List R} → Fits test (claim c) xs → (r : R) × (xs ≡ (r ∷ [])) × T (test c r)
  of_claim (fits_claim {r = r} t) = (r, refl, t)

  of_alternative : {p q : Pattern} {xs : List R} → Fits test (alternative p q) xs → Fits test p xs ⊎ Fits test q xs
  of_alternative (fits_left f) = inl f
  of_alternative (fits_right f) = inr f

  of_sequence : {p q : Pattern} {xs : List R} → Fits test (sequence p q) xs → Split (Fits test p) (Fits test q) xs
  of_sequence (fits_sequence {xs = xs} {ys = ys} f g) = record { front = xs; back = ys; joined = refl; first = f; rest = g }

  -- a star over a row: some part takes that row
  of_star : {p : Pattern} {xs : List R} → Fits test (star p) xs → (r : R) (rows : List R) → (r ∷ rows) ≡ xs →
      Split (λ zs. Fits test p (r ∷ zs)) (Fits test (star p)) rows
  of_star fits_stop r rows e = let z : ◌≡◌ {A = ℕ} 0 1 = cc in absurd (omega arith)
  of_star {p} (fits_more {xs = xs} {ys = ys} f g) r rows e =
      elim (halves r rows xs ys e) [
        | inl h ↦ of_star g r rows (sym h.1)
        | inr h ↦ record { front = h.0; back = ys; joined = h.2; first = subst (Fits test p) h.1 f; rest = g }
      ]

  -- null says whether no rows fit
  null_fits : (p : Pattern) → T (null p) → Fits test p []
  null_fits empty t = fits_empty
  null_fits (claim c) t = elim t [ ]
  null_fits (alternative p q) t = elim (or_either (null p) (null q) t) [ inl h ↦ fits_left (null_fits p h) | inr h ↦ fits_right (null_fits q h) ]
  null_fits (sequence p q) t = let h = and_both (null p) (null q) t in fits_sequence (null_fits p h.0) (null_fits q h.1)
  null_fits (star p) t = fits_stop

  fits_null : (p : Pattern) → Fits test p [] → T (null p)
  fits_null empty f = tt
  fits_null (claim c) f = let h = of_claim f in let e = h.1 in let z : ◌≡◌ {A = ℕ} 0 1 = cc in absurd (omega arith)
  fits_null (alternative p q) f = elim (of_alternative f) [ inl h ↦ left_or (null p) (null q) (fits_null p h) | inr h ↦ right_or (null p) (null q) (fits_null q h) ]
  fits_null (sequence p q) f =
      let h = of_sequence f in
      both_and (null p) (null q)
      (fits_null p (subst (Fits test p) (empty_front h.front h.back h.joined) h.first))
      (fits_null q (subst (Fits test q) (empty_back h.front h.back h.joined) h.rest))
  fits_null (star p) f = tt

  -- left says whether no rows lead from a mark to the end
  left_after : (m : ℕ → Bool) (lo : ℕ) (p : Pattern) → T (left m lo p) → After test m lo p []
  left_after m lo empty t = t
  left_after m lo (claim c) t = (t, refl)
  left_after m lo (alternative p q) t =
      elim (or_either (left m lo p) (left m (lo + claims_in p) q) t) [
        | inl h ↦ inl (left_after m lo p h)
        | inr h ↦ inr (left_after m (lo + claims_in p) q h)
      ]
  left_after m lo (sequence p q) t =
      elim (or_either (left m lo p && null q) (left m (lo + claims_in p) q) t) [
        | inl h ↦ let b = and_both (left m lo p) (null q) h in
            inl (record { front = []; back = []; joined = refl; first = left_after m lo p b.0; rest = null_fits q b.1 })
        | inr h ↦ inr (left_after m (lo + claims_in p) q h)
      ]
  left_after m lo (star p) t = record { front = []; back = []; joined = refl; first = left_after m lo p t; rest = fits_stop }

  after_left : (m : ℕ → Bool) (lo : ℕ) (p : Pattern) → After test m lo p [] → T (left m lo p)
  after_left m lo empty t = t
  after_left m lo (claim c) t = t.0
  after_left m lo (alternative p q) t =
      elim t [
        | inl h ↦ left_or (left m lo p) (left m (lo + claims_in p) q) (after_left m lo p h)
        | inr h ↦ right_or (left m lo p) (left m (lo + claims_in p) q) (after_left m (lo + claims_in p) q h)
      ]
  after_left m lo (sequence p q) t =
      elim t [
        | inl h ↦ left_or (left m lo p && null q) (left m (lo + claims_in p) q)
            (both_and (left m lo p) (null q)
            (after_left m lo p (subst (After test m lo p) (empty_front h.front h.back h.joined) h.first))
            (fits_null q (subst (Fits test q) (empty_back h.front h.back h.joined) h.rest)))
        | inr h ↦ right_or (left m lo p && null q) (left m (lo + claims_in p) q) (after_left m (lo + claims_in p) q h)
      ]
  after_left m lo (star p) t = after_left m lo p (subst (After test m lo p) (empty_front t.front t.back t.joined) t.first)

  -- the new marks stand on claims of p
  shift_in : (r : R) (m : ℕ → Bool) (e : Bool) (lo : ℕ) (p : Pattern) (k : ℕ) → T (shift test r m e lo p k) → (lo ≤ k) × (k < lo + claims_in p)
  shift_in r m e lo empty k t = elim t [ ]
  shift_in r m e lo (claim c) k t =
      let h : k ≡ lo = eqb→eq k lo (and_both (e && test c r) (k == lo) t).1 in omega arith
  shift_in r m e lo (alternative p q) k t =
      elim (or_either (shift test r m e lo p k) (shift test r m e (lo + claims_in p) q k) t) [
        | inl h ↦ let i = shift_in r m e lo p k h in omega arith
        | inr h ↦ let i = shift_in r m e (lo + claims_in p) q k h in omega arith
      ]
  shift_in r m e lo (sequence p q) k t =
      elim (or_either (shift test r m e lo p k) (shift test r m (e && null p || left m lo p) (lo + claims_in p) q k) t) [
        | inl h ↦ let i = shift_in r m e lo p k h in omega arith
        | inr h ↦ let i = shift_in r m (e && null p || left m lo p) (lo + claims_in p) q k h in omega arith
      ]
  shift_in r m e lo (star p) k t = shift_in r m (e || left m lo p) lo p k t

  -- more marks on the claims of p lead at least as far
  after_grows : (m n : ℕ → Bool) (lo : ℕ) (p : Pattern) → ((k : ℕ) → lo ≤ k → k < lo + claims_in p → T (m k) → T (n k)) →
      (rows : List R) → After test m lo p rows → After test n lo p rows
  after_grows m n lo empty h rows t = t
  after_grows m n lo (claim c) h rows t = (h lo (omega arith) (omega arith) t.0, t.1)
  after_grows m n lo (alternative p q) h rows t =
      elim t [
        | inl a ↦ inl (after_grows m n lo p (λ k i j. h k i (omega arith)) rows a)
        | inr a ↦ inr (after_grows m n (lo + claims_in p) q (λ k i j. h k (omega arith) (omega arith)) rows a)
      ]
  after_grows m n lo (sequence p q) h rows t =
      elim t [
        | inl a ↦ inl (record { front = a.front; back = a.back; joined = a.joined; first = after_grows m n lo p (λ k i j. h k i (omega arith)) a.front a.first; rest = a.rest })
        | inr a ↦ inr (after_grows m n (lo + claims_in p) q (λ k i j. h k (omega arith) (omega arith)) rows a)
      ]
  after_grows m n lo (star p) h rows t =
      record { front = t.front; back = t.back; joined = t.joined; first = after_grows m n lo p h t.front t.first; rest = t.rest }

  -- with no mark nothing leads to the end
  after_unmarked : (m : ℕ → Bool) → ((k : ℕ) → T (m k) → ⊥) → (lo : ℕ) (p : Pattern) (rows : List R) → After test m lo p rows → ⊥
  after_unmarked m h lo empty rows t = t
  after_unmarked m h lo (claim c) rows t = h lo t.0
  after_unmarked m h lo (alternative p q) rows t =
      elim t [ inl a ↦ after_unmarked m h lo p rows a | inr a ↦ after_unmarked m h (lo + claims_in p) q rows a ]
  after_unmarked m h lo (sequence p q) rows t =
      elim t [ inl a ↦ after_unmarked m h lo p a.front a.first | inr a ↦ after_unmarked m h (lo + claims_in p) q rows a ]
  after_unmarked m h lo (star p) rows t = after_unmarked m h lo p t.front t.first

  -- one way: what leads on from the new marks led on from the old ones over the row r, or from the start if p was entered
  shift_sound : (r : R) (m : ℕ → Bool) (e : Bool) (lo : ℕ) (p : Pattern) (rows : List R) →
      After test (shift test r m e lo p) lo p rows → After test m lo p (r ∷ rows) ⊎ (T e × Fits test p (r ∷ rows))
  shift_sound r m e lo empty rows t = elim t [ ]
  shift_sound r m e lo (claim c) rows t =
      let a = and_both (e && test c r) (lo == lo) t.0 in
      let b = and_both e (test c r) a.0 in
      inr (b.0, subst (λ (xs : List R). Fits test (claim c) (r ∷ xs)) (sym t.1) (fits_claim b.1))
  shift_sound r m e lo (alternative p q) rows t =
      elim t [
        | inl a ↦ elim (shift_sound r m e lo p rows (after_grows (shift test r m e lo (alternative p q)) (shift test r m e lo p) lo p
            (λ k i j h. elim (or_either (shift test r m e lo p k) (shift test r m e (lo + claims_in p) q k) h) [
              | inl g ↦ g
              | inr g ↦ let w = shift_in r m e (lo + claims_in p) q k g in absurd (omega arith)
            ]) rows a)) [
              | inl g ↦ inl (inl g)
              | inr g ↦ inr (g.0, fits_left g.1)
            ]
        | inr a ↦ elim (shift_sound r m e (lo + claims_in p) q rows (after_grows (shift test r m e lo (alternative p q)) (shift test r m e (lo + claims_in p) q) (lo + claims_in p) q
            (λ k i j h. elim (or_either (shift test r m e lo p k) (shift test r m e (lo + claims_in p) q k) h) [
              | inl g ↦ let w = shift_in r m e lo p k g in absurd (omega arith)
              | inr g ↦ g
            ]) rows a)) [
              | inl g ↦ inl (inr g)
              | inr g ↦ inr (g.0, fits_right g.1)
            ]
      ]
  shift_sound r m e lo (sequence p q) rows t =
      let d = e && null p || left m lo p in
      elim t [
        | inl a ↦ elim (shift_sound r m e lo p a.front (after_grows (shift test r m e lo (sequence p q)) (shift test r m e lo p) lo p
            (λ k i j h. elim (or_either (shift test r m e lo p k) (shift test r m d (lo + claims_in p) q k) h) [
              | inl g ↦ g
              | inr g ↦ let w = shift_in r m d (lo + claims_in p) q k g in absurd (omega arith)
            ]) a.front a.first)) [
              | inl g ↦ inl (inl (record { front = r ∷ a.front; back = a.back; joined = ap (λ (z : List R). r ∷ z) a.joined; first = g; rest = a.rest }))
              | inr g ↦ inr (g.0, subst (λ (z : List R). Fits test (sequence p q) (r ∷ z)) (sym a.joined) (fits_sequence g.1 a.rest))
            ]
        | inr a ↦ elim (shift_sound r m d (lo + claims_in p) q rows (after_grows (shift test r m e lo (sequence p q)) (shift test r m d (lo + claims_in p) q) (lo + claims_in p) q
            (λ k i j h. elim (or_either (shift test r m e lo p k) (shift test r m d (lo + claims_in p) q k) h) [
              | inl g ↦ let w = shift_in r m e lo p k g in absurd (omega arith)
              | inr g ↦ g
            ]) rows a)) [
              | inl g ↦ inl (inr g)
              | inr g ↦ elim (or_either (e && null p) (left m lo p) g.0) [
                | inl b ↦ let c = and_both e (null p) b in inr (c.0, fits_sequence (null_fits p c.1) g.1)
                | inr b ↦ inl (inl (record { front = []; back = r ∷ rows; joined = refl; first = left_after m lo p b; rest = g.1 }))
              ]
            ]
      ]
  shift_sound r m e lo (star p) rows t =
      elim (shift_sound r m (e || left m lo p) lo p t.front t.first) [
        | inl g ↦ inl (record { front = r ∷ t.front; back = t.back; joined = ap (λ (z : List R). r ∷ z) t.joined; first = g; rest = t.rest })
        | inr g ↦
            let f : Fits test (star p) (r ∷ rows) = subst (λ (z : List R). Fits test (star p) (r ∷ z)) (sym t.joined) (fits_more g.1 t.rest) in
            elim (or_either e (left m lo p) g.0) [
              | inl b ↦ inr (b, f)
              | inr b ↦ inl (record { front = []; back = r ∷ rows; joined = refl; first = left_after m lo p b; rest = f })
            ]
      ]

  -- the other way
  shift_complete : (r : R) (m : ℕ → Bool) (e : Bool) (lo : ℕ) (p : Pattern) (rows : List R) →
      After test m lo p (r ∷ rows) ⊎ (T e × Fits test p (r ∷ rows)) → After test (shift test r m e lo p) lo p rows
  shift_complete r m e lo empty rows t =
      elim t [ inl a ↦ a | inr a ↦ let h = of_empty a.1 in let z : ◌≡◌ {A = ℕ} 0 1 = cc in absurd (omega arith) ]
  shift_complete r m e lo (claim c) rows t =
      elim t [
        | inl a ↦ let h = a.1 in let z : ◌≡◌ {A = ℕ} 0 1 = cc in absurd (omega arith)
        | inr a ↦
            let h = of_claim a.1 in
            let g = h.1 in
            let same : h.0 ≡ r = cc in
            let over : rows ≡ [] = cc in
            (both_and (e && test c r) (lo == lo) (both_and e (test c r) a.0 (subst (λ (x : R). T (test c x)) same h.2)) (eqb_refl lo), over)
      ]
  shift_complete r m e lo (alternative p q) rows t =
      let toP : After test (shift test r m e lo p) lo p rows → After test (shift test r m e lo (alternative p q)) lo p rows =
      after_grows (shift test r m e lo p) (shift test r m e lo (alternative p q)) lo p
      (λ k i j h. left_or (shift test r m e lo p k) (shift test r m e (lo + claims_in p) q k) h) rows in
      let toQ : After test (shift test r m e (lo + claims_in p) q) (lo + claims_in p) q rows → After test (shift test r m e lo (alternative p q)) (lo + claims_in p) q rows =
      after_grows (shift test r m e (lo + claims_in p) q) (shift test r m e lo (alternative p q)) (lo + claims_in p) q
      (λ k i j h. right_or (shift test r m e lo p k) (shift test r m e (lo + claims_in p) q k) h) rows in
      elim t [
        | inl a ↦ elim a [
          | inl b ↦ inl (toP (shift_complete r m e lo p rows (inl b)))
          | inr b ↦ inr (toQ (shift_complete r m e (lo + claims_in p) q rows (inl b)))
        ]
        | inr a ↦ elim (of_alternative a.1) [
          | inl b ↦ inl (toP (shift_complete r m e lo p rows (inr (a.0, b))))
          | inr b ↦ inr (toQ (shift_complete r m e (lo + claims_in p) q rows (inr (a.0, b))))
        ]
      ]
  shift_complete r m e lo (sequence p q) rows t =
      let d = e && null p || left m lo p in
      let toP : (xs : List R) → After test (shift test r m e lo p) lo p xs → After test (shift test r m e lo (sequence p q)) lo p xs =
      after_grows (shift test r m e lo p) (shift test r m e lo (sequence p q)) lo p
      (λ k i j h. left_or (shift test r m e lo p k) (shift test r m d (lo + claims_in p) q k) h) in
      let toQ : After test (shift test r m d (lo + claims_in p) q) (lo + claims_in p) q rows → After test (shift test r m e lo (sequence p q)) (lo + claims_in p) q rows =
      after_grows (shift test r m d (lo + claims_in p) q) (shift test r m e lo (sequence p q)) (lo + claims_in p) q
      (λ k i j h. right_or (shift test r m e lo p k) (shift test r m d (lo + claims_in p) q k) h) rows in
      elim t [
        | inl a ↦ elim a [
          | inl b ↦ elim (halves r rows b.front b.back b.joined) [
            | inl h ↦ inr (toQ (shift_complete r m d (lo + claims_in p) q rows (inr (
              right_or (e && null p) (left m lo p) (after_left m lo p (subst (After test m lo p) h.0 b.first)),
              subst (Fits test q) h.1 b.rest,
            ))))
            | inr h ↦ inl (record {
              front = h.0;
              back = b.back;
              joined = h.2;
              first = toP h.0 (shift_complete r m e lo p h.0 (inl (subst (After test m lo p) h.1 b.first)));
              rest = b.rest;
            })
          ]
          | inr b ↦ inr (toQ (shift_complete r m d (lo + claims_in p) q rows (inl b)))
        ]
        | inr a ↦ let b = of_sequence a.1 in
            elim (halves r rows b.front b.back b.joined) [
              | inl h ↦ inr (toQ (shift_complete r m d (lo + claims_in p) q rows (inr (
                left_or (e && null p) (left m lo p) (both_and e (null p) a.0 (fits_null p (subst (Fits test p) h.0 b.first))),
                subst (Fits test q) h.1 b.rest,
              ))))
              | inr h ↦ inl (record {
                front = h.0;
                back = b.back;
                joined = h.2;
                first = toP h.0 (shift_complete r m e lo p h.0 (inr (a.0, subst (Fits test p) h.1 b.first)));
                rest = b.rest;
              })
            ]
      ]
  shift_complete r m e lo (star p) rows t =
      let d = e || left m lo p in
      let begin : T d → Fits test (star p) (r ∷ rows) → Split (After test (shift test r m d lo p) lo p) (Fits test (star p)) rows =
      λ h f. let c = of_star f r rows refl in
      record {
        front = c.front;
        back = c.back;
        joined = c.joined;
        first = shift_complete r m d lo p c.front (inr (h, c.first));
        rest = c.rest;
      } in
      elim t [
        | inl a ↦ elim (halves r rows a.front a.back a.joined) [
          | inl h ↦ begin (right_or e (left m lo p) (after_left m lo p (subst (After test m lo p) h.0 a.first))) (subst (Fits test (star p)) h.1 a.rest)
          | inr h ↦ record {
            front = h.0;
            back = a.back;
            joined = h.2;
            first = shift_complete r m d lo p h.0 (inl (subst (After test m lo p) h.1 a.first));
            rest = a.rest;
          }
        ]
        | inr a ↦ begin (left_or e (left m lo p) a.0) a.1
      ]

-- The walk over the rows: it ends with success as soon as p is left.
abbrev pub walk : {R : Type 0} → (Claim → R → Bool) → Pattern → (ℕ → Bool) → List R → Bool
walk test p m [] = left m 0 p
walk test p m (r ∷ rows) = left m 0 p || walk test p (shift test r m false 0 p) rows

abbrev pub unmarked : ℕ → Bool
unmarked k = false

-- the same with what is left tested after each row: e says whether p is entered before the next row
abbrev pub goes : {R : Type 0} → (Claim → R → Bool) → Pattern → Bool → (ℕ → Bool) → List R → Bool
goes test p e m [] = false
goes test p e m (r ∷ rows) = left (shift test r m e 0 p) 0 p || goes test p false (shift test r m e 0 p) rows

abbrev pub passes : {R : Type 0} → (Claim → R → Bool) → Pattern → List R → Bool
passes test p [] = null p
passes test p (r ∷ rows) = null p || walk test p (shift test r unmarked true 0 p) rows

module _ {R : Type 0} (test : Claim → R → Bool) (p : Pattern) where
  -- some beginning of the rows leads from a mark to the end
  abbrev pub Leads : (ℕ → Bool) → List R → Type 0
  Leads m rows = Split (After test m 0 p) (λ _. Unit {0}) rows

  pub walk_leads : (m : ℕ → Bool) (rows : List R) → T (walk test p m rows) → Leads m rows
  walk_leads m [] t = record { front = []; back = []; joined = refl; first = left_after test m 0 p t; rest = tt }
  walk_leads m (r ∷ rows) t =
      elim (or_either (left m 0 p) (walk test p (shift test r m false 0 p) rows) t) [
        | inl h ↦ record { front = []; back = r ∷ rows; joined = refl; first = left_after test m 0 p h; rest = tt }
        | inr h ↦ let c = walk_leads (shift test r m false 0 p) rows h in
            elim (shift_sound test r m false 0 p c.front c.first) [
              | inl a ↦ record { front = r ∷ c.front; back = c.back; joined = ap (λ (z : List R). r ∷ z) c.joined; first = a; rest = tt }
              | inr a ↦ absurd a.0
            ]
      ]

  pub leads_walk : (m : ℕ → Bool) (rows : List R) → Leads m rows → T (walk test p m rows)
  leads_walk m [] c = after_left test m 0 p (subst (After test m 0 p) (empty_front c.front c.back c.joined) c.first)
  leads_walk m (r ∷ rows) c =
      elim (halves r rows c.front c.back c.joined) [
        | inl h ↦ left_or (left m 0 p) (walk test p (shift test r m false 0 p) rows) (after_left test m 0 p (subst (After test m 0 p) h.0 c.first))
        | inr h ↦ right_or (left m 0 p) (walk test p (shift test r m false 0 p) rows)
            (leads_walk (shift test r m false 0 p) rows (record {
              front = h.0;
              back = c.back;
              joined = h.2;
              first = shift_complete test r m false 0 p h.0 (inl (subst (After test m 0 p) h.1 c.first));
              rest = tt;
            }))
      ]

  pub passes_sound : (rows : List R) → T (passes test p rows) → Passes test p rows
  passes_sound [] t = record { beginning = []; others = []; joined = refl; fits = null_fits test p t }
  passes_sound (r ∷ rows) t =
      elim (or_either (null p) (walk test p (shift test r unmarked true 0 p) rows) t) [
        | inl h ↦ record { beginning = []; others = r ∷ rows; joined = refl; fits = null_fits test p h }
        | inr h ↦ let c = walk_leads (shift test r unmarked true 0 p) rows h in
            elim (shift_sound test r unmarked true 0 p c.front c.first) [
              | inl a ↦ absurd (after_unmarked test unmarked (λ k b. b) 0 p (r ∷ c.front) a)
              | inr a ↦ record { beginning = r ∷ c.front; others = c.back; joined = ap (λ (z : List R). r ∷ z) c.joined; fits = a.1 }
            ]
      ]

  pub passes_complete : (rows : List R) → Passes test p rows → T (passes test p rows)
  passes_complete [] c = fits_null test p (subst (Fits test p) (empty_front c.beginning c.others c.joined) c.fits)
  passes_complete (r ∷ rows) c =
      elim (halves r rows c.beginning c.others c.joined) [
        | inl h ↦ left_or (null p) (walk test p (shift test r unmarked true 0 p) rows) (fits_null test p (subst (Fits test p) h.0 c.fits))
        | inr h ↦ right_or (null p) (walk test p (shift test r unmarked true 0 p) rows)
            (leads_walk (shift test r unmarked true 0 p) rows (record {
              front = h.0;
              back = c.others;
              joined = h.2;
              first = shift_complete test r unmarked true 0 p h.0 (inr (tt, subst (Fits test p) h.1 c.fits));
              rest = tt;
            }))
      ]

  -- whether rows pass can be decided, and the decision cannot differ from the relation
  pub passes? : (rows : List R) → Dec (Passes test p rows)
  passes? rows = decided (passes test p rows) (passes_sound rows) (passes_complete rows)
    where
      decided : (b : Bool) → (T b → Passes test p rows) → (Passes test p rows → T b) → Dec (Passes test p rows)
      decided true f g = yes (f tt)
      decided false f g = no g

  walk_goes : (m : ℕ → Bool) (rows : List R) → walk test p m rows ≡ (left m 0 p || goes test p false m rows)
  walk_goes m [] = sym (or-false (left m 0 p))
  walk_goes m (r ∷ rows) = ap (λ (b : Bool). left m 0 p || b) (walk_goes (shift test r m false 0 p) rows)

  pub passes_goes : (rows : List R) → passes test p rows ≡ (null p || goes test p true unmarked rows)
  passes_goes [] = sym (or-false (null p))
  passes_goes (r ∷ rows) = ap (λ (b : Bool). null p || b) (walk_goes (shift test r unmarked true 0 p) rows)

  -- with no mark the walk comes to nothing
  pub goes_unmarked : (rows : List R) → goes test p false unmarked rows ≡ false
  goes_unmarked rows = unless (goes test p false unmarked rows) (λ t.
      let c = walk_leads unmarked rows (subst T (sym (walk_goes unmarked rows)) (right_or (left unmarked 0 p) (goes test p false unmarked rows) t)) in
      after_unmarked test unmarked (λ k b. b) 0 p c.front c.first)
    where
      unless : (b : Bool) → (T b → ⊥) → b ≡ false
      unless true f = absurd (f tt)
      unless false f = refl

-- b says whether P holds
abbrev pub Told : Bool → Type 0 → Type 0
Told b P = (T b → P) × (P → T b)

-- two that say whether P holds are the same
pub told_one : (P : Type 0) (b c : Bool) → Told b P → Told c P → b ≡ c
told_one P true true f g = refl
told_one P true false f g = absurd (g.1 (f.0 tt))
told_one P false true f g = absurd (f.1 (g.0 tt))
told_one P false false f g = refl
