-- What a summary says of its pattern, which has so few claims that nothing is cut off.
use Rattle.std.proofs.Common.{◌≡◌, ℕ, ◌+◌, ◌*◌, ◌%◌, ◌^◌, ◌<◌, ◌≤◌, Bool, true, false, cond, ◌&&◌, ◌||◌, sym, refl, ap, ◌∙◌, add-zero, add_comm, one-mul, zero-mul, arith, lit<, pow_pos, pow_mono, pow-add, shl_lt, shl_exact, lt-ltb}
use Rattle.std.proofs.lemmas.Bool.{cond_both}
use mathlib.Core.Bool.{and-true, and-false}
use lib.Bits.{bit_or, or_lt, or_block}
use Rattle.grammar.specs.Tree.{Pattern, empty, claim, alternative, sequence, star, claims_in}
use Rattle.rule.specs.Summaries.{summary, after}
use Rattle.matching.specs.Walk.{null, left}
use Rattle.matching.specs.Marks.{bit, meets}
use Rattle.matching.proofs.Bitwise.{meets_none, meets_one, meets_or}

pub nullable_is : (p : Pattern) → (summary p).nullable ≡ null p
nullable_is empty = refl
nullable_is (claim c) = refl
nullable_is (alternative p q) = λ i. nullable_is p i || nullable_is q i
nullable_is (sequence p q) = λ i. nullable_is p i && nullable_is q i
nullable_is (star p) = refl

pub claims_are : (p : Pattern) → claims_in p ≤ 60 → (summary p).claims ≡ claims_in p
claims_are empty h = refl
claims_are (claim c) h = refl
claims_are (alternative p q) h = omega (arith, claims_are p (omega arith), claims_are q (omega arith))
claims_are (sequence p q) h = omega (arith, claims_are p (omega arith), claims_are q (omega arith))
claims_are (star p) h = claims_are p h

-- a set moved so little loses nothing
after_is : (n j x : ℕ) → n + j ≤ 60 → x < 2 ^ j → after n x ≡ x * 2 ^ n
after_is n j x h l = ap (λ (b : Bool). cond b (x * 2 ^ n % 2 ^ 64) 0) (lt-ltb n 64 (omega arith)) ∙ shl_exact j n 64 l (omega arith)

-- Two parts of a pattern. The claims of q are counted after those of p.
module _ (p q : Pattern) where
  abbrev second : ℕ
  second = after (summary p).claims (summary q).last

  abbrev both : ℕ
  both = bit_or (summary p).last second

  module _ (h : claims_in p + claims_in q ≤ 60) (l : (summary q).last < 2 ^ claims_in q) where
    second_is : second ≡ (summary q).last * 2 ^ claims_in p
    second_is = ap (λ (n : ℕ). after n (summary q).last) (claims_are p (omega arith)) ∙ after_is (claims_in p) (claims_in q) (summary q).last h l

    second_lt : second < 2 ^ (claims_in p + claims_in q)
    second_lt = rw (second_is, add_comm (claims_in p) (claims_in q)) (shl_lt (claims_in q) (claims_in p) l)

    both_lt : (summary p).last < 2 ^ claims_in p → both < 2 ^ (claims_in p + claims_in q)
    both_lt k =
        let g : 2 ^ claims_in p ≤ 2 ^ (claims_in p + claims_in q) = pow_mono (omega arith) in
        or_lt (claims_in p + claims_in q) (summary p).last second (omega arith) second_lt

last_lt : (p : Pattern) → claims_in p ≤ 60 → (summary p).last < 2 ^ claims_in p
last_lt empty h = lit< tt
last_lt (claim c) h = lit< tt
last_lt (alternative p q) h = both_lt p q h (last_lt q (omega arith)) (last_lt p (omega arith))
last_lt (sequence p q) h =
    let l = last_lt q (omega arith) in
    cond_both (summary q).nullable (both p q) (second p q) (λ x. x < 2 ^ (claims_in p + claims_in q)) (λ _. both_lt p q h l (last_lt p (omega arith))) (λ _. second_lt p q h l)
last_lt (star p) h = last_lt p h

-- sets that are moved
moved_twice : (x j k : ℕ) → x * 2 ^ j * 2 ^ k ≡ x * 2 ^ (k + j)
moved_twice x j k = rw (pow-add 2 k j) (omega arith)

moved_or : (a b k : ℕ) → bit_or a b * 2 ^ k ≡ bit_or (a * 2 ^ k) (b * 2 ^ k)
moved_or a b k = sym (simp add-zero at (or_block k a b 0 0 (pow_pos k) (pow_pos k)))

meets_both : (m a b k : ℕ) → meets m (bit_or a b * 2 ^ k) ≡ (meets m (a * 2 ^ k) || meets m (b * 2 ^ k))
meets_both m a b k = ap (meets m) (moved_or a b k) ∙ meets_or m (a * 2 ^ k) (b * 2 ^ k)

meets_cond : (n : Bool) (m a b k : ℕ) → meets m (cond n (bit_or a b) b * 2 ^ k) ≡ (meets m (a * 2 ^ k) && n || meets m (b * 2 ^ k))
meets_cond true m a b k = meets_both m a b k ∙ ap (λ (x : Bool). x || meets m (b * 2 ^ k)) (sym (and-true (meets m (a * 2 ^ k))))
meets_cond false m a b k = ap (λ (x : Bool). x || meets m (b * 2 ^ k)) (sym (and-false (meets m (a * 2 ^ k))))

second_moved : (p q : Pattern) (m lo : ℕ) → lo + (claims_in p + claims_in q) ≤ 60 →
    meets m (second p q * 2 ^ lo) ≡ meets m ((summary q).last * 2 ^ (lo + claims_in p))
second_moved p q m lo h =
    ap (meets m) (ap (λ (x : ℕ). x * 2 ^ lo) (second_is p q (omega arith) (last_lt q (omega arith))) ∙ moved_twice (summary q).last (claims_in p) lo)

-- `last_is`, with the set moved by a product
moved_is : (p : Pattern) (m lo : ℕ) → lo + claims_in p ≤ 60 → meets m ((summary p).last * 2 ^ lo) ≡ left (bit m) lo p
moved_is empty m lo h = ap (meets m) (zero-mul (2 ^ lo)) ∙ meets_none m
moved_is (claim c) m lo h = ap (meets m) (one-mul (2 ^ lo)) ∙ meets_one m lo
moved_is (alternative p q) m lo h =
    let l = second_moved p q m lo h ∙ moved_is q m (lo + claims_in p) (omega arith) in
    meets_both m (summary p).last (second p q) lo ∙ (λ i. moved_is p m lo (omega arith) i || l i)
moved_is (sequence p q) m lo h =
    let l = second_moved p q m lo h ∙ moved_is q m (lo + claims_in p) (omega arith) in
    meets_cond (summary q).nullable m (summary p).last (second p q) lo ∙ (λ i. moved_is p m lo (omega arith) i && nullable_is q i || l i)
moved_is (star p) m lo h = moved_is p m lo h

-- the stored set, counted after lo other claims, meets the marks exactly when some mark stands at the end of p
pub last_is : (p : Pattern) (m lo : ℕ) → lo + claims_in p ≤ 60 → meets m (after lo (summary p).last) ≡ left (bit m) lo p
last_is p m lo h = ap (meets m) (after_is lo (claims_in p) (summary p).last h (last_lt p (omega arith))) ∙ moved_is p m lo h
