-- Bits of sets of claims.
use Rattle.std.proofs.Common.{◌≡◌, ℕ, ◌*◌, ◌^◌, ◌<◌, min, max, false, not, ◌||◌, eqb, ap, ◌∙◌, arith, bit_and, bit_or, pow_pos}
use Rattle.std.specs.Int.{bit_at}
use Rattle.std.specs.Int.Bits.{and_zero_r, or_add_and}
use Rattle.std.proofs.lemmas.Nat.{and_le_l, and_le_r}
use Rattle.std.proofs.lemmas.Bool.Decides.{nat_tests}
use Rattle.std.proofs.lemmas.Nat.Bits.{and_pow, bit_at-lt, bit_at-zero, bit_at_and, bit_at_or, bit_at-pow_same, bit_at-pow_other, same_from_bits}
use Rattle.matching.specs.Marks.{bit, meets}

max_or : (u v : ℕ) → u < 2 → v < 2 → eqb (max u v) 1 ≡ (eqb u 1 || eqb v 1)
max_or u v h g = grind (arith, nat_tests)

pub bit_of_or : (a b k : ℕ) → bit (bit_or a b) k ≡ (bit a k || bit b k)
bit_of_or a b k = ap (λ n. eqb n 1) (bit_at_or a b k) ∙ max_or (bit_at a k) (bit_at b k) (bit_at-lt a k) (bit_at-lt b k)

pub bit_none : (k : ℕ) → bit 0 k ≡ false
bit_none k = ap (λ n. eqb n 1) (bit_at-zero k)

pub bit_one : (j k : ℕ) → bit (2 ^ j) k ≡ eqb k j
bit_one j k = grind (arith, nat_tests, bit_at-pow_same j, bit_at-pow_other j k)

min_max : (a b c : ℕ) → min a (max b c) ≡ max (min a b) (min a c)
min_max a b c = omega arith

and_or : (m a b : ℕ) → bit_and m (bit_or a b) ≡ bit_or (bit_and m a) (bit_and m b)
and_or m a b = same_from_bits _ _ (λ i. simp (bit_at_and, bit_at_or) (min_max (bit_at m i) (bit_at a i) (bit_at b i)))

some_or : (x y : ℕ) → not (eqb (bit_or x y) 0) ≡ (not (eqb x 0) || not (eqb y 0))
some_or x y = grind (arith, nat_tests, or_add_and x y, and_le_l x y, and_le_r x y)

-- the laws of `meets`
pub meets_none : (m : ℕ) → meets m 0 ≡ false
meets_none m = ap (λ n. not (eqb n 0)) (and_zero_r m)

pub meets_or : (m a b : ℕ) → meets m (bit_or a b) ≡ (meets m a || meets m b)
meets_or m a b = ap (λ n. not (eqb n 0)) (and_or m a b) ∙ some_or (bit_and m a) (bit_and m b)

scaled : (d p : ℕ) → d < 2 → 0 < p → not (eqb (d * p) 0) ≡ eqb d 1
scaled d p h g = grind (arith, nat_tests)

pub meets_one : (m k : ℕ) → meets m (2 ^ k) ≡ bit m k
meets_one m k = ap (λ n. not (eqb n 0)) (and_pow m k) ∙ scaled (bit_at m k) (2 ^ k) (bit_at-lt m k) (pow_pos k)
