-- Nodes that come after their parts.
use Rattle.std.proofs.Common.{◌≡◌, ℕ, zero, suc, ◌+◌, ◌<◌, Bool, true, ◌&&◌, ltb, List, [], ◌∷◌, ◌++◌, length, get_or, sym, refl, subst, ⊎_elim, add-zero, zero-add, arith}
use Rattle.std.proofs.lemmas.List.{get_or_past}
use Rattle.std.proofs.str.Laws.{order}
use Rattle.std.proofs.lemmas.Bool.Decides.{nat_tests}
use Rattle.rule.specs.declared.node.Node.{Node}
use Rattle.rule.specs.declared.node.Node.TheVariants.{Empty, Claim, Alternative, Sequence, Star, Implication, Disjunction, Conjunction, Negation, Truth, Presence, Comparison, First, More}
use Rattle.rule.specs.Order.{below, ordered, PartsBelow}

all_of : (a b : Bool) → a ≡ true → b ≡ true → a && b ≡ true
all_of a b e f = grind (arith, nat_tests)

left_of : (a b : Bool) → a && b ≡ true → a ≡ true
left_of a b e = grind (arith, nat_tests)

right_of : (a b : Bool) → a && b ≡ true → b ≡ true
right_of a b e = grind (arith, nat_tests)

ordered_push : (k : ℕ) (ns : List Node) (n : Node) → ordered k ns ≡ true → below (k + length ns) n ≡ true → ordered k (ns ++ n ∷ []) ≡ true
ordered_push k [] n o h = all_of (below k n) true (subst (λ i. below i n ≡ true) (add-zero k) h) refl
ordered_push k (m ∷ ns) n o h =
    let e : k + length (m ∷ ns) ≡ k + 1 + length ns = omega arith in
    all_of (below k m) _ (left_of (below k m) _ o) (ordered_push (k + 1) ns n (right_of (below k m) _ o) (subst (λ i. below i n ≡ true) e h))

lower : (a k : ℕ) → a < k → ltb a k ≡ true
lower a k h = grind (arith, nat_tests)

two : (a b k : ℕ) → (a < k) × (b < k) → ltb a k && ltb b k ≡ true
two a b k h = all_of (ltb a k) (ltb b k) (lower a k h.0) (lower b k h.1)

is_below : (k : ℕ) (n : Node) → PartsBelow k n → below k n ≡ true
is_below k Empty u = refl
is_below k (Claim a) u = lower a k u
is_below k (Alternative a b) u = two a b k u
is_below k (Sequence a b) u = two a b k u
is_below k (Star a) u = lower a k u
is_below k (Implication a b) u = two a b k u
is_below k (Disjunction a b) u = two a b k u
is_below k (Conjunction a b) u = two a b k u
is_below k (Negation a) u = lower a k u
is_below k Truth u = refl
is_below k (Presence l) u = refl
is_below k (Comparison r a b) u = two a b k u
is_below k (First d t) u = refl
is_below k (More a d t) u = lower a k u

pub pushed : (old new : List Node) (n : Node) → new ≡ old ++ n ∷ [] → ordered 0 old ≡ true → PartsBelow (length old) n → ordered 0 new ≡ true
pushed old new n e o h =
    subst (λ l. ordered 0 l ≡ true) (sym e) (ordered_push 0 old n o (subst (λ i. below i n ≡ true) (sym (zero-add (length old))) (is_below (length old) n h)))

raise : (a k : ℕ) → ltb a k ≡ true → a < k
raise a k h = grind (arith, nat_tests)

two_parts : (a b k : ℕ) → ltb a k && ltb b k ≡ true → (a < k) × (b < k)
two_parts a b k h = (raise a k (left_of (ltb a k) (ltb b k) h), raise b k (right_of (ltb a k) (ltb b k) h))

parts_below : (k : ℕ) (n : Node) → below k n ≡ true → PartsBelow k n
parts_below k Empty h = tt
parts_below k (Claim a) h = raise a k h
parts_below k (Alternative a b) h = two_parts a b k h
parts_below k (Sequence a b) h = two_parts a b k h
parts_below k (Star a) h = raise a k h
parts_below k (Implication a b) h = two_parts a b k h
parts_below k (Disjunction a b) h = two_parts a b k h
parts_below k (Conjunction a b) h = two_parts a b k h
parts_below k (Negation a) h = raise a k h
parts_below k Truth h = tt
parts_below k (Presence l) h = tt
parts_below k (Comparison r a b) h = two_parts a b k h
parts_below k (First d t) h = tt
parts_below k (More a d t) h = raise a k h

below_at : (k : ℕ) (ns : List Node) (i : ℕ) → ordered k ns ≡ true → i < length ns → below (k + i) (get_or ns i Empty) ≡ true
below_at k [] i o h = absurd (omega arith)
below_at k (n ∷ ns) zero o h = subst (λ j. below j n ≡ true) (sym (add-zero k)) (left_of (below k n) _ o)
below_at k (n ∷ ns) (suc i) o h =
    let e : k + 1 + i ≡ k + suc i = omega arith in
    subst (λ j. below j (get_or ns i Empty) ≡ true) e (below_at (k + 1) ns i (right_of (below k n) _ o) (omega arith))

-- a node that is there has its parts before it, and an empty pattern has none
pub parts_at : (ns : List Node) (i : ℕ) → ordered 0 ns ≡ true → PartsBelow i (get_or ns i Empty)
parts_at ns i o =
    ⊎_elim (λ h. subst (λ k. PartsBelow k (get_or ns i Empty)) (zero-add i) (parts_below (0 + i) (get_or ns i Empty) (below_at 0 ns i o h)))
    (λ h. subst (PartsBelow i) (sym (get_or_past ns i Empty h)) tt)
    (order i (length ns))

pub ordered_rest : (k : ℕ) (n : Node) (ns : List Node) → ordered k (n ∷ ns) ≡ true → ordered (k + 1) ns ≡ true
ordered_rest k n ns o = right_of (below k n) _ o

pub ordered_first : (k : ℕ) (n : Node) (ns : List Node) → ordered k (n ∷ ns) ≡ true → PartsBelow k n
ordered_first k n ns o = parts_below k n (left_of (below k n) _ o)
