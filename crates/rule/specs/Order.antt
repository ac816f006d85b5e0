-- Nodes that come after their parts.
use Rattle.std.specs.Prelude.{ℕ, ◌+◌, ◌<◌, Bool, true, ◌&&◌, List, [], ◌∷◌, nat_lt}
use Rattle.rule.specs.declared.node.Node.{Node}
use Rattle.rule.specs.declared.node.Node.TheVariants.{Empty, Claim, Alternative, Sequence, Star, Implication, Disjunction, Conjunction, Negation, Truth, Presence, Comparison, First, More}

-- the parts of the node are below k
abbrev pub below : ℕ → Node → Bool
below k Empty = true
below k (Claim a) = nat_lt a k
below k (Alternative a b) = nat_lt a k && nat_lt b k
below k (Sequence a b) = nat_lt a k && nat_lt b k
below k (Star a) = nat_lt a k
below k (Implication a b) = nat_lt a k && nat_lt b k
below k (Disjunction a b) = nat_lt a k && nat_lt b k
below k (Conjunction a b) = nat_lt a k && nat_lt b k
below k (Negation a) = nat_lt a k
below k Truth = true
below k (Presence l) = true
below k (Comparison r a b) = nat_lt a k && nat_lt b k
below k (First d t) = true
below k (More a d t) = nat_lt a k

-- each node, the first of them the k-th, has its parts before it
abbrev pub ordered : ℕ → List Node → Bool
ordered k [] = true
ordered k (n ∷ ns) = below k n && ordered (k + 1) ns

-- the same, as a fact
abbrev pub PartsBelow : ℕ → Node → Type 0
PartsBelow k Empty = Unit {0}
PartsBelow k (Claim a) = a < k
PartsBelow k (Alternative a b) = (a < k) × (b < k)
PartsBelow k (Sequence a b) = (a < k) × (b < k)
PartsBelow k (Star a) = a < k
PartsBelow k (Implication a b) = (a < k) × (b < k)
PartsBelow k (Disjunction a b) = (a < k) × (b < k)
PartsBelow k (Conjunction a b) = (a < k) × (b < k)
PartsBelow k (Negation a) = a < k
PartsBelow k Truth = Unit {0}
PartsBelow k (Presence l) = Unit {0}
PartsBelow k (Comparison r a b) = (a < k) × (b < k)
PartsBelow k (First d t) = Unit {0}
PartsBelow k (More a d t) = a < k
