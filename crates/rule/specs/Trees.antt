-- The trees that numbered nodes stand for.
use Rattle.std.specs.Prelude.{ℕ, List, [], ◌∷◌, ◌++◌, map, slice_index_or}
use Rattle.rule.specs.declared.node.Node.{Node}
use Rattle.rule.specs.declared.node.Node.TheVariants.{Empty, Claim as ClaimOf, Alternative, Sequence, Star, Implication, Disjunction, Conjunction, Negation, Truth, Presence, Comparison, First, More}
use Rattle.rule.specs.declared.summary.Summary.{Summary}
use Rattle.rule.specs.declared.entry.Entry.{Entry}
use Rattle.rule.specs.Summaries.{summary}
use Rattle.grammar.specs.Tree.{Sum, first, more, Claim, implication, disjunction, conjunction, negation, truth, presence, comparison, Pattern, empty, claim, alternative, sequence, star}
use Rattle.grammar.specs.declared.Sign.TheVariants.{Plus}
use Rattle.grammar.specs.declared.Term.TheVariants.{Constant}

-- what a node can stand for; asked for another kind than its own, it stands for the simplest of that kind
pub data Thing : Type 0 where
  a_pattern : Pattern → Thing
  a_claim : Claim → Thing
  a_sum : Sum → Thing

abbrev pub blank : Thing
blank = a_pattern empty

abbrev pub as_pattern : Thing → Pattern
as_pattern (a_pattern x) = x
as_pattern (a_claim x) = empty
as_pattern (a_sum x) = empty

abbrev pub as_claim : Thing → Claim
as_claim (a_pattern x) = truth
as_claim (a_claim x) = x
as_claim (a_sum x) = truth

abbrev pub as_sum : Thing → Sum
as_sum (a_pattern x) = first Plus (Constant 0)
as_sum (a_claim x) = first Plus (Constant 0)
as_sum (a_sum x) = x

-- what a node stands for over what those before it stand for
abbrev pub made : List Thing → Node → Thing
made ts Empty = a_pattern empty
made ts (ClaimOf a) = a_pattern (claim (as_claim (slice_index_or ts a blank)))
made ts (Alternative a b) = a_pattern (alternative (as_pattern (slice_index_or ts a blank)) (as_pattern (slice_index_or ts b blank)))
made ts (Sequence a b) = a_pattern (sequence (as_pattern (slice_index_or ts a blank)) (as_pattern (slice_index_or ts b blank)))
made ts (Star a) = a_pattern (star (as_pattern (slice_index_or ts a blank)))
made ts (Implication a b) = a_claim (implication (as_claim (slice_index_or ts a blank)) (as_claim (slice_index_or ts b blank)))
made ts (Disjunction a b) = a_claim (disjunction (as_claim (slice_index_or ts a blank)) (as_claim (slice_index_or ts b blank)))
made ts (Conjunction a b) = a_claim (conjunction (as_claim (slice_index_or ts a blank)) (as_claim (slice_index_or ts b blank)))
made ts (Negation a) = a_claim (negation (as_claim (slice_index_or ts a blank)))
made ts Truth = a_claim truth
made ts (Presence l) = a_claim (presence l)
made ts (Comparison r a b) = a_claim (comparison r (as_sum (slice_index_or ts a blank)) (as_sum (slice_index_or ts b blank)))
made ts (First d t) = a_sum (first d t)
made ts (More a d t) = a_sum (more (as_sum (slice_index_or ts a blank)) d t)

-- what the nodes stand for, after those of ts
abbrev pub things : List Thing → List Node → List Thing
things ts [] = ts
things ts (n ∷ ns) = things (ts ++ made ts n ∷ []) ns

abbrev pub thing : List Node → ℕ → Thing
thing ns i = slice_index_or (things [] ns) i blank

abbrev pub node_at : List Node → ℕ → Node
node_at ns i = slice_index_or ns i Empty

-- the pattern at a node
abbrev pub pattern : List Node → ℕ → Pattern
pattern ns i = as_pattern (thing ns i)

-- the summaries of the patterns at the nodes, at one of them, and at one that is put after them
abbrev pub summaries_of : List Node → List Summary
summaries_of ns = map (λ t. summary (as_pattern t)) (things [] ns)

abbrev pub summary_at : List Node → ℕ → Summary
summary_at ns i = summary (pattern ns i)

abbrev pub summary_with : List Node → Node → Summary
summary_with ns n = summary (as_pattern (made (things [] ns) n))

-- the nodes that are stored, and the summaries beside them
abbrev pub nodes_in : List Entry → List Node
nodes_in es = map (λ e. e.node) es

abbrev pub summaries_in : List Entry → List Summary
summaries_in es = map (λ e. e.summary) es
