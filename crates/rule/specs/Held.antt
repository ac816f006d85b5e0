-- What the place for a rule holds, and what reading makes of it.
use Rattle.std.specs.Prelude.{◌≡◌, ℕ, List, [], length, ℤ, pos, Ok, Err, Result}
use Rattle.grammar.specs.declared.Refusal.{Refusal}
use Rattle.grammar.specs.Tree.{Pattern}
use Rattle.grammar.specs.Cutting.{Placed}
use Rattle.grammar.specs.Reading.{Allowed, Refused}
use Rattle.rule.specs.declared.node.Node.{Node}
use Rattle.rule.specs.declared.rule.Rule.{Rule}
use Rattle.rule.specs.declared.summary.Summary.{Summary}
use Rattle.rule.specs.Trees.{Thing, made, things, thing, node_at, pattern, summary_at}
use Rattle.rule.specs.Built.{nodes_of}

abbrev pub watch_of : Rule → ℕ
watch_of u = u.watch

abbrev pub tokens_of : Rule → ℕ
tokens_of u = u.tokens

abbrev pub root_of : Rule → ℕ
root_of u = u.root

-- its node n, and how many there are
abbrev pub node_of : Rule → ℕ → Node
node_of u n = node_at (nodes_of u.tree) n

abbrev pub size_of : Rule → ℕ
size_of u = length (nodes_of u.tree)

-- the tree that a rule is: every layer above speaks of a rule by this tree
abbrev pub rule_tree : Rule → Pattern
rule_tree u = pattern (nodes_of u.tree) u.root

-- what its node n stands for, and what a node stands for by its parts
abbrev pub thing_of : Rule → ℕ → Thing
thing_of u n = thing (nodes_of u.tree) n

abbrev pub meaning : Rule → Node → Thing
meaning u v = made (things [] (nodes_of u.tree)) v

abbrev pub summary_of : Rule → ℕ → Summary
summary_of u n = summary_at (nodes_of u.tree) n

-- the place holds the rule of a text, under the watch number passed, with the count of its tokens
pub record Holds (n : ℤ) (text : List ℕ) (u : Rule) : Type 0 where
  pub placed : List Placed
  pub allowed : Allowed n text placed (rule_tree u)
  pub watch : pos (watch_of u) ≡ n
  pub count : tokens_of u ≡ length placed

-- what reading makes of a place: it holds the text's rule, or it is as it was and the text is refused
abbrev pub Outcome : ℤ → List ℕ → Rule → Rule → Result (Unit {0}) Refusal → Type 0
Outcome n text old new (Ok x) = Holds n text new
Outcome n text old new (Err e) = (new ≡ old) × Refused n text e

-- a text that grammar and limits allow is read, with whatever tokens and as whatever tree they give it
abbrev pub ReadWhenAllowed : ℤ → List ℕ → Rule → Result (Unit {0}) Refusal → Type 0
ReadWhenAllowed n text new r = (ts : List Placed) (x : Pattern) → Allowed n text ts x → (r ≡ Ok tt) × (rule_tree new ≡ x) × (tokens_of new ≡ length ts)

-- a text that is to be refused is refused, by whatever refusal it is to have
abbrev pub RefusedWhenNot : ℤ → List ℕ → Result (Unit {0}) Refusal → Type 0
RefusedWhenNot n text r = (e : Refusal) → Refused n text e → r ≡ Err e

-- what parsing makes of a text: its rule and no other, or its refusal and no other
abbrev pub Parsed : ℤ → List ℕ → Result Rule Refusal → Type 0
Parsed n text (Ok u) = Holds n text u × ReadWhenAllowed n text u (Ok tt) × RefusedWhenNot n text (Ok tt)
Parsed n text (Err e) = Refused n text e × ((u : Rule) → ReadWhenAllowed n text u (Err e)) × RefusedWhenNot n text (Err e)
