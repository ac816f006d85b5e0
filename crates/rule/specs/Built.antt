-- What a reading adds to a tree.
use Rattle.std.specs.Prelude.{◌≡◌, ℕ, ◌+◌, ◌<◌, ◌≤◌, List, ◌++◌, length}
use Rattle.rule.specs.declared.node.Node.{Node}
use Rattle.rule.specs.declared.tree.Tree.{Tree}
use Rattle.rule.specs.Trees.{Thing, thing, nodes_in}

abbrev pub nodes_of : Tree → List Node
nodes_of t = nodes_in t.entries.items

-- a reading from the token `at` to the token p put nodes after the old ones, no more than it took tokens, and the node n stands
-- for what was read
pub record Made {X : Type 0} (get : Thing → X) (Is : ℕ → X → Type 0) (at : ℕ) (old new : List Node) (p n : ℕ) : Type 0 where
  pub few : length new + at ≤ length old + p
  pub more : List Node
  pub kept : new ≡ old ++ more
  pub there : n < length new
  pub is : Is p (get (thing new n))
