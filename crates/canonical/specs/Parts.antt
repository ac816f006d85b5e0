-- The text of a part of a rule's tree.
use Rattle.std.specs.Prelude.{ℕ, List}
use Rattle.rule.specs.Trees.{Thing, as_pattern, as_claim, as_sum}
use Rattle.rule.specs.Held.{thing_of}
use Rattle.canonical.specs.declared.part.Kind.{Kind}
use Rattle.canonical.specs.declared.part.Kind.TheVariants.{Pattern, Claim, Sum}
use Rattle.canonical.specs.declared.part.Part.{Part}
use Rattle.canonical.specs.Text.{pattern_text, claim_text, sum_text}

-- the text of what a node stands for, read as a kind
abbrev pub kind_text : Kind → Thing → List ℕ
kind_text Pattern t = pattern_text (as_pattern t)
kind_text Claim t = claim_text (as_claim t)
kind_text Sum t = sum_text (as_sum t)

abbrev pub part_text : Part → List ℕ
part_text p = kind_text p.kind (thing_of p.rule.now p.node)
