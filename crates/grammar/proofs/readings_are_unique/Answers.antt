use Rattle.grammar.proofs.readings_are_unique.Goals as goal
use Rattle.grammar.proofs.Unique.{one_tree, never_both, one_refusal}

pub returns : goal.returns
returns c = record { one_tree = one_tree; never_both = never_both; one_refusal = one_refusal }
