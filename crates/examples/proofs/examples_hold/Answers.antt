use Rattle.examples.proofs.Texts.{always_true, empty_text, no_comparison, unknown_word}
use Rattle.examples.proofs.Matches.{empty_pattern, missing_is_unequal}
use Rattle.examples.proofs.examples_hold.Goals as goal

pub returns : goal.returns
returns c = record { always_true = always_true; empty_text = empty_text; no_comparison = no_comparison; unknown_word = unknown_word; empty_pattern = empty_pattern; missing_is_unequal = missing_is_unequal }
