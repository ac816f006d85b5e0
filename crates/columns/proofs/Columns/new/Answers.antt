use Rattle.columns.proofs.Showing.{each_row_shown}
use Rattle.columns.proofs.Verdicts.{one_verdict}
use Rattle.columns.proofs.Columns.new.Goals as goal

pub returns-in_err-verify-clause-pinned : goal.returns-in_err-verify-clause-pinned
returns-in_err-verify-clause-pinned c = one_verdict _

pub returns-clause-made : goal.returns-clause-made
returns-clause-made c =
    let sound = c.in_ok-verify.ensures in
    record { sound = sound; book = c.at_first_row.ensures.book; rows_shown = each_row_shown _ sound; same_words = c.at_first_row.ensures.same_words }
