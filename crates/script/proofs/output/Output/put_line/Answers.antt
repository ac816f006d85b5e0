use Rattle.std.proofs.Common.{decimal, ap, ◌∙◌}
use Rattle.script.proofs.Writing.{appended_then, appended_same}
use Rattle.script.proofs.output.Output.put_line.Goals as goal

pub returns : goal.returns
returns c = appended_then (appended_same (ap decimal (c.from.ensures ∙ c.number.ensures)) c.put_number.ensures) (appended_then c.put_detail.ensures c.put_byte.ensures)
