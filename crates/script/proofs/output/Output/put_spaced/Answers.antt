use Rattle.script.proofs.Writing.{appended_then}
use Rattle.script.proofs.output.Output.put_spaced.Goals as goal

pub returns : goal.returns
returns c = appended_then c.put_bytes.ensures c.put_number.ensures
