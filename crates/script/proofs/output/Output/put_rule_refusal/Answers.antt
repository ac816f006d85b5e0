use Rattle.std.proofs.Common.{ap}
use Rattle.script.specs.Text.{spaced}
use Rattle.script.proofs.Writing.{appended_then, appended_same}
use Rattle.script.proofs.output.Output.put_rule_refusal.Goals as goal

pub returns : goal.returns
returns c =
    appended_then c.put_bytes.ensures
    (appended_then c.put_spaced.ensures
    (appended_then (appended_same (ap spaced c.from.ensures) c.put_spaced-2.ensures) (appended_then c.put_spaced-3.ensures c.put_byte.ensures)))
