use Rattle.std.proofs.Common.{refl}
use Rattle.script.proofs.Writing.{wrote_byte, wrote_past}
use Rattle.script.proofs.output.Output.put_byte.Goals as goal

pub returns-then-self : goal.returns-then-self
returns-then-self c = record { wrote = wrote_byte _ _ _ c.if-self.true; same_reference = refl }

pub returns-else-self : goal.returns-else-self
returns-else-self c = record { wrote = wrote_past _ _ _ c.if-self.false; same_reference = refl }
