use Rattle.std.proofs.lemmas.List.{drop_more}
use Rattle.script.proofs.Writing.{remains_all, remains_less}
use Rattle.script.proofs.output.Output.put_bytes.Goals as goal

pub loop-byte-init : goal.loop-byte-init
loop-byte-init c = remains_all

pub loop-byte-preserved : goal.loop-byte-preserved
loop-byte-preserved c = remains_less (drop_more c.args.text.now c.loop-byte.byte-index 0 c.loop-byte-test.true) c.loop-byte.invariant c.put_byte.ensures
