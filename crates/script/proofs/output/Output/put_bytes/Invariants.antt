use Rattle.std.proofs.Common.{drop}
use Rattle.script.proofs.Writing.{Remains}
use Rattle.script.proofs.output.Output.put_bytes.Given as goal

abbrev pub invariant-loop-byte : goal.invariant-loop-byte
invariant-loop-byte l = Remains l.initial.self l.text l.self (drop l.byte-index l.text)
