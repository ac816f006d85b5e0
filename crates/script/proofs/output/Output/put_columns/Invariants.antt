use Rattle.std.proofs.Common.{map, drop}
use Rattle.engine.specs.Messages.{message}
use Rattle.script.specs.Text.{columns_text}
use Rattle.script.proofs.Writing.{Remains}
use Rattle.script.proofs.output.Output.put_columns.Given as goal

abbrev pub invariant-loop-reply : goal.invariant-loop-reply
invariant-loop-reply l = Remains l.initial.self (columns_text (map message l.shown)) l.self (columns_text (map message (drop l.reply-index l.shown)))
