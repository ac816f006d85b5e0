use Rattle.std.proofs.Common.{map, Ok, ap}
use Rattle.std.proofs.lemmas.List.{at_drop_more}
use Rattle.engine.specs.Messages.{message}
use Rattle.engine.specs.declared.answers.Reply.TheVariants.{ToGive}
use Rattle.script.specs.Text.{shown_text, columns_text}
use Rattle.script.proofs.Writing.{appended_then, appended_same, remains_all, remains_less}
use Rattle.script.proofs.output.Output.put_columns.Goals as goal

pub loop-reply-init : goal.loop-reply-init
loop-reply-init c = remains_all

pub loop-reply-preserved : goal.loop-reply-preserved
loop-reply-preserved c =
    remains_less (at_drop_more (λ xs. columns_text (map message xs)) c.args.shown.now c.loop-reply.reply-index (ToGive (Ok tt)) c.loop-reply-test.true) c.loop-reply.invariant
    (appended_then c.put_byte.ensures (appended_same (ap shown_text c.value.ensures) c.put_shown.ensures))
