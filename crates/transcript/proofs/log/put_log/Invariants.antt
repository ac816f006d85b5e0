use Rattle.std.proofs.Common.{◌+◌, ◌≤◌, length}
use Rattle.script.proofs.Writing.{Remains}
use Rattle.transcript.specs.Log.{orders_text}
use Rattle.transcript.proofs.log.put_log.Given as goal

abbrev pub invariant-loop-line : goal.invariant-loop-line
invariant-loop-line g l = record {
  can : (goal.iterator-loop-line g).can_next l.line-iterator;
  finite : (goal.iterator-loop-line g).is_finite l.line-iterator;
  writing : Remains l.initial.output (orders_text (g.P.Engine.book l.initial.pile) 0 l.initial.line-iterator) l.output (orders_text (g.P.Engine.book l.pile) l.row l.line-iterator);
  few : l.row + length l.line-iterator ≤ 60000;
}
