use Rattle.std.proofs.Common.{◌≡◌, take, drop}
use Rattle.engine.specs.Calls.{replies, book_after_all}
use Rattle.watch.proofs.runs.run.Given as goal

abbrev pub invariant-loop-i : goal.invariant-loop-i
invariant-loop-i g l =
    let b = g.P.Engine.book l.initial.pile in
    (take l.i l.replies ≡ replies b (take l.i l.calls))
    × (drop l.i l.replies ≡ drop l.i l.initial.replies)
    × (g.P.Engine.book l.pile ≡ book_after_all b (take l.i l.calls))
