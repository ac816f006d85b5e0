use Rattle.std.proofs.Common.{◌≡◌, ◌<◌, min, length, take, sym, ap, ◌∙◌, arith, length-take}
use Rattle.std.proofs.lemmas.List.{get_or-take}
use Rattle.engine.specs.Calls.{reply, replies, book_after}
use Rattle.watch.proofs.Sending.{told_more, moved_more, rest_more, as_pile}
use Rattle.watch.proofs.runs.run.Goals as goal

pub loop-i-preserved : goal.loop-i-preserved
loop-i-preserved g c =
    let b = g.P.Engine.book c.args.pile.now in
    let d = g.P.Engine.book c.loop-i.pile in
    let cs = c.args.calls.now in
    let i = c.loop-i.i in
    let n = c.min-count.result in
    let size : length (take n cs) ≡ min n (length cs) = length-take n cs in
    let within : i < length cs = omega (arith, size) in
    let room : i < length c.loop-i.replies = omega (arith, size) in
    let call = get_or-take n cs i _ (omega (arith, size)) in (
      told_more b cs i _ within d c.loop-i.invariant.2 c.loop-i.replies c.send.result room c.loop-i.invariant.0 (c.send.ensures.told ∙ ap (reply d) call),
      rest_more i c.args.replies.now c.loop-i.replies c.send.result c.loop-i.invariant.1,
      moved_more b cs i _ within d c.loop-i.invariant.2 (g.P.Engine.book c.send.new.pile) (c.send.ensures.moved ∙ ap (book_after d) call),
    )

pub returns-clause-piled : goal.returns-clause-piled
returns-clause-piled g c =
    let b = g.P.Engine.book c.args.pile.now in
    let cs = c.args.calls.now in
    let n = c.min-count.result in
    let rs = c.loop-i.replies in
    let size : length (take n cs) ≡ min n (length cs) = length-take n cs in
    let at : c.loop-i.i ≡ n = omega (arith, size) in
    as_pile (take n cs) (take n rs) b (ap (λ k. take k rs) (sym at) ∙ c.loop-i.invariant.0 ∙ ap (λ k. replies b (take k cs)) at)
