use Rattle.std.proofs.Common.{◌≡◌, min, refl, length, take, arith, length-take}
use Rattle.watch.proofs.Sending.{all_answered, as_pair}
use Rattle.watch.proofs.runs.run_both.Goals as goal

pub returns-clause-paired : goal.returns-clause-paired
returns-clause-paired g c =
    let p = g.P.Engine.book c.args.pile.now in
    let q = g.Q.Engine.book c.args.other.now in
    let cs = c.args.calls.now in
    let n = c.min-count.result in
    let size : length (take n cs) ≡ min n (length cs) = length-take n cs in
    let m : c.run.result ≡ n = omega (arith, size) in
    let m₂ : c.run-2.result ≡ n = omega (arith, size) in
    let a = all_answered cs n c.run.result n m refl p c.args.replies.now c.run.new.replies c.run.ensures.answered in
    let a₂ = all_answered cs n c.run-2.result n m₂ refl q c.args.others.now c.run-2.new.replies c.run-2.ensures.answered in
    as_pair (take n cs) (take n c.run.new.replies) (take n c.run-2.new.replies) p q a.told a₂.told
