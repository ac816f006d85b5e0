use Rattle.std.proofs.Common.{◌<◌, ◌≤◌, [], ◌∷◌, ◌++◌, length, sym, ◌∙◌, arith, length-append, take_all}
use Rattle.std.proofs.lemmas.List.{take-append-le}
use Rattle.std.proofs.lemmas.Bool.Decides.{nat_tests}
use Rattle.rule.specs.Spots.{spot}
use Rattle.rule.specs.Stored.{spots_of}
use Rattle.rule.proofs.tokens.Tokens.push.Goals as goal

pub returns-then-not-is_full-clause-more : goal.returns-then-not-is_full-clause-more
returns-then-not-is_full-clause-more c =
    let t = c.args.self.now in
    let s = spot c.args.tag c.args.place in
    let room : length (spots_of t) < 501 = grind (arith, nat_tests) in
    c.push.ensures.items ∙ sym (take_all 501 (spots_of t ++ s ∷ []) (omega (arith, length-append (spots_of t) (s ∷ []))))

pub returns-else-not-is_full-clause-more : goal.returns-else-not-is_full-clause-more
returns-else-not-is_full-clause-more c =
    let t = c.args.self.now in
    let s = spot c.args.tag c.args.place in
    let full : 501 ≤ length (spots_of t) = grind (arith, nat_tests) in
    sym (take_all 501 (spots_of t) t.few) ∙ sym (take-append-le 501 (spots_of t) (s ∷ []) full)
