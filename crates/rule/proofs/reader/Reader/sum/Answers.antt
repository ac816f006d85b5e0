use Rattle.std.proofs.Common.{refl, ap, ◌∙◌, arith}
use Rattle.grammar.specs.Tree.{more}
use Rattle.rule.specs.Trees.{as_sum}
use Rattle.rule.specs.Built.{nodes_of}
use Rattle.rule.specs.Readers.{symbols_in}
use Rattle.rule.proofs.ClaimSteps.{sum_more}
use Rattle.rule.proofs.Joins.{next, found_on, wrap_read}
use Rattle.rule.proofs.reader.Reader.sum.Goals as goal

pub loop-terms-preserved : goal.loop-terms-preserved
loop-terms-preserved c =
    let o = c.args.self.now in
    let a = c.loop-terms.invariant in
    let w = c.in-Some.ensures in
    let t = c.in_ok-term.ensures in
    let x = found_on o a.tokens w t in
    wrap_read o (t.tokens ∙ w.tokens ∙ a.tokens) c.add-sum.ensures as_sum as_sum (λ x. more x c.in-Some.sign c.in_ok-term.term) o.at a.made (ap nodes_of (t.tree ∙ w.tree)) (omega (arith, x.on)) (λ us. refl)
    (sum_more (symbols_in o) o.at _ _ _ _ _ _ a.made.is (omega (arith, c.loop-terms-test.true)) (next o a.tokens w) x)
