use Rattle.std.proofs.Common.{refl, drop}
use Rattle.grammar.specs.Symbol.{Relational}
use Rattle.grammar.specs.Tree.{comparison}
use Rattle.rule.specs.Trees.{as_sum, as_claim}
use Rattle.rule.specs.Readers.{symbols_in, LacksAll}
use Rattle.rule.proofs.ClaimSteps.{comparison_done, comparison_cut}
use Rattle.rule.proofs.Joins.{of, joined, refused_at}
use Rattle.rule.proofs.reader.Reader.comparison.Goals as goal

pub returns-in_default : goal.returns-in_default
returns-in_default c =
    let o = c.args.self.now in
    let m = c.sum.new.self in
    let a = c.in_ok-left.ensures in
    let d = c.in_default.ensures in
    refused_at o m _ d.0 a.tokens c.unexpected.ensures
    (comparison_cut (symbols_in o) o.at m.at _ a.made.is (of o m a.tokens (λ ts. LacksAll Relational (drop m.at ts)) d.1))

pub returns : goal.returns
returns c =
    let o = c.args.self.now in
    joined as_sum as_sum as_claim (comparison c.in-Some.relation) c.in_ok-left.ensures c.in-Some.ensures c.in_ok-right.ensures c.add.ensures (λ us. refl)
    (λ x y. comparison_done (symbols_in o) o.at _ _ c.in-Some.relation x y)
