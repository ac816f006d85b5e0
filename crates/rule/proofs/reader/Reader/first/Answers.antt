use Rattle.std.proofs.Common.{refl, ap, ◌∙◌, subst, arith}
use Rattle.std.proofs.lemmas.Result.{err_from_is_err_and}
use Rattle.rule.specs.Trees.{as_sum}
use Rattle.rule.specs.Built.{nodes_of}
use Rattle.rule.specs.Stored.{symbols_of}
use Rattle.rule.specs.Readers.{symbols_in, TermEnds, TermFails}
use Rattle.rule.proofs.ClaimSteps.{lead_on, sum_first, sum_none}
use Rattle.rule.proofs.Joins.{fails_of, leaf_read}
use Rattle.rule.proofs.reader.Reader.first.Goals as goal

pub returns-in_err-term : goal.returns-in_err-term
returns-in_err-term c =
    let o = c.args.self.now in
    let p = err_from_is_err_and c.from_residual.result c.from_residual.ensures.1 in
    let l = c.lead-sign.ensures in
    rw (p.1, p.2) (fails_of (λ ts. TermFails ts c.lead-sign.new.self.at) l.tokens (λ k. sum_none (symbols_in o) o.at _ k _ l.is) c.in_err-term.ensures)

pub returns : goal.returns
returns c =
    let o = c.args.self.now in
    let l = c.lead-sign.ensures in
    let t = c.in_ok-term.ensures in
    let x : TermEnds (symbols_in o) c.lead-sign.new.self.at c.term.new.self.at c.in_ok-term.term =
    subst (λ u. TermEnds (symbols_of u) c.lead-sign.new.self.at c.term.new.self.at c.in_ok-term.term) l.tokens t.is in
    leaf_read o (t.tokens ∙ l.tokens) c.add.ensures as_sum (ap nodes_of (t.tree ∙ l.tree)) (omega (arith, lead_on (symbols_in o) l.is o.within, x.on)) (λ us. refl)
    (sum_first (symbols_in o) o.at _ _ _ _ o.within l.is x)
