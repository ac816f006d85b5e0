use Rattle.std.proofs.Common.{subst}
use Rattle.std.proofs.lemmas.Result.{err_from_is_err_and}
use Rattle.rule.specs.Readers.{symbols_in, Faulted, Found, NameEnds, NameFails}
use Rattle.rule.proofs.Faults.{faulted}
use Rattle.rule.proofs.ClaimSteps.{term_name, term_none}
use Rattle.rule.proofs.reader.Reader.term.Goals as goal

pub returns-in_err-name : goal.returns-in_err-name
returns-in_err-name c =
    let o = c.args.self.now in
    let p = err_from_is_err_and c.from_residual.result c.from_residual.ensures.1 in
    let d = c.in_default.ensures in
    rw (p.1, p.2) (faulted (λ k. term_none (symbols_in o) o.at k o.within d.1) (subst (λ r. Faulted r.tokens.now (NameFails (symbols_in r) r.at) c.in_err-name.field-0.0) d.0 c.in_err-name.ensures))

pub returns : goal.returns
returns c =
    let o = c.args.self.now in
    let n = subst (λ r. Found NameEnds r c.name.new.self c.in_ok-name.name) c.in_default.ensures.0 c.in_ok-name.ensures in
    record { tokens = n.tokens; tree = n.tree; is = term_name (symbols_in o) o.at _ _ n.is }
