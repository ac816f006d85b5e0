-- Each turn keeps what the table holds, and each way out says how the cutting ended.
use Rattle.std.proofs.Common.{Ok, Err, Some, sym, ap, ◌∙◌}
use Rattle.std.proofs.lemmas.Result.{err_from_is_err_and}
use Rattle.rule.specs.Scanning.{told}
use Rattle.rule.proofs.Sofar.{here, stopped, ended, one_more}
use Rattle.rule.proofs.tokens.Tokens.cut.Goals as goal

pub returns-in_err-token : goal.returns-in_err-token
returns-in_err-token c =
    let p = err_from_is_err_and c.from_residual.result c.from_residual.ensures.1 in
    let is = ap (λ r. told (Some r) c.next.new.self.at) (sym c.in_err-token.was) ∙ c.in-Some.ensures.steps.0 in
    rw (p.1, p.2) (stopped c.loop-token.invariant (here c.loop-token.invariant _ is))

pub returns-in_err-tag : goal.returns-in_err-tag
returns-in_err-tag c =
    let p = err_from_is_err_and c.from_residual-in_err-tag.result c.from_residual-in_err-tag.ensures.1 in
    let is = ap (λ r. told (Some r) c.next.new.self.at) (sym c.in_ok-token.was) ∙ c.in-Some.ensures.steps.0 in
    rw (p.1, p.2) (stopped c.loop-token.invariant (here c.loop-token.invariant _ is (Err c.in_err-tag.field-0.0) c.in_err-tag.ensures))

pub loop-token-preserved : goal.loop-token-preserved
loop-token-preserved c =
    let is = ap (λ r. told (Some r) c.next.new.self.at) (sym c.in_ok-token.was) ∙ c.in-Some.ensures.steps.0 in
    one_more c.loop-token.invariant (here c.loop-token.invariant _ is (Ok c.in_ok-tag.tag) c.in_ok-tag.ensures) c.in-Some.ensures.steps.1 c.push.ensures.text c.push.ensures.more

pub returns : goal.returns
returns c = ended c.loop-token.invariant (here c.loop-token.invariant _ c.in-None.ensures.steps.0)
