use Rattle.std.proofs.Common.{◌≡◌, refl, sym, ◌∙◌, subst, arith}
use Rattle.std.proofs.lemmas.List.{length-map}
use Rattle.std.proofs.lemmas.Result.{err_from_is_err_and}
use Rattle.grammar.specs.Viable.{FirstBad}
use Rattle.grammar.proofs.Counts.{rule_claims}
use Rattle.rule.specs.Readers.{Faulted, WholeIs}
use Rattle.rule.specs.Spots.{symbol_at}
use Rattle.rule.specs.Stored.{spots_of, symbols_of}
use Rattle.rule.proofs.rule.Rule.of.Goals as goal

pub returns-in_err-root : goal.returns-in_err-root
returns-in_err-root c =
    let p = err_from_is_err_and c.from_residual.result c.from_residual.ensures.1 in
    rw (p.1, p.2) (subst (λ t. Faulted t (FirstBad (symbols_of t)) c.in_err-root.field-0.0) c.new-reader.ensures.tokens c.in_err-root.ensures)

pub invariant_of-result : goal.invariant_of-result
invariant_of-result c =
    let t = c.args.tokens.now in
    let long = length-map (spots_of t) (symbol_at t.text.now) in
    let r = subst (λ t. WholeIs (symbols_of t) c.whole.new.self.tree c.in_ok-root.root) c.new-reader.ensures.tokens c.in_ok-root.ensures in
    record { least = c.requires.least; most = omega arith; rooted = r.there; few = omega (arith, c.len.ensures, long, c.requires.few); counted = c.requires.counted ∙ rule_claims r.derived; limited = c.requires.limited }

pub returns : goal.returns
returns c =
    let t = c.args.tokens.now in
    let long = length-map (spots_of t) (symbol_at t.text.now) in
    let r = subst (λ t. WholeIs (symbols_of t) c.whole.new.self.tree c.in_ok-root.root) c.new-reader.ensures.tokens c.in_ok-root.ensures in
    (refl, c.len.ensures ∙ sym long, r)
