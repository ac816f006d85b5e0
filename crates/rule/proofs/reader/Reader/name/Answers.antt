use Rattle.std.proofs.Common.{refl, ap, ◌∙◌, arith, drop}
use Rattle.grammar.specs.Symbol.{Quote}
use Rattle.rule.specs.Readers.{symbols_in, Lacks, Next}
use Rattle.rule.proofs.ClaimSteps.{name_newest, name_plain}
use Rattle.rule.proofs.Joins.{on, found_to}
use Rattle.rule.proofs.reader.Reader.name.Goals as goal

pub returns-then-eat : goal.returns-then-eat
returns-then-eat c =
    let o = c.args.self.now in
    let w = c.in-Some.ensures in
    let q = c.if-eat.ensures.1 in
    found_to (q.tokens ∙ w.tokens) (q.tree ∙ w.tree) (omega (arith, q.at, w.at))
    (name_newest (symbols_in o) o.at c.in-Some.field w.was (on o refl w (λ ts p. Next ts p Quote) q.was))

pub returns : goal.returns
returns c =
    let o = c.args.self.now in
    let w = c.in-Some.ensures in
    let e = c.if-eat.ensures in
    found_to (ap (λ r. r.tokens.now) e.0 ∙ w.tokens) (ap (λ r. r.tree) e.0 ∙ w.tree) (ap (λ r. r.at) e.0 ∙ w.at)
    (name_plain (symbols_in o) o.at c.in-Some.field w.was (on o refl w (λ ts p. Lacks Quote (drop p ts)) (e.1 0)))
