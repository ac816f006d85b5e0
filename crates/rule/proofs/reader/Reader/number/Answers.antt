use Rattle.std.proofs.Common.{sym, ap, ◌∙◌, subst}
use Rattle.grammar.specs.Symbol.{Number}
use Rattle.rule.specs.Readers.{Stepped}
use Rattle.rule.specs.Stored.{number_in}
use Rattle.rule.proofs.Numbers.{number_here}
use Rattle.rule.proofs.Peeks.{lacks_all}
use Rattle.rule.proofs.reader.Reader.number.Goals as goal

pub returns-then-eat : goal.returns-then-eat
returns-then-eat c =
    let e = c.if-eat.ensures in
    let o = c.args.self.now in
    let n = c.eat.new.self in
    subst (λ k. Stepped (Number k) o n) (number_here o.tokens.now o.at e.0 e.1.was ∙ ap (λ t. number_in t o.at) (sym e.1.tokens) ∙ sym c.number.ensures) e.1

pub returns : goal.returns
returns c = let e = c.if-eat.ensures in (e.0, lacks_all Number _ e.1)
