use Rattle.std.proofs.Common.{sym, refl, ◌∙◌}
use Rattle.rule.specs.Readers.{symbols_in}
use Rattle.rule.proofs.Tags.{is_some, is_other}
use Rattle.rule.proofs.Peeks.{at_tag, not_tag}
use Rattle.rule.proofs.reader.Reader.eat.Goals as goal

pub returns-then-eq : goal.returns-then-eq
returns-then-eq c =
    let n = at_tag (symbols_in c.args.self.now) c.args.self.now.at c.args.tag (sym (is_some _ _ c.if-eq.ensures) ∙ c.peek.ensures) in
    (n.0, record { tokens = refl; tree = refl; at = refl; was = n.1 })

pub returns : goal.returns
returns c = (refl, not_tag _ c.args.tag (λ e. is_other _ _ c.if-eq.ensures (c.peek.ensures ∙ e)))
