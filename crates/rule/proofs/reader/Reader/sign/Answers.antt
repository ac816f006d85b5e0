use Rattle.std.proofs.Common.{Some, sym, refl, ap, ◌∙◌}
use Rattle.grammar.specs.declared.Tag.TheVariants as tags
use Rattle.rule.specs.Readers.{symbols_in}
use Rattle.rule.proofs.Peeks.{at_tag}
use Rattle.rule.proofs.reader.Reader.sign.Goals as goal

pub returns : goal.returns
returns c =
    let was = ap Some (sym c.in-Additive.is) ∙ sym c.in_ok-sign.was ∙ c.peek.ensures in
    record { tokens = refl; tree = refl; at = refl; was = (at_tag (symbols_in c.args.self.now) c.args.self.now.at (tags.Additive c.in-Additive.sign) was).1 }
