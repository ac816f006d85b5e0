use Rattle.std.proofs.Common.{Some, sym, refl, ap, ◌∙◌}
use Rattle.grammar.specs.declared.Tag.TheVariants as tags
use Rattle.rule.specs.Readers.{symbols_in}
use Rattle.rule.proofs.Peeks.{at_tag}
use Rattle.rule.proofs.reader.Reader.field.Goals as goal

pub returns : goal.returns
returns c =
    let was = ap Some (sym c.in-FieldName.is) ∙ sym c.in_ok-field.was ∙ c.peek.ensures in
    record { tokens = refl; tree = refl; at = refl; was = (at_tag (symbols_in c.args.self.now) c.args.self.now.at (tags.FieldName c.in-FieldName.field) was).1 }
