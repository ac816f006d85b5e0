use Rattle.std.proofs.Common.{◌≡◌, List, ℕ, Some, None, Option, refl, arith, rules}
use Rattle.std.proofs.lemmas.Grind.{common_steps}
use Rattle.std.specs.Prelude.{codes, option_map}
use Rattle.grammar.specs.declared.Field.{Field}
use Rattle.grammar.specs.declared.Tag.TheVariants as tags
use Rattle.grammar.specs.Symbol.{And, Or, Not, Has, True, FieldName}
use Rattle.rule.specs.Tagging.{NamesField, Keyword}
use Rattle.rule.proofs.spelling.keyword.Goals as goal

-- the word is none of the reserved ones
record Unreserved (w : List ℕ) : Type 0 where
  and : w ≡ codes "and" → ⊥
  or : w ≡ codes "or" → ⊥
  not : w ≡ codes "not" → ⊥
  has : w ≡ codes "has" → ⊥
  true : w ≡ codes "true" → ⊥

by_field : (w : List ℕ) → Unreserved w → (o : Option Field) → NamesField w o → Keyword w (option_map tags.FieldName o)
by_field w n (Some f) h = record { symbol = FieldName f; spells = h; tags = refl }
by_field w n None h = λ s p q. grind (arith, common_steps, n.and, n.or, n.not, n.has, n.true, h)

pub returns-in-and : goal.returns-in-and
returns-in-and c = record { symbol = And; spells = grind (arith, common_steps); tags = refl }

pub returns-in-or : goal.returns-in-or
returns-in-or c = record { symbol = Or; spells = grind (arith, common_steps); tags = refl }

pub returns-in-not : goal.returns-in-not
returns-in-not c = record { symbol = Not; spells = grind (arith, common_steps); tags = refl }

pub returns-in-has : goal.returns-in-has
returns-in-has c = record { symbol = Has; spells = grind (arith, common_steps); tags = refl }

pub returns-in-true : goal.returns-in-true
returns-in-true c = record { symbol = True; spells = grind (arith, common_steps); tags = refl }

pub returns-in_default : goal.returns-in_default
returns-in_default c =
    let is : c.map.result ≡ option_map tags.FieldName c.field.result = search rules in
    rw is (by_field c.args.word.now (record {
      and = search rules;
      or = search rules;
      not = search rules;
      has = search rules;
      true = search rules;
    }) c.field.result c.field.ensures)
