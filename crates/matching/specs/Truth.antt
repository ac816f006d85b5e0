-- When a claim is true of a row. A plain name reads that row, and a name with `'` the newest row.
use Rattle.std.specs.Prelude.{Bool, true, false, not, ◌&&◌, ◌||◌, ℤ, pos, ◌+ℤ◌, neg_ℤ, Some, None, Option, int_le, int_lt}
use Rattle.engine.specs.declared.Row.{Row}
use Rattle.engine.specs.Values.{op_number}
use Rattle.grammar.specs.declared.Field.{Field}
use Rattle.grammar.specs.declared.Field.TheVariants.{Op, Arg, C1, C2, C3, C4, C5, C6}
use Rattle.grammar.specs.declared.Name.{Name}
use Rattle.grammar.specs.declared.Name.TheVariants.{Plain, Newest}
use Rattle.grammar.specs.declared.Relation.{Relation}
use Rattle.grammar.specs.declared.Relation.TheVariants.{Equal, NotEqual, Less, LessOrEqual, Greater, GreaterOrEqual}
use Rattle.grammar.specs.declared.Sign.{Sign}
use Rattle.grammar.specs.declared.Sign.TheVariants.{Plus, Minus}
use Rattle.grammar.specs.declared.Term.{Term}
use Rattle.grammar.specs.declared.Term.TheVariants.{Constant, Named}
use Rattle.grammar.specs.Tree.{Sum, first, more, Claim, implication, disjunction, conjunction, negation, truth, presence, comparison}

abbrev pub field_of : Row → Field → Option ℤ
field_of r Op = Some (pos (op_number r.op))
field_of r Arg = r.arg
field_of r C1 = r.values.c1
field_of r C2 = r.values.c2
field_of r C3 = r.values.c3
field_of r C4 = r.values.c4
field_of r C5 = r.values.c5
field_of r C6 = r.values.c6

abbrev pub signed : Sign → ℤ → ℤ
signed Plus z = z
signed Minus z = neg_ℤ z

-- missing if either is
abbrev pub added : Option ℤ → Option ℤ → Option ℤ
added None b = None
added (Some x) None = None
added (Some x) (Some y) = Some (x +ℤ y)

abbrev pub signed_by : Sign → Option ℤ → Option ℤ
signed_by s None = None
signed_by s (Some z) = Some (signed s z)

abbrev pub has_value : Option ℤ → Bool
has_value None = false
has_value (Some z) = true

abbrev pub related : Relation → ℤ → ℤ → Bool
related Equal x y = int_le x y && int_le y x
related NotEqual x y = int_lt x y || int_lt y x
related Less x y = int_lt x y
related LessOrEqual x y = int_le x y
related Greater x y = int_lt y x
related GreaterOrEqual x y = int_le y x

-- false if either side is missing
abbrev pub compared : Relation → Option ℤ → Option ℤ → Bool
compared r None b = false
compared r (Some x) None = false
compared r (Some x) (Some y) = related r x y

module _ (newest row : Row) where
  abbrev pub name_value : Name → Option ℤ
  name_value (Plain f) = field_of row f
  name_value (Newest f) = field_of newest f

  abbrev pub term_value : Term → Option ℤ
  term_value (Constant n) = Some (pos n)
  term_value (Named x) = name_value x

  abbrev pub sum_value : Sum → Option ℤ
  sum_value (first s t) = signed_by s (term_value t)
  sum_value (more x s t) = added (sum_value x) (signed_by s (term_value t))

  abbrev pub claim_true : Claim → Bool
  claim_true (implication x y) = not (claim_true x) || claim_true y
  claim_true (disjunction x y) = claim_true x || claim_true y
  claim_true (conjunction x y) = claim_true x && claim_true y
  claim_true (negation x) = not (claim_true x)
  claim_true truth = true
  claim_true (presence x) = has_value (name_value x)
  claim_true (comparison r x y) = compared r (sum_value x) (sum_value y)
