-- How the parts of a tree are written.
use Rattle.std.specs.Prelude.{ℕ, List, ◌++◌, codes, decimal}
use Rattle.grammar.specs.Symbol.{Sign, Plus, Minus, Relation, Equal, NotEqual, Less, LessOrEqual, Greater, GreaterOrEqual, Field, Op, Arg, C1, C2, C3, C4, C5, C6, Name, Plain, Newest, Term, Constant, Named}

abbrev pub sign_text : Sign → List ℕ
sign_text Plus = codes "+"
sign_text Minus = codes "-"

abbrev pub relation_text : Relation → List ℕ
relation_text Equal = codes "="
relation_text NotEqual = codes "<>"
relation_text Less = codes "<"
relation_text LessOrEqual = codes "<="
relation_text Greater = codes ">"
relation_text GreaterOrEqual = codes ">="

abbrev pub field_text : Field → List ℕ
field_text Op = codes "op"
field_text Arg = codes "arg"
field_text C1 = codes "c1"
field_text C2 = codes "c2"
field_text C3 = codes "c3"
field_text C4 = codes "c4"
field_text C5 = codes "c5"
field_text C6 = codes "c6"

abbrev pub name_text : Name → List ℕ
name_text (Plain x) = field_text x
name_text (Newest x) = field_text x ++ codes "'"

abbrev pub term_text : Term → List ℕ
term_text (Constant n) = decimal n
term_text (Named l) = name_text l
