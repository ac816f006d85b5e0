-- The terminal symbols of the grammar: tokens without their places, a number with its value.
use Rattle.std.specs.Prelude.{ℕ}
use Rattle.grammar.specs.declared.Tag.{Tag}
use Rattle.grammar.specs.declared.Tag.TheVariants as tags
pub use Rattle.grammar.specs.declared.Sign.{Sign}
pub use Rattle.grammar.specs.declared.Sign.TheVariants.{Plus, Minus}
pub use Rattle.grammar.specs.declared.Relation.{Relation}
pub use Rattle.grammar.specs.declared.Relation.TheVariants.{Equal, NotEqual, Less, LessOrEqual, Greater, GreaterOrEqual}
pub use Rattle.grammar.specs.declared.Field.{Field}
pub use Rattle.grammar.specs.declared.Field.TheVariants.{Op, Arg, C1, C2, C3, C4, C5, C6}
pub use Rattle.grammar.specs.declared.Name.{Name}
pub use Rattle.grammar.specs.declared.Name.TheVariants.{Plain, Newest}
pub use Rattle.grammar.specs.declared.Term.{Term}
pub use Rattle.grammar.specs.declared.Term.TheVariants.{Constant, Named}

pub data Symbol : Type 0 where
  LeftSquare : Symbol
  RightSquare : Symbol
  LeftRound : Symbol
  RightRound : Symbol
  Bar : Symbol
  Dot : Symbol
  Star : Symbol
  Underscore : Symbol
  Quote : Symbol
  Arrow : Symbol
  And : Symbol
  Or : Symbol
  Not : Symbol
  Has : Symbol
  True : Symbol
  Additive : Sign → Symbol
  Relational : Relation → Symbol
  Number : ℕ → Symbol
  FieldName : Field → Symbol

-- the code's tag of a symbol
abbrev pub tag : Symbol → Tag
tag LeftSquare = tags.LeftSquare
tag RightSquare = tags.RightSquare
tag LeftRound = tags.LeftRound
tag RightRound = tags.RightRound
tag Bar = tags.Bar
tag Dot = tags.Dot
tag Star = tags.Star
tag Underscore = tags.Underscore
tag Quote = tags.Quote
tag Arrow = tags.Arrow
tag And = tags.And
tag Or = tags.Or
tag Not = tags.Not
tag Has = tags.Has
tag True = tags.True
tag (Additive s) = tags.Additive s
tag (Relational r) = tags.Relational r
tag (Number n) = tags.Number
tag (FieldName f) = tags.FieldName f
