-- What a symbol is to each kind of place in a rule: one of those that can stand there, or another. With these views the machine
-- and its proofs have a case for each symbol that matters, and one for all others.
use Rattle.std.specs.Prelude.{ℕ}
use Rattle.grammar.specs.Symbol.{Sign, Relation, Symbol, LeftSquare, RightSquare, LeftRound, RightRound, Bar, Dot, Star, Underscore, Quote, Arrow, And, Or, Not, Has, True, Additive, Relational, Number, FieldName, Field}

pub data AtBase : Symbol → Type 0 where
  base_Underscore : AtBase Underscore
  base_LeftRound : AtBase LeftRound
  base_LeftSquare : AtBase LeftSquare
  base_other : (t : Symbol) → AtBase t

abbrev pub at_base : (t : Symbol) → AtBase t
at_base LeftSquare = base_LeftSquare
at_base RightSquare = base_other RightSquare
at_base LeftRound = base_LeftRound
at_base RightRound = base_other RightRound
at_base Bar = base_other Bar
at_base Dot = base_other Dot
at_base Star = base_other Star
at_base Underscore = base_Underscore
at_base Quote = base_other Quote
at_base Arrow = base_other Arrow
at_base And = base_other And
at_base Or = base_other Or
at_base Not = base_other Not
at_base Has = base_other Has
at_base True = base_other True
at_base (Additive x) = base_other (Additive x)
at_base (Relational x) = base_other (Relational x)
at_base (Number x) = base_other (Number x)
at_base (FieldName x) = base_other (FieldName x)

pub data AfterPiece : Symbol → Type 0 where
  piece_Star : AfterPiece Star
  piece_Dot : AfterPiece Dot
  piece_Bar : AfterPiece Bar
  piece_RightRound : AfterPiece RightRound
  piece_other : (t : Symbol) → AfterPiece t

abbrev pub after_piece : (t : Symbol) → AfterPiece t
after_piece LeftSquare = piece_other LeftSquare
after_piece RightSquare = piece_other RightSquare
after_piece LeftRound = piece_other LeftRound
after_piece RightRound = piece_RightRound
after_piece Bar = piece_Bar
after_piece Dot = piece_Dot
after_piece Star = piece_Star
after_piece Underscore = piece_other Underscore
after_piece Quote = piece_other Quote
after_piece Arrow = piece_other Arrow
after_piece And = piece_other And
after_piece Or = piece_other Or
after_piece Not = piece_other Not
after_piece Has = piece_other Has
after_piece True = piece_other True
after_piece (Additive x) = piece_other (Additive x)
after_piece (Relational x) = piece_other (Relational x)
after_piece (Number x) = piece_other (Number x)
after_piece (FieldName x) = piece_other (FieldName x)

pub data AtSingle : Symbol → Type 0 where
  single_Not : AtSingle Not
  single_LeftRound : AtSingle LeftRound
  single_True : AtSingle True
  single_Has : AtSingle Has
  single_Additive : (x : Sign) → AtSingle (Additive x)
  single_Number : (x : ℕ) → AtSingle (Number x)
  single_FieldName : (x : Field) → AtSingle (FieldName x)
  single_other : (t : Symbol) → AtSingle t

abbrev pub at_single : (t : Symbol) → AtSingle t
at_single LeftSquare = single_other LeftSquare
at_single RightSquare = single_other RightSquare
at_single LeftRound = single_LeftRound
at_single RightRound = single_other RightRound
at_single Bar = single_other Bar
at_single Dot = single_other Dot
at_single Star = single_other Star
at_single Underscore = single_other Underscore
at_single Quote = single_other Quote
at_single Arrow = single_other Arrow
at_single And = single_other And
at_single Or = single_other Or
at_single Not = single_Not
at_single Has = single_Has
at_single True = single_True
at_single (Additive x) = single_Additive x
at_single (Relational x) = single_other (Relational x)
at_single (Number x) = single_Number x
at_single (FieldName x) = single_FieldName x

pub data AfterSingle : Symbol → Type 0 where
  after_Quote : AfterSingle Quote
  after_Additive : (x : Sign) → AfterSingle (Additive x)
  after_Relational : (x : Relation) → AfterSingle (Relational x)
  after_And : AfterSingle And
  after_Or : AfterSingle Or
  after_Arrow : AfterSingle Arrow
  after_RightRound : AfterSingle RightRound
  after_RightSquare : AfterSingle RightSquare
  after_other : (t : Symbol) → AfterSingle t

abbrev pub after_single : (t : Symbol) → AfterSingle t
after_single LeftSquare = after_other LeftSquare
after_single RightSquare = after_RightSquare
after_single LeftRound = after_other LeftRound
after_single RightRound = after_RightRound
after_single Bar = after_other Bar
after_single Dot = after_other Dot
after_single Star = after_other Star
after_single Underscore = after_other Underscore
after_single Quote = after_Quote
after_single Arrow = after_Arrow
after_single And = after_And
after_single Or = after_Or
after_single Not = after_other Not
after_single Has = after_other Has
after_single True = after_other True
after_single (Additive x) = after_Additive x
after_single (Relational x) = after_Relational x
after_single (Number x) = after_other (Number x)
after_single (FieldName x) = after_other (FieldName x)
