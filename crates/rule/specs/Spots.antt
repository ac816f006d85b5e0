-- Stored tokens, and the symbols that they are in their text.
use Rattle.std.specs.Prelude.{ℕ, List, [], ◌∷◌, map, Some, None, Option}
use Rattle.grammar.specs.declared.Tag.{Tag}
use Rattle.grammar.specs.declared.Tag.TheVariants as tags
use Rattle.grammar.specs.Symbol.{Symbol, LeftSquare, RightSquare, LeftRound, RightRound, Bar, Dot, Star, Underscore, Quote, Arrow, And, Or, Not, Has, True, Additive, Relational, Number, FieldName, tag}
use Rattle.rule.specs.declared.spot.Spot.{Spot}
use Rattle.rule.specs.Tagging.{number_at}

abbrev pub spot : Tag → ℕ → Spot
spot k p = record { tag = k; place = p }

-- the symbol with a tag, if a number then n
abbrev pub symbol : Tag → ℕ → Symbol
symbol tags.LeftSquare n = LeftSquare
symbol tags.RightSquare n = RightSquare
symbol tags.LeftRound n = LeftRound
symbol tags.RightRound n = RightRound
symbol tags.Bar n = Bar
symbol tags.Dot n = Dot
symbol tags.Star n = Star
symbol tags.Underscore n = Underscore
symbol tags.Quote n = Quote
symbol tags.Arrow n = Arrow
symbol tags.And n = And
symbol tags.Or n = Or
symbol tags.Not n = Not
symbol tags.Has n = Has
symbol tags.True n = True
symbol (tags.Additive s) n = Additive s
symbol (tags.Relational r) n = Relational r
symbol tags.Number n = Number n
symbol (tags.FieldName f) n = FieldName f

abbrev pub symbol_at : List ℕ → Spot → Symbol
symbol_at text s = symbol s.tag (number_at text s.place)

abbrev pub symbols_at : List ℕ → List Spot → List Symbol
symbols_at text ss = map (symbol_at text) ss

abbrev pub places_at : List Spot → List ℕ
places_at ss = map (λ s. s.place) ss

-- the tag of the first symbol, if there is one
abbrev pub next_tag : List Symbol → Option Tag
next_tag [] = None
next_tag (s ∷ ss) = Some (tag s)
