-- The tokens that a table holds.
use Rattle.std.specs.Prelude.{◌≡◌, ℕ, List, length, take, slice_index_or}
use Rattle.grammar.specs.declared.Refusal.{Refusal}
use Rattle.grammar.specs.declared.Refusal.TheVariants.{NotAToken}
use Rattle.grammar.specs.Symbol.{Symbol}
use Rattle.grammar.specs.Cutting.{Placed, symbols, places, Cut, Uncut}
use Rattle.rule.specs.declared.spot.Spot.{Spot}
use Rattle.rule.specs.declared.tokens.Tokens.{Tokens}
use Rattle.rule.specs.Tagging.{number_at}
use Rattle.rule.specs.Spots.{symbols_at, places_at}

abbrev pub spots_of : Tokens → List Spot
spots_of t = t.spots.items

abbrev pub symbols_of : Tokens → List Symbol
symbols_of t = symbols_at t.text.now (spots_of t)

abbrev pub places_of : Tokens → List ℕ
places_of t = places_at (spots_of t)

-- the place of the token k, or the end of the text
abbrev pub place_in : Tokens → ℕ → ℕ
place_in t k = slice_index_or (places_of t) k (length t.text.now)

abbrev pub number_in : Tokens → ℕ → ℕ
number_in t k = number_at t.text.now (place_in t k)

-- the table has the text's tokens, as many as there is room for
pub record Stores (text : List ℕ) (t : Tokens) : Type 0 where
  pub all : List Placed
  pub cut : Cut 0 text all
  pub own : t.text.now ≡ text
  pub symbols : symbols_of t ≡ take 501 (symbols all)
  pub places : places_of t ≡ take 501 (places all)

-- the text has bytes that are no token
pub record Stops (text : List ℕ) (e : Refusal) : Type 0 where
  pub place : ℕ
  pub uncut : Uncut 0 text place
  pub is : e ≡ NotAToken place

-- the refusal e has its cause at a token, and that token's place
pub record Caused (cause : ℕ → Refusal) (t : Tokens) (At : ℕ → Type 0) (e : Refusal) : Type 0 where
  pub index : ℕ
  pub holds : At index
  pub is : e ≡ cause (place_in t index)
