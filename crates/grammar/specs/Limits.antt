-- The limits on the tokens of a rule text.
use Rattle.std.specs.Prelude.{◌≡◌, ℕ, ◌+◌, ◌<◌, List, [], ◌∷◌, take, drop}
use Rattle.grammar.specs.Symbol.{Symbol, LeftSquare, LeftRound}
use Rattle.grammar.specs.Views.{AtBase, base_Underscore, base_LeftRound, base_LeftSquare, base_other, at_base, AfterPiece, piece_Star, piece_Dot, piece_Bar, piece_RightRound, piece_other, after_piece}

abbrev pub text_limit : ℕ
text_limit = 4096

abbrev pub token_limit : ℕ
token_limit = 500

abbrev pub depth_limit : ℕ
depth_limit = 16

abbrev pub claim_limit : ℕ
claim_limit = 60

-- 1 for `(`, 0 for any other
abbrev pub opening_at : {t : Symbol} → AtBase t → ℕ
opening_at base_Underscore = 0
opening_at base_LeftRound = 1
opening_at base_LeftSquare = 0
opening_at (base_other t) = 0

-- 1 for `[`, 0 for any other
abbrev pub claiming_at : {t : Symbol} → AtBase t → ℕ
claiming_at base_Underscore = 0
claiming_at base_LeftRound = 0
claiming_at base_LeftSquare = 1
claiming_at (base_other t) = 0

-- 1 for `)`, 0 for any other
abbrev pub closing_at : {t : Symbol} → AfterPiece t → ℕ
closing_at piece_Star = 0
closing_at piece_Dot = 0
closing_at piece_Bar = 0
closing_at piece_RightRound = 1
closing_at (piece_other t) = 0

abbrev pub opening : Symbol → ℕ
opening t = opening_at (at_base t)

abbrev pub claiming : Symbol → ℕ
claiming t = claiming_at (at_base t)

abbrev pub closing : Symbol → ℕ
closing t = closing_at (after_piece t)

-- the sum of f over the symbols: with the functions above, how many such symbols there are
abbrev pub count : (Symbol → ℕ) → List Symbol → ℕ
count f [] = 0
count f (t ∷ ts) = f t + count f ts

-- the symbol k is s
abbrev pub Stands : List Symbol → ℕ → Symbol → Type 0
Stands ts k s = drop k ts ≡ s ∷ drop (k + 1) ts

-- the symbol k is a `(`, and with it `(` less `)` so far exceeds 16
pub record Deep (ts : List Symbol) (k : ℕ) : Type 0 where
  pub stands : Stands ts k LeftRound
  pub over : count closing (take (k + 1) ts) + depth_limit < count opening (take (k + 1) ts)

-- the first `(` that is too deep
pub record FirstDeep (ts : List Symbol) (k : ℕ) : Type 0 where
  pub deep : Deep ts k
  pub first : (j : ℕ) → j < k → Deep ts j → ⊥

-- no `(` is too deep
abbrev pub Shallow : List Symbol → Type 0
Shallow ts = (k : ℕ) → Deep ts k → ⊥

-- the symbol k is a `[`, and 60 of them stand before it
pub record Crowding (ts : List Symbol) (k : ℕ) : Type 0 where
  pub stands : Stands ts k LeftSquare
  pub before : count claiming (take k ts) ≡ claim_limit
