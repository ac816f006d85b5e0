-- How each token is written.
use Rattle.std.specs.Prelude.{◌≡◌, ℕ, ◌+◌, ◌-◌, ◌*◌, ◌≤◌, Bool, true, false, ◌||◌, T, List, [], ◌∷◌, codes}
use Rattle.std.specs.Char.{is_ascii_digit, is_ascii_alphabetic}
use Rattle.grammar.specs.Symbol.{Symbol, LeftSquare, RightSquare, LeftRound, RightRound, Bar, Dot, Star, Underscore, Quote, Arrow, And, Or, Not, Has, True, Additive, Relational, Number, FieldName}
use Rattle.grammar.specs.Texts.{sign_text, relation_text, field_text}

-- the byte of a space
abbrev pub space : ℕ
space = 32

-- a byte that may stand in a word after its first letter
abbrev pub word_part : ℕ → Bool
word_part b = is_ascii_alphabetic b || is_ascii_digit b

abbrev pub All : (ℕ → Bool) → List ℕ → Type 0
All p [] = Unit {0}
All p (b ∷ bs) = T (p b) × All p bs

-- a letter, and letters and digits after it
abbrev pub Word : List ℕ → Type 0
Word [] = ⊥
Word (b ∷ bs) = T (is_ascii_alphabetic b) × All word_part bs

-- one digit or more
abbrev pub Digits : List ℕ → Type 0
Digits [] = ⊥
Digits (b ∷ bs) = T (is_ascii_digit b) × All is_ascii_digit bs

-- the number that decimal digits stand for, after digits that stand for n
abbrev pub valued : ℕ → List ℕ → ℕ
valued n [] = n
valued n (d ∷ ds) = valued (n * 10 + (d - 48)) ds

-- the greatest number that a text may have
abbrev pub greatest : ℕ
greatest = 1000000000

-- the bytes that each symbol is written with; only a number has several spellings, since zeros may lead it
abbrev pub Spells : Symbol → List ℕ → Type 0
Spells LeftSquare w = w ≡ codes "["
Spells RightSquare w = w ≡ codes "]"
Spells LeftRound w = w ≡ codes "("
Spells RightRound w = w ≡ codes ")"
Spells Bar w = w ≡ codes "|"
Spells Dot w = w ≡ codes "."
Spells Star w = w ≡ codes "*"
Spells Underscore w = w ≡ codes "_"
Spells Quote w = w ≡ codes "'"
Spells Arrow w = w ≡ codes "=>"
Spells And w = w ≡ codes "and"
Spells Or w = w ≡ codes "or"
Spells Not w = w ≡ codes "not"
Spells Has w = w ≡ codes "has"
Spells True w = w ≡ codes "true"
Spells (Additive d) w = w ≡ sign_text d
Spells (Relational r) w = w ≡ relation_text r
Spells (Number n) w = Digits w × (valued 0 w ≡ n) × (n ≤ greatest)
Spells (FieldName f) w = w ≡ field_text f

-- marks are the symbols that are neither words nor numbers
abbrev pub mark : Symbol → Bool
mark LeftSquare = true
mark RightSquare = true
mark LeftRound = true
mark RightRound = true
mark Bar = true
mark Dot = true
mark Star = true
mark Underscore = true
mark Quote = true
mark Arrow = true
mark And = false
mark Or = false
mark Not = false
mark Has = false
mark True = false
mark (Additive s) = true
mark (Relational r) = true
mark (Number n) = false
mark (FieldName f) = false
