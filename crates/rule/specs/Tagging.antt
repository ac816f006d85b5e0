-- Which token a part of the text is.
use Rattle.std.specs.Prelude.{◌≡◌, ℕ, ◌<◌, ◌≤◌, cond, List, take, drop, Some, None, Ok, Err, Option, Result, nat_le}
use Rattle.std.specs.Char.{is_ascii_digit}
use Rattle.std.specs.List.{prefix_len}
use Rattle.grammar.specs.declared.Refusal.{Refusal}
use Rattle.grammar.specs.declared.Refusal.TheVariants.{NotAToken}
use Rattle.grammar.specs.declared.Field.{Field}
use Rattle.grammar.specs.declared.Tag.{Tag}
use Rattle.grammar.specs.declared.Tag.TheVariants.{Number}
use Rattle.grammar.specs.Symbol.{Symbol, FieldName, tag}
use Rattle.grammar.specs.Spelling.{Word, Spells, valued, greatest}
use Rattle.rule.specs.Scanning.{Piece, word, number, mark}

-- the bytes spell a symbol with this tag
pub record Spelled (w : List ℕ) (k : Tag) : Type 0 where
  pub symbol : Symbol
  pub spells : Spells symbol w
  pub tags : k ≡ tag symbol

-- if these bytes are a word, it spells none
abbrev pub Unknown : List ℕ → Type 0
Unknown w = (s : Symbol) → Spells s w → Word w → ⊥

abbrev pub NamesField : List ℕ → Option Field → Type 0
NamesField w (Some f) = Spells (FieldName f) w
NamesField w None = (f : Field) → Spells (FieldName f) w → ⊥

abbrev pub Keyword : List ℕ → Option Tag → Type 0
Keyword w (Some k) = Spelled w k
Keyword w None = Unknown w

abbrev pub Valued : List ℕ → Option ℕ → Type 0
Valued ds (Some n) = (n ≡ valued 0 ds) × (n ≤ greatest)
Valued ds None = greatest < valued 0 ds

-- the number whose digits stand at a place; 0 if it is too great
abbrev pub digits_at : List ℕ → ℕ → List ℕ
digits_at text place = take (prefix_len is_ascii_digit (drop place text)) (drop place text)

abbrev pub or_zero : ℕ → ℕ
or_zero n = cond (nat_le n greatest) n 0

abbrev pub number_at : List ℕ → ℕ → ℕ
number_at text place = or_zero (valued 0 (digits_at text place))

abbrev pub Tagged : Piece → ℕ → Result Tag Refusal → Type 0
Tagged (word w) place (Ok k) = Spelled w k
Tagged (word w) place (Err e) = (e ≡ NotAToken place) × Unknown w
Tagged (number w) place (Ok k) = (k ≡ Number) × (valued 0 w ≤ greatest)
Tagged (number w) place (Err e) = (e ≡ NotAToken place) × (greatest < valued 0 w)
Tagged (mark m) place (Ok k) = k ≡ m
Tagged (mark m) place (Err e) = ⊥
