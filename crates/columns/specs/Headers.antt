-- The header of a list of words, taken apart.
use Rattle.std.specs.Prelude.{◌≡◌, ℕ, ◌+◌, ◌≤◌, true, List, ℤ, length, take, drop}
use Rattle.columns.specs.declared.refusals.FileRefusal.{FileRefusal}
use Rattle.columns.specs.declared.refusals.FileRefusal.TheVariants.{Value}
use Rattle.columns.specs.File.{natural, word, column_count, row_count, allowed, Lowest}

-- the words of the offsets, one for each column
abbrev pub offset_words : List ℤ → List ℤ
offset_words ws = take (column_count ws) (drop 2 ws)

-- a column with this word for its offset begins after the header, and all its rows lie inside the list
pub record OffsetFits (ws : List ℤ) (z : ℤ) : Type 0 where
  pub past_header : 2 + column_count ws ≤ natural z
  pub inside : natural z + row_count ws ≤ length ws

-- a column with this word for its offset may have the word that it has at row k
abbrev pub RowOk : List ℤ → ℤ → ℕ → Type 0
RowOk ws z k = allowed (word ws (natural z + k)) ≡ true

-- the refusal of the lowest row with a bad value in such a column
pub record BadRow (ws : List ℤ) (z : ℤ) (e : FileRefusal) : Type 0 where
  pub row : ℕ
  pub lowest : Lowest (RowOk ws z) (row_count ws) row
  pub is : e ≡ Value (natural z + row)
