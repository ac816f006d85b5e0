-- A column file, which is a list of signed words. Word 0 is the number of columns and word 1 the number of rows; then comes one
-- offset for each column, the place of its first word. A place is the number of words before it. Columns may overlap.
use Rattle.std.specs.Prelude.{◌≡◌, ℕ, ◌+◌, ◌<◌, ◌≤◌, Bool, true, false, ◌||◌, List, length, ℤ, pos, negsuc, ◌==◌, slice_index_or}
use Rattle.engine.specs.Values.{in_range}
use Rattle.columns.specs.declared.refusals.FileRefusal.{FileRefusal}
use Rattle.columns.specs.declared.refusals.FileRefusal.TheVariants.{Header, Offset, Value}

-- A word as a count or a place. A negative word is taken as 0, which is out of range for both counts and for every offset.
abbrev pub natural : ℤ → ℕ
natural (pos n) = n
natural (negsuc n) = 0

-- the word at a place, 0 past the end
abbrev pub word : List ℤ → ℕ → ℤ
word ws place = slice_index_or ws place (pos 0)

abbrev pub column_count : List ℤ → ℕ
column_count ws = natural (word ws 0)

abbrev pub row_count : List ℤ → ℕ
row_count ws = natural (word ws 1)

-- columns and rows are counted from 0 in this file: c is a column, k a row
abbrev pub offset : List ℤ → ℕ → ℕ
offset ws c = natural (word ws (2 + c))

-- the word -2,147,483,648 says that a value is missing; any other word of a column is a value
abbrev pub is_missing : ℤ → Bool
is_missing (pos n) = false
is_missing (negsuc n) = n == 2147483647

abbrev pub allowed : ℤ → Bool
allowed z = is_missing z || in_range z

pub record HeaderOk (ws : List ℤ) : Type 0 where
  pub some_column : 1 ≤ column_count ws
  pub few_columns : column_count ws ≤ 6
  pub some_row : 1 ≤ row_count ws
  pub few_rows : row_count ws ≤ 20000
  pub whole : 2 + column_count ws ≤ length ws

-- a column begins after the header, and all its rows lie inside the list
pub record OffsetOk (ws : List ℤ) (c : ℕ) : Type 0 where
  pub past_header : 2 + column_count ws ≤ offset ws c
  pub inside : offset ws c + row_count ws ≤ length ws

abbrev pub ValueOk : List ℤ → ℕ → ℕ → Type 0
ValueOk ws c k = allowed (word ws (offset ws c + k)) ≡ true

-- P holds of each number below a bound
abbrev pub Each : (ℕ → Type 0) → ℕ → Type 0
Each P bound = (n : ℕ) → n < bound → P n

-- the lowest number below a bound of which P does not hold
pub record Lowest (P : ℕ → Type 0) (bound n : ℕ) : Type 0 where
  pub below : n < bound
  pub fails : P n → ⊥
  pub lower : Each P n

abbrev pub OffsetsOk : List ℤ → Type 0
OffsetsOk ws = Each (OffsetOk ws) (column_count ws)

abbrev pub ColumnOk : List ℤ → ℕ → Type 0
ColumnOk ws c = Each (ValueOk ws c) (row_count ws)

abbrev pub ColumnsOk : List ℤ → Type 0
ColumnsOk ws = Each (ColumnOk ws) (column_count ws)

pub record Sound (ws : List ℤ) : Type 0 where
  pub header : HeaderOk ws
  pub offsets : OffsetsOk ws
  pub values : ColumnsOk ws

-- the place of the bad offset of the lowest column that has one
pub record BadOffset (ws : List ℤ) (place : ℕ) : Type 0 where
  pub column : ℕ
  pub lowest_column : Lowest (OffsetOk ws) (column_count ws) column
  pub there : place ≡ 2 + column

-- the place of the bad value in the lowest column that has one, and there in the lowest row
pub record BadValue (ws : List ℤ) (place : ℕ) : Type 0 where
  pub column : ℕ
  pub row : ℕ
  pub lowest_column : Lowest (ColumnOk ws) (column_count ws) column
  pub lowest_row : Lowest (ValueOk ws column) (row_count ws) row
  pub there : place ≡ offset ws column + row

-- why a list is refused: the header is tried first, then every offset, then every value
abbrev pub Refused : List ℤ → FileRefusal → Type 0
Refused ws Header = HeaderOk ws → ⊥
Refused ws (Offset place) = HeaderOk ws × BadOffset ws place
Refused ws (Value place) = HeaderOk ws × OffsetsOk ws × BadValue ws place

-- no list is both sound and refused, and none is refused in two ways
pub record OneVerdict (ws : List ℤ) : Type 0 where
  pub apart : (e : FileRefusal) → Sound ws → Refused ws e → ⊥
  pub single : (e f : FileRefusal) → Refused ws e → Refused ws f → e ≡ f
