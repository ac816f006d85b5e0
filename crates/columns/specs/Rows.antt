-- The engine over a column file: its states are the rows, counted from 1.
use Rattle.std.specs.Prelude.{◌≡◌, ℕ, ◌+◌, ◌-◌, ◌<◌, ◌≤◌, min, Bool, true, false, cond, ◌&&◌, List, [], length, ℤ, pos, Some, None, Ok, Result, nat_lt, refl}
use Rattle.engine.specs.declared.Values.{Values}
use Rattle.engine.specs.declared.orders.Order.{Order}
use Rattle.engine.specs.declared.orders.Order.TheVariants.{Open, Turn, Skip}
use Rattle.engine.specs.declared.answers.Refusal.{Refusal}
use Rattle.engine.specs.Values.{Value, value_of, value_in_range, values_in_range}
use Rattle.engine.specs.Books.{Book, Lawful, after, answer, shown, is_live}
use Rattle.engine.specs.Mechanisms.{Mechanism, book_from, opening, up_to, onward, value_ranged, mechanism_lawful}
use Rattle.columns.specs.declared.Columns.{Columns}
use Rattle.columns.specs.File.{word, column_count, row_count, offset, is_missing, Sound}

-- whether the list has such a column, its offset, and the word of that column at that row, both counted from 0
abbrev held : List ℤ → ℕ → ℕ → Bool
held ws c k = nat_lt c (column_count ws) && (nat_lt (2 + c) (length ws) && nat_lt (offset ws c + k) (length ws))

-- what stands in a column at a row: missing where there is no such word, and where the word is no value
abbrev pub entry : List ℤ → ℕ → ℕ → Value
entry ws c k = cond (held ws c k) (value_of (word ws (offset ws c + k))) None

abbrev pub row_values : List ℤ → ℕ → Values
row_values ws row = record {
  c1 = entry ws 0 (row - 1);
  c2 = entry ws 1 (row - 1);
  c3 = entry ws 2 (row - 1);
  c4 = entry ws 3 (row - 1);
  c5 = entry ws 4 (row - 1);
  c6 = entry ws 5 (row - 1);
}

-- The last row. A sound list has at most 20,000 rows, so the cut changes nothing there; it keeps the rows of any other list
-- within 16 bits, so that the engine, which does not know that its list is sound, does exactly this for every list.
abbrev pub last_row : List ℤ → ℕ
last_row ws = min (row_count ws) 20000

abbrev pub lead : List ℤ → ℕ → Order → Result ℕ Refusal
lead ws row (Open a) = opening (last_row ws) a
lead ws row Turn = up_to (last_row ws) (row + 1)
lead ws row (Skip a) = onward (last_row ws) row a

abbrev pub filing : List ℤ → Mechanism ℕ
filing ws = record { shows = row_values ws; leads = lead ws }

abbrev pub columns_book : Columns → Book
columns_book e = book_from (filing e.words.now) e.row

-- what a word of a column says, where it is in order
abbrev pub datum : ℤ → Value
datum z = cond (is_missing z) None (Some z)

-- the book of a file from row 1, and after a row has been opened there
abbrev pub file_book : List ℤ → Book
file_book ws = book_from (filing ws) 1

abbrev pub opened : List ℤ → ℕ → Book
opened ws r = after (file_book ws) (Open (pos r))

-- a row, counted from 1
pub record IsRow (ws : List ℤ) (r : ℕ) : Type 0 where
  pub from : 1 ≤ r
  pub to : r ≤ row_count ws

-- Each row can be opened, and then each column shows the word of that row in the file; columns above the count are missing.
pub record EachRowShown (ws : List ℤ) : Type 0 where
  pub taken : (r : ℕ) → IsRow ws r → answer (file_book ws) (Open (pos r)) ≡ Ok tt
  pub lives : (r : ℕ) → IsRow ws r → is_live (opened ws r []) ≡ true
  pub present : (r : ℕ) → IsRow ws r → (c : ℕ) → c < column_count ws → shown (opened ws r) (pos (c + 1)) ≡ Ok (datum (word ws (offset ws c + (r - 1))))
  pub absent : (r : ℕ) → IsRow ws r → (c : ℕ) → column_count ws ≤ c → c < 6 → shown (opened ws r) (pos (c + 1)) ≡ Ok None

-- what is made of a list: an engine over all its words, at row 1 of a sound file, and each row can be seen through it
pub record Made (ws : List ℤ) (e : Columns) : Type 0 where
  pub sound : Sound ws
  pub book : columns_book e ≡ file_book ws
  pub rows_shown : EachRowShown ws
  pub same_words : e.words.now ≡ ws

-- what any list shows is in range, so the book of every engine is lawful
entry_ranged : (ws : List ℤ) (c k : ℕ) → value_in_range (entry ws c k) ≡ true
entry_ranged ws c k = by (held ws c k) where
  by : (h : Bool) → value_in_range (cond h (value_of (word ws (offset ws c + k))) None) ≡ true
  by true = value_ranged (word ws (offset ws c + k))
  by false = refl

row_ranged : (ws : List ℤ) (row : ℕ) → values_in_range (row_values ws row) ≡ true
row_ranged ws row =
    rw (entry_ranged ws 0 (row - 1), entry_ranged ws 1 (row - 1), entry_ranged ws 2 (row - 1), entry_ranged ws 3 (row - 1), entry_ranged ws 4 (row - 1), entry_ranged ws 5 (row - 1))

pub columns_lawful : (e : Columns) → Lawful (columns_book e)
columns_lawful e = mechanism_lawful (filing e.words.now) (row_ranged e.words.now) e.row
