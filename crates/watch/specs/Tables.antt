-- The rows that a watch keeps.
use Rattle.std.specs.Prelude.{ℕ, List, reverse}
use Rattle.arrayvec.specs.ArrayVec.{ArrayVec, array_vec_len}
use Rattle.engine.specs.declared.Row.{Row}

-- the rows as they are kept, the oldest first
abbrev pub Table : Type 0
Table = ArrayVec Row

-- how many rows there have been
abbrev pub count_of : Table → ℕ
count_of t = array_vec_len t

-- the rows, newest first
abbrev pub rows_of : Table → List Row
rows_of t = reverse t.items
