-- The offsets of a header, as words and by their columns.
use Rattle.std.proofs.Common.{◌≡◌, ℕ, ◌+◌, ◌<◌, List, ℤ, pos, ◌∙◌, slice_index_or, refl}
use Rattle.std.proofs.lemmas.List.{get_or-take, get_or-drop}
use Rattle.columns.specs.declared.refusals.FileRefusal.{FileRefusal}
use Rattle.columns.specs.File.{word, column_count, HeaderOk, OffsetOk, OffsetsOk, ValueOk, ColumnOk, Each, Lowest, BadValue, natural, row_count, Refused}
use Rattle.columns.specs.Headers.{offset_words, OffsetFits, RowOk, BadRow}

pub offset_at : (ws : List ℤ) (c : ℕ) → c < column_count ws → slice_index_or (offset_words ws) c (pos 0) ≡ word ws (2 + c)
offset_at ws c h = get_or-take _ _ c _ h ∙ get_or-drop 2 ws c (pos 0)

module _ (ws : List ℤ) (c : ℕ) (z : ℤ) (e : z ≡ word ws (2 + c)) where
  pub fits_at : OffsetOk ws c → OffsetFits ws z
  fits_at ok = rw e (record { past_header = ok.past_header; inside = ok.inside })

  pub column_ok : Each (RowOk ws z) (row_count ws) → ColumnOk ws c
  column_ok rows = rw e at rows

  pub bad_at : c < column_count ws → HeaderOk ws → OffsetsOk ws → Each (ColumnOk ws) c → (why : FileRefusal) → BadRow ws z why → Refused ws why
  bad_at below header offsets before why bad =
      let lowest_column : Lowest (ColumnOk ws) (column_count ws) c =
      record { below = below; fails = λ rows. bad.lowest.fails (rw e (rows bad.row bad.lowest.below)); lower = before } in
      let lowest_row : Lowest (ValueOk ws c) (row_count ws) bad.row = rw e at bad.lowest in
      let found : BadValue ws (natural z + bad.row) =
      record { column = c; row = bad.row; lowest_column = lowest_column; lowest_row = lowest_row; there = rw e refl } in
      rw bad.is (header, offsets, found)
