-- What the engine over a column file shows.
use Rattle.std.proofs.Common.{◌≡◌, ℕ, zero, suc, ◌+◌, ◌-◌, ◌<◌, ◌≤◌, true, List, length, ℤ, pos, negsuc, None, Ok, Result, refl, ap, ◌∙◌, arith}
use Rattle.std.proofs.lemmas.Bool.{lt-ltb, le-leb, le-ltb, and_from, and_left, cond-true, cond-false}
use Rattle.std.proofs.lemmas.Bool.Decides.{nat_tests}
use Rattle.engine.specs.declared.orders.Order.TheVariants.{Open}
use Rattle.engine.specs.declared.answers.Refusal.{Refusal}
use Rattle.engine.specs.Values.{value_of}
use Rattle.engine.specs.Books.{answer, column, shown}
use Rattle.engine.specs.Mechanisms.{landed, answered, mechanism_answers}
use Rattle.columns.specs.File.{word, column_count, row_count, offset, allowed, HeaderOk, Sound}
use Rattle.columns.specs.Rows.{entry, row_values, lead, filing, datum, file_book, opened, IsRow, EachRowShown}

-- columns count from 1 on a page, and from 0 in a file
pub column_at : (ws : List ℤ) (row c : ℕ) → c < 6 → column (row_values ws row) (pos (c + 1)) ≡ Ok (entry ws c (row - 1))
column_at ws row zero h = refl
column_at ws row (suc zero) h = refl
column_at ws row (suc (suc zero)) h = refl
column_at ws row (suc (suc (suc zero))) h = refl
column_at ws row (suc (suc (suc (suc zero)))) h = refl
column_at ws row (suc (suc (suc (suc (suc zero))))) h = refl
column_at ws row (suc (suc (suc (suc (suc (suc c)))))) h = absurd (omega arith)

-- each row of a file can be opened
opens : (ws : List ℤ) → HeaderOk ws → (r : ℕ) → IsRow ws r → lead ws 1 (Open (pos r)) ≡ Ok r
opens ws ok r row = cond-true _ _ _ (and_from _ _ (le-leb 1 r row.from) (le-leb r _ (omega arith)))

-- a word that may stand in a column shows as the value that it stands for
allowed_datum : (z : ℤ) → allowed z ≡ true → value_of z ≡ datum z
allowed_datum (pos n) h = grind (arith, nat_tests)
allowed_datum (negsuc n) h = grind (arith, nat_tests)

pub entry_there : (ws : List ℤ) (c k : ℕ) → c < column_count ws → 2 + c < length ws → offset ws c + k < length ws
    → entry ws c k ≡ value_of (word ws (offset ws c + k))
entry_there ws c k left offset_there value_there =
    cond-true _ _ None (and_from _ _ (lt-ltb _ _ left) (and_from _ _ (lt-ltb _ _ offset_there) (lt-ltb _ _ value_there)))

entry_present : (ws : List ℤ) → Sound ws → (c k : ℕ) → c < column_count ws → k < row_count ws → entry ws c k ≡ datum (word ws (offset ws c + k))
entry_present ws s c k left low =
    entry_there ws c k left (omega (arith, s.header.whole)) (omega (arith, (s.offsets c left).inside))
    ∙ allowed_datum (word ws (offset ws c + k)) (s.values c left k low)

entry_absent : (ws : List ℤ) (c k : ℕ) → column_count ws ≤ c → entry ws c k ≡ None
entry_absent ws c k h = cond-false _ _ _ (and_left _ _ (le-ltb _ _ h))

module _ (ws : List ℤ) (s : Sound ws) (r : ℕ) (row : IsRow ws r) where
  taken : answer (file_book ws) (Open (pos r)) ≡ Ok tt
  taken = mechanism_answers (filing ws) 1 (Open (pos r)) ∙ ap answered (opens ws s.header r row)

  shows : (c : ℕ) → c < 6 → shown (opened ws r) (pos (c + 1)) ≡ Ok (entry ws c (r - 1))
  shows c h =
      ap (λ (to : Result ℕ Refusal). column (row_values ws (landed 1 to)) (pos (c + 1))) (opens ws s.header r row)
      ∙ column_at ws r c h

  present : (c : ℕ) → c < column_count ws → shown (opened ws r) (pos (c + 1)) ≡ Ok (datum (word ws (offset ws c + (r - 1))))
  present c h = shows c (omega (arith, s.header.few_columns)) ∙ rw (entry_present ws s c (r - 1) h (omega arith))

  absent : (c : ℕ) → column_count ws ≤ c → c < 6 → shown (opened ws r) (pos (c + 1)) ≡ Ok None
  absent c above h = shows c h ∙ rw (entry_absent ws c (r - 1) above)

pub each_row_shown : (ws : List ℤ) → Sound ws → EachRowShown ws
each_row_shown ws s = record { taken = taken ws s; lives = λ r row. refl; present = present ws s; absent = absent ws s }
