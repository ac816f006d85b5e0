-- A list of words has one verdict.
use Rattle.std.proofs.Common.{◌≡◌, ℕ, ◌<◌, List, ℤ, refl, arith}
use Rattle.columns.specs.declared.refusals.FileRefusal.{FileRefusal}
use Rattle.columns.specs.declared.refusals.FileRefusal.TheVariants.{Header, Offset, Value}
use Rattle.columns.specs.File.{row_count, ValueOk, Lowest, BadOffset, BadValue, Sound, Refused, OneVerdict}

lowest_same : (P : ℕ → Type 0) (bound c d : ℕ) → Lowest P bound c → Lowest P bound d → c ≡ d
lowest_same P bound c d p q =
    let left : c < d → ⊥ = λ h. p.fails (q.lower c h) in
    let right : d < c → ⊥ = λ h. q.fails (p.lower d h) in
    omega arith

offset_same : (ws : List ℤ) (m n : ℕ) → BadOffset ws m → BadOffset ws n → m ≡ n
offset_same ws m n p q =
    let column = lowest_same _ _ _ _ p.lowest_column q.lowest_column in
    cc

value_same : (ws : List ℤ) (m n : ℕ) → BadValue ws m → BadValue ws n → m ≡ n
value_same ws m n p q =
    let column = lowest_same _ _ _ _ p.lowest_column q.lowest_column in
    let there : Lowest (ValueOk ws q.column) (row_count ws) p.row = rw column at p.lowest_row in
    let row = lowest_same _ _ _ _ there q.lowest_row in
    cc

apart : (ws : List ℤ) (e : FileRefusal) → Sound ws → Refused ws e → ⊥
apart ws Header s r = r s.header
apart ws (Offset m) s r = r.1.lowest_column.fails (s.offsets _ r.1.lowest_column.below)
apart ws (Value m) s r = r.2.lowest_column.fails (s.values _ r.2.lowest_column.below)

single : (ws : List ℤ) (e f : FileRefusal) → Refused ws e → Refused ws f → e ≡ f
single ws Header Header r s = refl
single ws Header (Offset n) r s = absurd (r s.0)
single ws Header (Value n) r s = absurd (r s.0)
single ws (Offset m) Header r s = absurd (s r.0)
single ws (Offset m) (Offset n) r s = rw (offset_same ws m n r.1 s.1)
single ws (Offset m) (Value n) r s = absurd (r.1.lowest_column.fails (s.1 _ r.1.lowest_column.below))
single ws (Value m) Header r s = absurd (s r.0)
single ws (Value m) (Offset n) r s = absurd (s.1.lowest_column.fails (r.1 _ s.1.lowest_column.below))
single ws (Value m) (Value n) r s = rw (value_same ws m n r.2 s.2)

pub one_verdict : (ws : List ℤ) → OneVerdict ws
one_verdict ws = record { apart = apart ws; single = single ws }
