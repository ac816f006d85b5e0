-- Bytes and the marks in them.
use Rattle.std.specs.Prelude.{◌≡◌, ℕ, ◌<◌, List, [], ◌∷◌, ◌++◌, length, ◌≢◌, slice_index}

abbrev pub Lacks : ℕ → List ℕ → Type 0
Lacks mark bytes = (k : ℕ) → k < length bytes → slice_index bytes k ≢ mark

-- a line and what follows it: the line is ended by byte 10, or by the end of the bytes if some are left
pub data Ended (bytes line rest : List ℕ) : Type 0 where
  by_mark : bytes ≡ line ++ (10 ∷ rest) → Ended bytes line rest
  by_end : 0 < length bytes → bytes ≡ line → rest ≡ [] → Ended bytes line rest
