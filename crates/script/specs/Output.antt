-- Text that is written into lent memory.
use Rattle.std.specs.Prelude.{◌≡◌, ℕ, zero, suc, ◌+◌, min, max, List, [], ◌∷◌, length}
use Rattle.script.specs.declared.output.Output.{Output}

-- memory after a text was written over its beginning, as far as the memory reaches
abbrev pub overlay : List ℕ → List ℕ → List ℕ
overlay bs [] = bs
overlay [] (t ∷ ts) = []
overlay (b ∷ bs) (t ∷ ts) = t ∷ overlay bs ts

-- the same from a place on
abbrev pub written : List ℕ → ℕ → List ℕ → List ℕ
written bs zero text = overlay bs text
written [] (suc at) text = []
written (b ∷ bs) (suc at) text = b ∷ written bs at text

-- A text was written over the memory `bs` from the place `at` on: what the memory is then, and the place after the text,
-- which does not go past the end of the memory.
pub record Wrote (bs : List ℕ) (at : ℕ) (text after : List ℕ) (next : ℕ) : Type 0 where
  pub memory : after ≡ written bs at text
  pub place : next ≡ max at (min (length bs) (at + length text))

-- The same of an output, which then still holds the memory that it was lent.
pub record Appended (old : Output) (text : List ℕ) (new : Output) : Type 0 where
  pub wrote : Wrote old.memory.now old.place text new.memory.now new.place
  pub same_reference : new.memory.ghost_name ≡ old.memory.ghost_name
