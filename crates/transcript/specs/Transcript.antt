-- What is printed for a whole input.
use Rattle.std.specs.Prelude.{◌≡◌, ℕ, ◌<◌, ◌≤◌, min, List, [], ◌∷◌, length, drop, pos}
use Rattle.grammar.specs.declared.Refusal.{Refusal}
use Rattle.grammar.specs.Numbers.{number_of, place_of}
use Rattle.grammar.specs.Tree.{Pattern}
use Rattle.grammar.specs.Cutting.{Placed}
use Rattle.grammar.specs.Reading.{Allowed, Refused}
use Rattle.ledger.specs.Ledger.{carrying, ledger}
use Rattle.calendar.specs.Calendar.{reckoned}
use Rattle.fields.specs.Lines.{lines_of}
use Rattle.script.specs.Output.{overlay}
use Rattle.script.specs.Text.{rule_text, too_long_text}
use Rattle.transcript.specs.Log.{log_text}

-- an input has at most so many bytes
abbrev pub input_limit : ℕ
input_limit = 60000

-- the first line, empty where there is none
abbrev pub first_of : List (List ℕ) → List ℕ
first_of [] = []
first_of (line ∷ lines) = line

abbrev pub first_rule : List ℕ → List ℕ
first_rule input = first_of (lines_of input)

abbrev pub second_rule : List ℕ → List ℕ
second_rule input = first_of (drop 1 (lines_of input))

abbrev pub order_lines : List ℕ → List (List ℕ)
order_lines input = drop 2 (lines_of input)

-- The text for an input: 15 alone if it is too long; the refusal of the first rule, or else of the second; or else what the ledger
-- of the two watches, the first inside, over the reckoned calendar at day 1 replies to the calls of the further lines.
pub data Transcribed (input : List ℕ) : List ℕ → Type 0 where
  too_long : input_limit < length input → Transcribed input too_long_text
  first_refused : length input ≤ input_limit → (e : Refusal) → Refused (pos 1) (first_rule input) e
      → Transcribed input (rule_text 1 (number_of e) (place_of e))
  second_refused : length input ≤ input_limit → (ts : List Placed) (x : Pattern) → Allowed (pos 1) (first_rule input) ts x
      → (e : Refusal) → Refused (pos 2) (second_rule input) e → Transcribed input (rule_text 2 (number_of e) (place_of e))
  logged : length input ≤ input_limit → (ts : List Placed) (x : Pattern) → Allowed (pos 1) (first_rule input) ts x
      → (us : List Placed) (y : Pattern) → Allowed (pos 2) (second_rule input) us y
      → Transcribed input (log_text (ledger (carrying 1 x ∷ carrying 2 y ∷ []) reckoned) (order_lines input))

-- The memory was old and is new: the text for the input, and no other is the text for it, was written over its beginning as far as
-- the memory reaches, and n bytes of it.
pub record Printed (input old new : List ℕ) (n : ℕ) : Type 0 where
  pub text : List ℕ
  pub transcribed : Transcribed input text
  pub only : (other : List ℕ) → Transcribed input other → other ≡ text
  pub memory : new ≡ overlay old text
  pub count : n ≡ min (length old) (length text)
