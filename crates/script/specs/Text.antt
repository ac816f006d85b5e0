-- What is written of an answer.
use Rattle.std.specs.Prelude.{ℕ, cond, List, [], ◌∷◌, ◌++◌, Some, None, codes, decimal, Option, ◌==◌}
use Rattle.std.specs.List.{flat_map}
use Rattle.engine.specs.declared.answers.Fault.{Fault}
use Rattle.engine.specs.Values.{Value}
use Rattle.engine.specs.Texts.{value_text}
use Rattle.engine.specs.Messages.{Message}

abbrev pub shown_text : Option Value → List ℕ
shown_text None = codes "-"
shown_text (Some value) = value_text value

abbrev pub spaced : ℕ → List ℕ
spaced n = 32 ∷ decimal n

abbrev pub fault_text : Fault → List ℕ
fault_text f = decimal f.watch ++ (spaced f.row ++ spaced f.rise)

-- the value that a message shows, after a space; and those of several messages
abbrev pub column_text : Message → List ℕ
column_text m = 32 ∷ shown_text m.value

abbrev pub columns_text : List Message → List ℕ
columns_text ms = flat_map column_text ms

-- the row and the columns, if the number is 0
abbrev pub row_text : ℕ → ℕ → List Message → List ℕ
row_text row number shown = cond (number == 0) (spaced row ++ columns_text shown) []

-- what follows the number of a message
abbrev pub detail_text : ℕ → ℕ → Option Fault → List Message → List ℕ
detail_text row number (Some f) shown = 32 ∷ fault_text f
detail_text row number None shown = row_text row number shown

abbrev pub line_text : ℕ → Message → List Message → List ℕ
line_text row m shown = decimal m.number ++ (detail_text row m.number m.fault shown ++ codes "\n")

abbrev pub rule_word : List ℕ
rule_word = codes "rule"

-- a rule that was refused: its line, the number of the refusal and the place in the rule
abbrev pub rule_text : ℕ → ℕ → ℕ → List ℕ
rule_text line number place = rule_word ++ (spaced line ++ (spaced number ++ (spaced place ++ codes "\n")))

-- the lines that no engine's answer is in: the names of the columns, a line that is no order, an input that is too long
abbrev pub header_text : List ℕ
header_text = codes "answer row c1 c2 c3 c4 c5 c6\n"

abbrev pub no_order_text : List ℕ
no_order_text = codes "14\n"

abbrev pub too_long_text : List ℕ
too_long_text = codes "15\n"
