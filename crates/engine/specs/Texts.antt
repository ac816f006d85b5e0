-- The text of a value.
use Rattle.std.specs.Prelude.{ℕ, List, Some, None, codes}
use Rattle.std.specs.Fmt.{signed_decimal}
use Rattle.engine.specs.Values.{Value}

-- `-` for a value that is missing
abbrev pub value_text : Value → List ℕ
value_text None = codes "-"
value_text (Some z) = signed_decimal z
