-- What an engine answers to an order or to the question whether it would be taken, and to the question what a column shows.
use Rattle.std.specs.Prelude.{Result}
use Rattle.engine.specs.declared.answers.OrderError.{OrderError}
use Rattle.engine.specs.declared.answers.ShowError.{ShowError}
use Rattle.engine.specs.Values.{Value}

abbrev pub Answer : Type 0
Answer = Result (Unit {0}) OrderError

abbrev pub Shown : Type 0
Shown = Result Value ShowError
