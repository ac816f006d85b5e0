-- What an editor is told by each reply: this is the only place that knows the numbers.
use Rattle.std.specs.Prelude.{ℕ, Some, None, Ok, Err, Option}
use Rattle.engine.specs.declared.answers.Fault.{Fault}
use Rattle.engine.specs.declared.answers.Refusal.TheVariants.{Argument, Past, Full}
use Rattle.engine.specs.declared.answers.OrderError.{OrderError}
use Rattle.engine.specs.declared.answers.OrderError.TheVariants.{Refused, Halted}
use Rattle.engine.specs.declared.answers.ShowError.{ShowError}
use Rattle.engine.specs.declared.answers.ShowError.TheVariants.{NoColumn, Halted as ShowHalted}
use Rattle.engine.specs.declared.answers.Reply.{Reply}
use Rattle.engine.specs.declared.answers.Reply.TheVariants.{ToGive, ToShow, ToWould}
use Rattle.engine.specs.Values.{Value}
use Rattle.engine.specs.Answers.{Answer, Shown}

-- a number, and with it a fault or the value shown
pub record Message : Type 0 where
  pub number : ℕ
  pub fault : Option Fault
  pub value : Option Value

abbrev plain : ℕ → Message
plain n = record { number = n; fault = None; value = None }

abbrev pub order_error_message : OrderError → Message
order_error_message (Refused Argument) = plain 12
order_error_message (Refused Past) = plain 13
order_error_message (Refused Full) = plain 21
order_error_message (Halted f) = record { number = 20; fault = Some f; value = None }

abbrev pub answer_message : Answer → Message
answer_message (Ok x) = plain 0
answer_message (Err e) = order_error_message e

abbrev pub show_error_message : ShowError → Message
show_error_message NoColumn = plain 11
show_error_message (ShowHalted f) = record { number = 20; fault = Some f; value = None }

abbrev pub shown_message : Shown → Message
shown_message (Ok v) = record { number = 0; fault = None; value = Some v }
shown_message (Err e) = show_error_message e

abbrev pub message : Reply → Message
message (ToGive a) = answer_message a
message (ToShow s) = shown_message s
message (ToWould a) = answer_message a
