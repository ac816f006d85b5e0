-- Lists of calls on an engine, by its book; and books that are alike but for the watch and the rise of their faults.
use Rattle.std.specs.Prelude.{◌≡◌, List, [], ◌∷◌, Ok, Err}
use Rattle.engine.specs.declared.orders.Order.{Order}
use Rattle.engine.specs.declared.orders.Call.{Call}
use Rattle.engine.specs.declared.orders.Call.TheVariants.{Give, Show, Would}
use Rattle.engine.specs.declared.answers.Fault.{Fault}
use Rattle.engine.specs.declared.answers.OrderError.TheVariants.{Refused, Halted}
use Rattle.engine.specs.declared.answers.ShowError.TheVariants.{NoColumn, Halted as ShowHalted}
use Rattle.engine.specs.declared.answers.Reply.{Reply}
use Rattle.engine.specs.declared.answers.Reply.TheVariants.{ToGive, ToShow, ToWould}
use Rattle.engine.specs.Answers.{Answer, Shown}
use Rattle.engine.specs.Books.{Page, live, halted, Book, after, answer, foretold, shown}

-- the reply to a call, and the book after it: a question alters no page
abbrev pub reply : Book → Call → Reply
reply b (Give o) = ToGive (answer b o)
reply b (Show c) = ToShow (shown b c)
reply b (Would o) = ToWould (foretold b o)

abbrev pub book_after : Book → Call → Book
book_after b (Give o) = after b o
book_after b (Show c) = b
book_after b (Would o) = b

-- the same for a list of calls
abbrev pub replies : Book → List Call → List Reply
replies b [] = []
replies b (c ∷ cs) = reply b c ∷ replies (book_after b c) cs

abbrev pub book_after_all : Book → List Call → Book
book_after_all b [] = b
book_after_all b (c ∷ cs) = book_after_all (book_after b c) cs

-- a fault, and what holds one, with watch and rise left aside
abbrev pub fault_aside : Fault → Fault
fault_aside f = record { watch = 0; row = f.row; rise = 0 }

abbrev pub answer_aside : Answer → Answer
answer_aside (Ok x) = Ok x
answer_aside (Err (Refused why)) = Err (Refused why)
answer_aside (Err (Halted f)) = Err (Halted (fault_aside f))

abbrev pub shown_aside : Shown → Shown
shown_aside (Ok v) = Ok v
shown_aside (Err NoColumn) = Err NoColumn
shown_aside (Err (ShowHalted f)) = Err (ShowHalted (fault_aside f))

abbrev pub reply_aside : Reply → Reply
reply_aside (ToGive a) = ToGive (answer_aside a)
reply_aside (ToShow s) = ToShow (shown_aside s)
reply_aside (ToWould a) = ToWould (answer_aside a)

abbrev pub page_aside : Page → Page
page_aside (live v w) = live v w
page_aside (halted f) = halted (fault_aside f)

-- the two books have the same pages, watch and rise aside
abbrev pub Alike : Book → Book → Type 0
Alike b d = (os : List Order) → page_aside (b os) ≡ page_aside (d os)
