-- What is printed of a pile and the order lines sent to it, by the pile's book.
use Rattle.std.specs.Prelude.{ℕ, ◌+◌, cond, List, [], ◌∷◌, ◌++◌, map, pos, Some, None, Option, ◌==◌}
use Rattle.engine.specs.declared.orders.Order.{Order}
use Rattle.engine.specs.declared.orders.Call.{Call}
use Rattle.engine.specs.declared.orders.Call.TheVariants.{Give, Show}
use Rattle.engine.specs.declared.answers.Reply.{Reply}
use Rattle.engine.specs.Messages.{message}
use Rattle.engine.specs.Books.{Book}
use Rattle.engine.specs.Calls.{replies, book_after_all}
use Rattle.script.specs.Orders.{order_of}
use Rattle.script.specs.Text.{line_text, header_text, no_order_text}

-- the calls that a line stands for: its order, and then each column is shown; none for a line that has no order
abbrev pub page_calls : List Call
page_calls = Show (pos 1) ∷ Show (pos 2) ∷ Show (pos 3) ∷ Show (pos 4) ∷ Show (pos 5) ∷ Show (pos 6) ∷ []

abbrev pub calls_of_order : Order → List Call
calls_of_order o = Give o ∷ page_calls

abbrev pub line_calls : Option Order → List Call
line_calls None = []
line_calls (Some o) = calls_of_order o

-- the row number after an order, by its reply: the orders taken are counted
abbrev pub row_after : ℕ → Reply → ℕ
row_after row r = cond ((message r).number == 0) (row + 1) row

abbrev pub rows_after : ℕ → List Reply → ℕ
rows_after row [] = row
rows_after row (r ∷ shown) = row_after row r

-- the text of an order line by the replies to its calls
abbrev pub replies_text : ℕ → List Reply → List ℕ
replies_text row [] = no_order_text
replies_text row (r ∷ shown) = line_text (row_after row r) (message r) (map message shown)

-- the text of the order lines from a row on
abbrev pub orders_text : Book → ℕ → List (List ℕ) → List ℕ
orders_text p row [] = []
orders_text p row (line ∷ lines) =
    replies_text row (replies p (line_calls (order_of line)))
    ++ orders_text (book_after_all p (line_calls (order_of line))) (rows_after row (replies p (line_calls (order_of line)))) lines

-- the text of the making: it has no order, so the first column's reply tells whether the pile is live
abbrev pub shows_text : List Reply → List ℕ
shows_text [] = []
shows_text (r ∷ shown) = line_text 0 (message r) (map message (r ∷ shown))

abbrev pub log_text : Book → List (List ℕ) → List ℕ
log_text p lines = header_text ++ (shows_text (replies p page_calls) ++ orders_text p 0 lines)
