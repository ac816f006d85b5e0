-- A watch: its book, and what making it and giving it an order do to it.
use Rattle.std.specs.Prelude.{◌≡◌, Bool, true, false, cond, T, List, [], ◌∷◌, Some, None, Ok, Err, Option}
use Rattle.engine.specs.declared.Row.{Row}
use Rattle.engine.specs.declared.Values.{Values}
use Rattle.engine.specs.declared.orders.Order.{Order}
use Rattle.engine.specs.declared.answers.Fault.{Fault}
use Rattle.engine.specs.Values.{row_of}
use Rattle.engine.specs.Answers.{Answer}
use Rattle.engine.specs.Books.{Book, after, takes, is_live}
use Rattle.rule.specs.declared.rule.Rule.{Rule}
use Rattle.rule.specs.Held.{watch_of, rule_tree}
use Rattle.matching.specs.Walk.{Told}
use Rattle.matching.specs.Passing.{PassesRule}
use Rattle.ledger.specs.Ledger.{Watcher, carrying, Ledger, ledger, ledger_from, kept, entered}
use Rattle.watch.specs.declared.watch.Watch.{Watch}
use Rattle.watch.specs.Tables.{Table, count_of, rows_of}

-- what the ledger knows of the watch that carries a rule
abbrev pub watcher : Rule → Watcher
watcher u = carrying (watch_of u) (rule_tree u)

-- where a watch stands, as the ledger of that watch alone: by the fault that it has halted with, if any, and the rows that it keeps
abbrev pub standing : Option Fault → Table → Ledger
standing f t = record { taken = []; count = count_of t; rows = rows_of t; fault = f }

-- The book of a watch over an engine whose book is given: the ledger of its rule alone over the book below, from where it stands.
abbrev pub book_of : {E : Type 0} → (E → Book) → Watch E → Book
book_of book w = ledger_from (watcher w.rule ∷ []) (book w.below) (standing w.fault w.rows)

-- the rows that a watch has kept, newest first
abbrev pub watch_rows : {E : Type 0} → Watch E → List Row
watch_rows w = rows_of w.rows

abbrev pub is_taken : Answer → Bool
is_taken (Ok x) = true
is_taken (Err e) = false

-- What is made of a rule and an engine: the book is the ledger of that one watch over the engine's book, row 0 is kept if the engine
-- is live, and then the watch is live exactly when row 0 passes the rule.
pub record Made {E : Type 0} (book : E → Book) (given : Rule) (engine : E) (w : Watch E) : Type 0 where
  pub as_ledger : book_of book w ≡ ledger (watcher given ∷ []) (book engine)
  pub rule : w.rule ≡ given
  pub below : w.below ≡ engine
  pub rows : watch_rows w ≡ kept (row_of None) [] (book engine [])
  pub passing : T (is_live (book engine [])) → Told (is_live (book_of book w [])) (PassesRule (rule_tree given) (watch_rows w))

-- What an order does to a watch. It is taken as the watch's page says; only then does the engine below move, and only where that
-- leads to a live page is a row kept. The order is then answered 0 exactly when the rows kept pass the rule.
pub record Obeyed {E : Type 0} (book : E → Book) (old new : Watch E) (o : Order) (a : Answer) : Type 0 where
  pub rule : new.rule ≡ old.rule
  pub below : book new.below ≡ cond (takes (book_of book old []) o) (after (book old.below) o) (book old.below)
  pub rows : watch_rows new ≡ cond (takes (book_of book old []) o) (kept (row_of (Some o)) (watch_rows old) (book old.below (o ∷ []))) (watch_rows old)
  pub passing : T (takes (book_of book old []) o) → T (is_live (book old.below (o ∷ [])))
      → Told (is_taken a) (PassesRule (rule_tree old.rule) (watch_rows new))

-- the watch has come to the page below, whose values make this row
pub record Entered {E : Type 0} (book : E → Book) (line : Values → Row) (old new : Watch E) : Type 0 where
  pub stands : standing new.fault new.rows ≡ entered (watcher old.rule ∷ []) [] line (count_of old.rows) (rows_of old.rows) (book old.below [])
  pub rule : new.rule ≡ old.rule
  pub below : new.below ≡ old.below
