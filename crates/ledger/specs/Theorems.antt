-- What holds of every pile, by its book and its ledger.
use Rattle.std.specs.Prelude.{◌≡◌, ℕ, ◌+◌, min, cond, T, ◌⊎◌, List, [], ◌∷◌, ◌++◌, map, length, ℤ, Some, None, Ok, Err, Option}
use mathlib.Core.List.{Permᴰ}
use Rattle.engine.specs.declared.Values.{Values}
use Rattle.engine.specs.declared.Row.{Row}
use Rattle.engine.specs.declared.orders.Order.{Order}
use Rattle.engine.specs.declared.orders.Call.{Call}
use Rattle.engine.specs.declared.answers.Fault.{Fault}
use Rattle.engine.specs.declared.answers.Refusal.{Refusal}
use Rattle.engine.specs.declared.answers.Refusal.TheVariants.{Full}
use Rattle.engine.specs.declared.answers.OrderError.TheVariants.{Halted}
use Rattle.engine.specs.declared.answers.ShowError.TheVariants.{Halted as ShowHalted}
use Rattle.engine.specs.Values.{row_of}
use Rattle.engine.specs.Books.{Page, live, halted, Book, Lawful, after, answer, foretold, shown, column, refused_or, reading, is_live, takes}
use Rattle.engine.specs.Calls.{Alike, replies, reply_aside}
use Rattle.matching.specs.Walk.{Told}
use Rattle.matching.specs.Passing.{PassesRule}
use Rattle.ledger.specs.Ledger.{Watcher, Ledger, ledger, ledger_from, took, kept, filled, halting, pile_of}

-- What a ledger answers: by its fault if it has one; else show by the page, and an order by 21 once the rows fill some watch, then
-- by its refusal on the page, then by what it comes to.
pub record Says (ws : List Watcher) (b : Book) (l : Ledger) : Type 0 where
  pub halted_order : (f : Fault) → l.fault ≡ Some f → (o : Order) → answer (ledger_from ws b l) o ≡ Err (Halted f)
  pub halted_would : (f : Fault) → l.fault ≡ Some f → (o : Order) → foretold (ledger_from ws b l) o ≡ Err (Halted f)
  pub halted_show : (f : Fault) → l.fault ≡ Some f → (c : ℤ) → shown (ledger_from ws b l) c ≡ Err (ShowHalted f)
  pub live_show : (v : Values) (w : Order → Option Refusal) → l.fault ≡ None → b l.taken ≡ live v w → (c : ℤ) → shown (ledger_from ws b l) c ≡ column v c
  pub live_would : (v : Values) (w : Order → Option Refusal) → l.fault ≡ None → b l.taken ≡ live v w → (o : Order)
      → foretold (ledger_from ws b l) o ≡ refused_or (cond (filled ws l.count) (Some Full) (w o)) (Ok tt)
  pub live_order : (v : Values) (w : Order → Option Refusal) → l.fault ≡ None → b l.taken ≡ live v w → (o : Order)
      → answer (ledger_from ws b l) o ≡ refused_or (cond (filled ws l.count) (Some Full) (w o)) (halting (took ws b l o).fault)

abbrev pub LedgerSays : Type 0
LedgerSays = (ws : List Watcher) (b : Book) (l : Ledger) → Says ws b l

-- one watch more, outside the others, has the ledger of the others for its book below
abbrev pub Nests : Type 0
Nests = (ws : List Watcher) (w : Watcher) (b : Book) → ledger (ws ++ (w ∷ [])) b ≡ ledger (w ∷ []) (ledger ws b)

-- Of the orders given, those that are taken, by a book.
abbrev pub taken_by : Book → List Order → List Order
taken_by p [] = []
taken_by p (o ∷ os) = cond (takes (p []) o) (o ∷ taken_by (after p o) os) (taken_by (after p o) os)

-- The rows that orders, all of them taken, add by a book, newest first; the first row comes by `o`.
abbrev pub rows_from : Book → Option Order → List Row → List Order → List Row
rows_from b o rows [] = kept (row_of o) rows (b [])
rows_from b o rows (x ∷ os) = rows_from (after b x) (Some x) (kept (row_of o) rows (b [])) os

abbrev pub rows_by : Book → List Order → List Row
rows_by b os = rows_from b None [] os

-- the rows pass every rule
abbrev pub PassEach : List Watcher → List Row → Type 0
PassEach [] rows = Unit {0}
PassEach (w ∷ ws) rows = PassesRule w.tree rows × PassEach ws rows

-- after each beginning of the orders taken the page of the book is live and the rows pass every rule
abbrev pub Unbroken : List Watcher → Book → List Order → Type 0
Unbroken ws b taken = (beginning rest : List Order) → taken ≡ beginning ++ rest → T (is_live (b beginning)) × PassEach ws (rows_by b beginning)

-- how many watches a list has: what a fault that comes up through them all rises by
abbrev pub height : List Watcher → ℕ
height [] = 0
height (w ∷ ws) = height ws + 1

-- the fault names the innermost watch whose rule the rows fail, the newest row, and the watches above, up to 255
pub record Innermost (ws : List Watcher) (rows : List Row) (f : Fault) : Type 0 where
  pub inner : List Watcher
  pub failing : Watcher
  pub above : List Watcher
  pub split : ws ≡ inner ++ (failing ∷ above)
  pub pass : PassEach inner rows
  pub fails : PassesRule failing.tree rows → ⊥
  pub watch : f.watch ≡ failing.number
  pub row : f.row + 1 ≡ length rows
  pub rise : f.rise ≡ min 255 (height above)

-- the fault is that of the engine, come up through every watch with its watch and its row unaltered
pub record FromEngine (ws : List Watcher) (p : Page) (f : Fault) : Type 0 where
  pub fault : Fault
  pub on : p ≡ halted fault
  pub watch : f.watch ≡ fault.watch
  pub row : f.row ≡ fault.row
  pub rise : min 255 f.rise ≡ min 255 (fault.rise + height ws)

-- What holds of a pile of the watches ws over an engine with the book b, where p is the book of the pile.
pub record PileLaws (ws : List Watcher) (b p : Book) : Type 0 where
  -- the pile's book is its ledger's
  pub as_ledger : p ≡ ledger ws b
  -- the pile is live exactly as long as each page of the book is and all rows pass every rule
  pub lives : (os : List Order) → Told (is_live (p os)) (Unbroken ws b (taken_by p os))
  -- until then it shows the values of the book for the orders taken
  pub shows : (os : List Order) → T (is_live (p os)) → reading (p os) ≡ reading (b (taken_by p os))
  -- it halts by a fault of the engine, or by that of the innermost watch whose rule fails
  pub faults : (os : List Order) (f : Fault) → p os ≡ halted f → FromEngine ws (b (taken_by p os)) f ⊎ Innermost ws (rows_by b (taken_by p os)) f
  -- the same watches in any order, over an engine with an equal book, have the same pages and replies, watch and rise aside
  pub pages_alike : (vs : List Watcher) (d : Book) → Permᴰ ws vs → b ≡ d → Alike p (pile_of vs d)
  pub replies_alike : (vs : List Watcher) (d : Book) → Permᴰ ws vs → b ≡ d → (calls : List Call)
      → map reply_aside (replies p calls) ≡ map reply_aside (replies (pile_of vs d) calls)

abbrev pub EveryPile : Type 0
EveryPile = (ws : List Watcher) (b p : Book) → Lawful b → p ≡ pile_of ws b → PileLaws ws b p
