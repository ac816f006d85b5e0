-- The ledger of a pile: what the pile ought to answer. It is worked out from the engine's book as it was before any watch stood over
-- it, from the watches (innermost first) and from the orders given. What the watches themselves store does not enter into it.
use Rattle.std.specs.Prelude.{ℕ, ◌+◌, ◌-◌, min, Bool, false, cond, ◌||◌, List, [], ◌∷◌, ◌++◌, Some, None, Ok, Err, Option, nat_le}
use Rattle.engine.specs.declared.Values.{Values}
use Rattle.engine.specs.declared.Row.{Row}
use Rattle.engine.specs.declared.orders.Order.{Order}
use Rattle.engine.specs.declared.answers.Fault.{Fault}
use Rattle.engine.specs.declared.answers.Refusal.TheVariants.{Full}
use Rattle.engine.specs.declared.answers.OrderError.TheVariants.{Halted}
use Rattle.engine.specs.Values.{row_of}
use Rattle.engine.specs.Answers.{Answer}
use Rattle.engine.specs.Books.{Page, live, halted, Book, takes}
use Rattle.grammar.specs.Tree.{Pattern}
use Rattle.matching.specs.Passing.{tried}

-- what the ledger knows of a watch: its number, the tree of its rule, and how many rows fill it
pub record Watcher : Type 0 where
  pub number : ℕ
  pub tree : Pattern
  pub room : ℕ

-- the watch of a number that carries the rule with this tree: 400 rows fill it, row 0 counted
abbrev pub carrying : ℕ → Pattern → Watcher
carrying n x = record { number = n; tree = x; room = 400 }

-- a fault that has come up through one watch more, and through each of a list
abbrev pub risen : Fault → Fault
risen f = record { watch = f.watch; row = f.row; rise = min 255 (f.rise + 1) }

abbrev pub risen_over : List Watcher → Fault → Fault
risen_over [] f = f
risen_over (w ∷ ws) f = risen_over ws (risen f)

-- the fault of a watch whose rule fails at the newest of so many rows
abbrev pub failed : Watcher → ℕ → Fault
failed w count = record { watch = w.number; row = count - 1; rise = 0 }

-- the fault of the innermost watch whose rule the rows fail, come up through the watches above it; or none
abbrev pub verdict : List Watcher → ℕ → List Row → Option Fault
verdict [] count rows = None
verdict (w ∷ ws) count rows = cond (tried w.tree rows) (verdict ws count rows) (Some (risen_over ws (failed w count)))

-- whether so many rows fill some watch
abbrev pub filled : List Watcher → ℕ → Bool
filled [] count = false
filled (w ∷ ws) count = nat_le w.room count || filled ws count

-- the orders taken, how many rows there have been, the rows with the newest first, and a fault or none
pub record Ledger : Type 0 where
  pub taken : List Order
  pub count : ℕ
  pub rows : List Row
  pub fault : Option Fault

-- The orders taken lead to a page: a live one adds a row, on which each rule is tried; a halted one halts the ledger.
abbrev pub counted : ℕ → Page → ℕ
counted count (live v w) = count + 1
counted count (halted f) = count

abbrev pub kept : (Values → Row) → List Row → Page → List Row
kept line rows (live v w) = line v ∷ rows
kept line rows (halted f) = rows

abbrev pub faulted : List Watcher → ℕ → List Row → Page → Option Fault
faulted ws count rows (live v w) = verdict ws count rows
faulted ws count rows (halted f) = Some (risen_over ws f)

abbrev pub entered : List Watcher → List Order → (Values → Row) → ℕ → List Row → Page → Ledger
entered ws taken line count rows p = record {
  taken = taken;
  count = counted count p;
  rows = kept line rows p;
  fault = faulted ws (counted count p) (kept line rows p) p;
}

abbrev pub started : List Watcher → Book → Ledger
started ws b = entered ws [] (row_of None) 0 [] (b [])

-- the page over the watches: a live one refuses every order once the rows fill some watch, a halted one comes up with its fault risen
abbrev pub page_over : List Watcher → ℕ → Page → Page
page_over ws count (live v w) = live v (λ o. cond (filled ws count) (Some Full) (w o))
page_over ws count (halted f) = halted (risen_over ws f)

abbrev pub unless : Option Fault → Page → Page
unless None p = p
unless (Some f) p = halted f

-- the ledger's page: its fault, or else the book's page for the orders taken
abbrev pub page_of : List Watcher → Book → Ledger → Page
page_of ws b l = unless l.fault (page_over ws l.count (b l.taken))

-- one order more, and a list of them: an order that is not taken changes nothing
abbrev pub took : List Watcher → Book → Ledger → Order → Ledger
took ws b l o = entered ws (l.taken ++ (o ∷ [])) (row_of (Some o)) l.count l.rows (b (l.taken ++ (o ∷ [])))

abbrev pub ordered : List Watcher → Book → Ledger → Order → Ledger
ordered ws b l o = cond (takes (page_of ws b l) o) (took ws b l o) l

abbrev pub ran : List Watcher → Book → Ledger → List Order → Ledger
ran ws b l [] = l
ran ws b l (o ∷ os) = ran ws b (ordered ws b l o) os

-- what is answered where a fault has just come, or none
abbrev pub halting : Option Fault → Answer
halting None = Ok tt
halting (Some f) = Err (Halted f)

-- the book of a ledger from where it stands, and from its start
abbrev pub ledger_from : List Watcher → Book → Ledger → Book
ledger_from ws b l = λ os. page_of ws b (ran ws b l os)

abbrev pub ledger : List Watcher → Book → Book
ledger ws b = ledger_from ws b (started ws b)

-- the book of a pile: each watch made over what is below it, the innermost first
abbrev pub pile_of : List Watcher → Book → Book
pile_of [] b = b
pile_of (w ∷ ws) b = pile_of ws (ledger (w ∷ []) b)
