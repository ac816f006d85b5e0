-- Pages and books, and what an engine answers by its book.
use Rattle.std.specs.Prelude.{◌≡◌, ℕ, Bool, true, false, cond, List, [], ◌∷◌, ◌++◌, ℤ, pos, negsuc, Some, None, Ok, Err, Option, Result, ◌==◌}
use Rattle.engine.specs.declared.Values.{Values}
use Rattle.engine.specs.declared.orders.Order.{Order}
use Rattle.engine.specs.declared.answers.Fault.{Fault}
use Rattle.engine.specs.declared.answers.Refusal.{Refusal}
use Rattle.engine.specs.declared.answers.OrderError.TheVariants.{Refused, Halted}
use Rattle.engine.specs.declared.answers.ShowError.TheVariants.{NoColumn, Halted as ShowHalted}
use Rattle.engine.specs.Values.{Value, values_in_range}
use Rattle.engine.specs.Answers.{Answer, Shown}

-- A page is what an engine has to say where it stands: either six values together with the refusal that each order would meet,
-- if any, or, once it has halted, nothing but the fault.
pub data Page : Type 0 where
  live : Values → (Order → Option Refusal) → Page
  halted : Fault → Page

-- A book says what page an engine comes to by any orders from here on, and by none. Functions that agree everywhere are equal, so
-- equal books are those that agree on all lists of orders.
abbrev pub Book : Type 0
Book = List Order → Page

-- the book once an order has been given
abbrev pub after : Book → Order → Book
after b o = λ os. b (o ∷ os)

-- an order that would be refused is answered so, and any other by `else`
abbrev pub refused_or : Option Refusal → Answer → Answer
refused_or None else = else
refused_or (Some why) else = Err (Refused why)

-- the sequence in which an order is tried: a halted page answers by its fault, then comes the refusal, then what is given
abbrev pub answer_on : Page → Order → Answer → Answer
answer_on (live v w) o else = refused_or (w o) else
answer_on (halted f) o else = Err (Halted f)

-- what an order that is taken comes to, by the next page
abbrev pub outcome : Page → Answer
outcome (live v w) = Ok tt
outcome (halted f) = Err (Halted f)

-- the answer to an order that is given, and to the question whether it would be taken, which does not look at the next page
abbrev pub answer : Book → Order → Answer
answer b o = answer_on (b []) o (outcome (b (o ∷ [])))

abbrev pub foretold : Book → Order → Answer
foretold b o = answer_on (b []) o (Ok tt)

-- columns count from 1 to 6
abbrev numbered : Values → ℕ → Shown
numbered v n =
    cond (n == 1) (Ok v.c1)
    (cond (n == 2) (Ok v.c2)
    (cond (n == 3) (Ok v.c3)
    (cond (n == 4) (Ok v.c4)
    (cond (n == 5) (Ok v.c5)
    (cond (n == 6) (Ok v.c6) (Err NoColumn))))))

abbrev pub column : Values → ℤ → Shown
column v (pos n) = numbered v n
column v (negsuc n) = Err NoColumn

abbrev pub shown_on : Page → ℤ → Shown
shown_on (live v w) c = column v c
shown_on (halted f) c = Err (ShowHalted f)

abbrev pub shown : Book → ℤ → Shown
shown b c = shown_on (b []) c

-- the values of a page, or its fault; and the value that is shown, missing where there is no such column
abbrev pub reading : Page → Result Values Fault
reading (live v w) = Ok v
reading (halted f) = Err f

abbrev pub shown_value : Shown → Result Value Fault
shown_value (Ok x) = Ok x
shown_value (Err NoColumn) = Ok None
shown_value (Err (ShowHalted f)) = Err f

abbrev pub is_live : Page → Bool
is_live (live v w) = true
is_live (halted f) = false

-- whether an order is taken on a page: the page is live and does not refuse it
abbrev pub none : Option Refusal → Bool
none None = true
none (Some why) = false

abbrev pub takes : Page → Order → Bool
takes (live v w) o = none (w o)
takes (halted f) o = false

-- why an order would be refused on a live page
abbrev pub refusal_on : Page → Order → Option Refusal
refusal_on (live v w) o = w o
refusal_on (halted f) o = None

abbrev pub page_in_range : Page → Bool
page_in_range (live v w) = values_in_range v
page_in_range (halted f) = true

-- What the book of every engine keeps: a halted page is the last, a refused order changes nothing, and values are in range.
pub record Lawful (b : Book) : Type 0 where
  pub halts : (os : List Order) (f : Fault) (more : List Order) → b os ≡ halted f → b (os ++ more) ≡ halted f
  pub refuses : (os : List Order) (o : Order) (more : List Order) (why : Refusal) → refusal_on (b os) o ≡ Some why → b (os ++ (o ∷ more)) ≡ b (os ++ more)
  pub ranged : (os : List Order) → page_in_range (b os) ≡ true
