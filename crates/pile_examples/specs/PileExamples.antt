-- The worked examples of the calendar and of watches over it, in one statement.
use Rattle.std.specs.Prelude.{◌≡◌, ℕ, T, List, [], ◌∷◌, pos, codes}
use Rattle.engine.specs.declared.orders.Order.{Order}
use Rattle.engine.specs.declared.orders.Order.TheVariants.{Open, Turn}
use Rattle.engine.specs.Books.{Book, halted, is_live}
use Rattle.grammar.specs.Tree.{Pattern}
use Rattle.grammar.specs.Cutting.{Placed}
use Rattle.grammar.specs.Reading.{Numbered, Allowed}
use Rattle.matching.specs.Passing.{PassesRule}
use Rattle.ledger.specs.Ledger.{carrying, ledger}
use Rattle.ledger.specs.Theorems.{rows_by}
use Rattle.calendar.specs.Calendar.{reckoned, AllTaken, Worked}

-- the book of one watch over the reckoned calendar, by its number and its tree
abbrev pub watched : ℕ → Pattern → Book
watched w x = ledger (carrying w x ∷ []) reckoned

-- under each watch number w, the text is allowed with some tree x, and P holds of both
abbrev pub Under : (ℕ → Pattern → Type 0) → List ℕ → Type 0
Under P text = (w : ℕ) → Numbered (pos w) → (x : Pattern) × (ts : List Placed) × Allowed (pos w) text ts x × P w x

-- the watch takes each of the orders, so its page is live before each, and after them it is halted by its own rule at this row
abbrev pub HaltsAt : ℕ → List Order → List ℕ → Type 0
HaltsAt row orders = Under (λ w x. AllTaken (watched w x) orders × (watched w x orders ≡ halted (record { watch = w; row = row; rise = 0 })))

-- the watch takes each of the orders and is live after them, and the rows that they add pass its rule
abbrev pub PassesAfter : List Order → List ℕ → Type 0
PassesAfter orders = Under (λ w x. AllTaken (watched w x) orders × T (is_live (watched w x orders)) × PassesRule x (rows_by reckoned orders))

-- the watch is live whatever orders are given
abbrev pub NeverHalts : List ℕ → Type 0
NeverHalts = Under (λ w x. (orders : List Order) → T (is_live (watched w x orders)))

pub record PileExamples : Type 0 where
  pub days : Worked
  -- the third day is row 2
  pub third_day_halts : HaltsAt 2 (Turn ∷ Turn ∷ []) (codes "[c4 < 3]")
  pub empty_never_halts : NeverHalts (codes "_")
  pub missing_passes_first_row : PassesAfter [] (codes "[not c6 = 1]")
  -- by this rule the newest day is later than each day between it and row 0
  pub going_back_halts : HaltsAt 2 (Turn ∷ Open (pos 1) ∷ []) (codes "[op = 0] | [true].[c1 < c1']*.[op = 0]")
  pub first_open_passes : PassesAfter (Open (pos 1) ∷ []) (codes "[op = 0] | [true].[c1 < c1']*.[op = 0]")
