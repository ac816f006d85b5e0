-- A ledger over a book that has moved on by one order.
use Rattle.std.proofs.Common.{◌≡◌, ℕ, Bool, true, false, cond, List, [], ◌∷◌, Some, Option, sym, refl, ap, ◌∙◌}
use mathlib.Core.Path.{fun_ext}
use Rattle.engine.specs.declared.Row.{Row}
use Rattle.engine.specs.declared.orders.Order.{Order}
use Rattle.engine.specs.declared.answers.Fault.{Fault}
use Rattle.engine.specs.Values.{row_of}
use Rattle.engine.specs.Books.{Book, halted, after, takes}
use Rattle.ledger.specs.Ledger.{Watcher, Ledger, ledger_from, entered, took, ordered, ran, page_of}
use Rattle.ledger.specs.Lawfuls.{still}

abbrev pub led : List Order → ℕ → List Row → Option Fault → Ledger
led t n rows f = record { taken = t; count = n; rows = rows; fault = f }

-- the same ledger over the book as it was before the order o
abbrev before : Order → Ledger → Ledger
before o l = led (o ∷ l.taken) l.count l.rows l.fault

module _ (ws : List Watcher) (b : Book) where
  before_ordered : (o : Order) (l : Ledger) (x : Order) → before o (ordered ws (after b o) l x) ≡ ordered ws b (before o l) x
  before_ordered o l x = by (takes (page_of ws b (before o l)) x) where
    by : (k : Bool) → before o (cond k (took ws (after b o) l x) l) ≡ cond k (took ws b (before o l) x) (before o l)
    by true = refl
    by false = refl

  moved_back : (o : Order) (l : Ledger) (os : List Order) → ledger_from ws (after b o) l os ≡ ledger_from ws b (before o l) os
  moved_back o l [] = refl
  moved_back o l (x ∷ os) =
      moved_back o (ordered ws (after b o) l x) os ∙ ap (λ m. page_of ws b (ran ws b m os)) (before_ordered o l x)

  -- an order that the ledger takes
  pub on_taken : (n : ℕ) (rows : List Row) (fo : Option Fault) (o : Order) → takes (page_of ws b (led [] n rows fo)) o ≡ true
      → ledger_from ws (after b o) (entered ws [] (row_of (Some o)) n rows (b (o ∷ []))) ≡ after (ledger_from ws b (led [] n rows fo)) o
  on_taken n rows fo o e =
      fun_ext (λ os. moved_back o (entered ws [] (row_of (Some o)) n rows (b (o ∷ []))) os
      ∙ sym (ap (λ k. page_of ws b (ran ws b (cond k (took ws b (led [] n rows fo) o) (led [] n rows fo)) os)) e))

  -- from a halted page on there is no other
  pub for_good : (l : Ledger) (f : Fault) → page_of ws b l ≡ halted f → ledger_from ws b l ≡ (λ os. halted f)
  for_good l f e = fun_ext (λ os. ap (page_of ws b) (still ws b l f e os) ∙ e)
