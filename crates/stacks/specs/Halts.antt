-- The book of an engine that counts orders and halts when the count comes to a limit.
use Rattle.std.specs.Prelude.{◌≡◌, ℕ, ◌+◌, Bool, true, false, cond, List, [], ◌∷◌, ◌++◌, pos, Some, None, ◌≢◌, nat_le, refl}
use Rattle.std.proofs.Common.{ap, ◌∙◌, arith}
use Rattle.engine.specs.declared.Values.{Values}
use Rattle.engine.specs.declared.orders.Order.{Order}
use Rattle.engine.specs.declared.answers.Fault.{Fault}
use Rattle.engine.specs.declared.answers.Refusal.{Refusal}
use Rattle.engine.specs.Values.{value_of}
use Rattle.engine.specs.Books.{Page, live, halted, Book, Lawful, refusal_on, page_in_range}
use Rattle.engine.specs.Mechanisms.{value_ranged}
use Rattle.stacks.specs.declared.halting.Halting.{Halting}

-- a live page shows the count in its first column
abbrev counting : ℕ → Values
counting count = record { c1 = value_of (pos count); c2 = None; c3 = None; c4 = None; c5 = None; c6 = None }

-- the page at a count; no order is refused
abbrev pub page : Fault → Bool → ℕ → Page
page fault true count = halted fault
page fault false count = live (counting count) (λ o. None)

-- the count after one order more, and after a list of them: a halted engine counts no more
abbrev pub stepped : ℕ → ℕ → ℕ
stepped limit count = cond (nat_le limit count) count (count + 1)

abbrev pub counted : ℕ → ℕ → List Order → ℕ
counted limit count [] = count
counted limit count (o ∷ os) = counted limit (stepped limit count) os

abbrev pub page_at : Fault → ℕ → ℕ → Page
page_at fault limit count = page fault (nat_le limit count) count

abbrev pub halting_book : Halting → Book
halting_book e = λ os. page_at e.fault e.limit (counted e.limit e.count os)

-- what every book keeps
counted_append : (limit count : ℕ) (os more : List Order) → counted limit count (os ++ more) ≡ counted limit (counted limit count os) more
counted_append limit count [] more = refl
counted_append limit count (o ∷ os) more = counted_append limit (stepped limit count) os more

module _ (fault : Fault) (limit : ℕ) where
  stays : (count : ℕ) (more : List Order) → nat_le limit count ≡ true → counted limit count more ≡ count
  stays count [] h = refl
  stays count (o ∷ more) h = rw h (stays count more h)

  was_halted : (b : Bool) (count : ℕ) (f : Fault) → page fault b count ≡ halted f → b ≡ true
  was_halted true count f e = refl
  was_halted false count f e = absurd (let z : ◌≡◌ {A = ℕ} 0 1 = cc in omega arith)

  ranged : (b : Bool) (count : ℕ) → page_in_range (page fault b count) ≡ true
  ranged true count = refl
  ranged false count = rw (value_ranged (pos count))

  takes_all : (b : Bool) (count : ℕ) (o : Order) (why : Refusal) → refusal_on (page fault b count) o ≢ Some why
  takes_all true count o why e = let z : ◌≡◌ {A = ℕ} 0 1 = cc in omega arith
  takes_all false count o why e = let z : ◌≡◌ {A = ℕ} 0 1 = cc in omega arith

  lawful_from : (start : ℕ) → Lawful (λ os. page_at fault limit (counted limit start os))
  lawful_from start = record {
    halts = λ os f more e.
        ap (page_at fault limit) (counted_append limit start os more
        ∙ stays (counted limit start os) more (was_halted (nat_le limit (counted limit start os)) (counted limit start os) f e))
        ∙ e;
    refuses = λ os o more why e. absurd (takes_all (nat_le limit (counted limit start os)) (counted limit start os) o why e);
    ranged = λ os. ranged (nat_le limit (counted limit start os)) (counted limit start os);
  }

pub halting_lawful : (e : Halting) → Lawful (halting_book e)
halting_lawful e = lawful_from e.fault e.limit e.count
