-- The book of a ledger keeps what every book keeps. An engine cites this in its definition, so it stands among the definitions.
use Rattle.std.specs.Prelude.{◌≡◌, ℕ, true, false, cond, List, [], ◌∷◌, ◌++◌, Some, None, Option, refl}
use Rattle.std.proofs.Common.{sym, ap, ◌∙◌}
use Rattle.engine.specs.declared.orders.Order.{Order}
use Rattle.engine.specs.declared.answers.Fault.{Fault}
use Rattle.engine.specs.declared.answers.Refusal.{Refusal}
use Rattle.engine.specs.Books.{Page, live, halted, Book, Lawful, none, takes, refusal_on, page_in_range}
use Rattle.ledger.specs.Ledger.{Watcher, Ledger, ledger_from, took, ordered, ran, page_of, page_over, unless}

pub not_taken : (p : Page) (o : Order) (why : Refusal) → refusal_on p o ≡ Some why → takes p o ≡ false
not_taken (live v w) o why e = ap none e
not_taken (halted f) o why e = refl

module _ (ws : List Watcher) (b : Book) where
  pub ran_append : (l : Ledger) (os more : List Order) → ran ws b l (os ++ more) ≡ ran ws b (ran ws b l os) more
  ran_append l [] more = refl
  ran_append l (o ∷ os) more = ran_append (ordered ws b l o) os more

  pub idle : (l : Ledger) (o : Order) → takes (page_of ws b l) o ≡ false → ordered ws b l o ≡ l
  idle l o e = ap (λ k. cond k (took ws b l o) l) e

  pub still : (l : Ledger) (f : Fault) → page_of ws b l ≡ halted f → (os : List Order) → ran ws b l os ≡ l
  still l f e [] = refl
  still l f e (o ∷ os) = ap (λ m. ran ws b m os) (idle l o (ap (λ p. takes p o) e)) ∙ still l f e os

module _ (ws : List Watcher) (b : Book) (lawful : Lawful b) where
  ranged_over : (fo : Option Fault) (count : ℕ) (p : Page) → page_in_range p ≡ true → page_in_range (unless fo (page_over ws count p)) ≡ true
  ranged_over None count (live v w) e = e
  ranged_over None count (halted f) e = refl
  ranged_over (Some f) count p e = refl

  pub ledger_lawful : (l : Ledger) → Lawful (ledger_from ws b l)
  ledger_lawful l = record {
    halts = λ os f more k. ap (page_of ws b) (ran_append ws b l os more ∙ still ws b (ran ws b l os) f k more) ∙ k;
    refuses = λ os o more why k.
        ap (page_of ws b) (ran_append ws b l os (o ∷ more)
        ∙ ap (λ (k : Ledger). ran ws b k more) (idle ws b (ran ws b l os) o (not_taken (page_of ws b (ran ws b l os)) o why k))
        ∙ sym (ran_append ws b l os more));
    ranged = λ os. let m = ran ws b l os in ranged_over m.fault m.count (b m.taken) (lawful.ranged m.taken);
  }
