-- A pile's book is its ledger's.
use Rattle.std.proofs.Common.{◌≡◌, ℕ, Bool, true, false, cond, List, [], ◌∷◌, ◌++◌, Some, None, Option, sym, refl, ap, ◌∙◌, append_assoc, append-nil}
use mathlib.Core.Path.{fun_ext}
use Rattle.engine.specs.declared.Values.{Values}
use Rattle.engine.specs.declared.Row.{Row}
use Rattle.engine.specs.declared.orders.Order.{Order}
use Rattle.engine.specs.declared.answers.Fault.{Fault}
use Rattle.engine.specs.declared.answers.Refusal.{Refusal}
use Rattle.engine.specs.Values.{row_of}
use Rattle.engine.specs.Books.{Page, live, halted, Book, Lawful, none, takes, refusal_on, after}
use Rattle.ledger.specs.Ledger.{Watcher, Ledger, ledger, ledger_from, pile_of, started, entered, counted, took, ordered, page_of, page_over}
use Rattle.ledger.proofs.Steps.{led}
use Rattle.ledger.proofs.Nesting.{nests}

-- on a lawful book an order that is not taken changes nothing
module _ (b : Book) (lawful : Lawful b) (os : List Order) (o : Order) (more : List Order) where
  idle_on : (p : Page) → b os ≡ p → takes p o ≡ false → b (os ++ (o ∷ more)) ≡ b (os ++ more)
  idle_on (halted f) on e = lawful.halts os f (o ∷ more) on ∙ sym (lawful.halts os f more on)
  idle_on (live v w) on e = by (w o) (ap (λ p. refusal_on p o) on) e where
    by : (r : Option Refusal) → refusal_on (b os) o ≡ r → none r ≡ false → b (os ++ (o ∷ more)) ≡ b (os ++ more)
    by None k e = cc
    by (Some why) k e = lawful.refuses os o more why k

  pub idle : takes (b os) o ≡ false → b (os ++ (o ∷ more)) ≡ b (os ++ more)
  idle = idle_on (b os) refl

-- with no watch the ledger has the book's own pages
over_none : (n : ℕ) (p : Page) → page_over [] n p ≡ p
over_none n (live v w) = refl
over_none n (halted f) = refl

module _ (b : Book) (lawful : Lawful b) where
  data Bare : Ledger → Book → Type 0 where
    stopped : (t : List Order) (n : ℕ) (rows : List Row) (f : Fault) (d : Book) → ((more : List Order) → d more ≡ halted f) → Bare (led t n rows (Some f)) d
    going : (t : List Order) (n : ℕ) (rows : List Row) (d : Book) → ((more : List Order) → b (t ++ more) ≡ d more) → Bare (led t n rows None) d

  bare_page : (l : Ledger) (d : Book) → Bare l d → page_of [] b l ≡ d []
  bare_page _ _ (stopped t n rows f d e) = sym (e [])
  bare_page _ _ (going t n rows d e) = over_none n (b t) ∙ ap b (sym (append-nil t)) ∙ e []

  bare_enters : (t : List Order) (line : Values → Row) (n : ℕ) (rows : List Row) (d : Book) (p : Page) → b t ≡ p → ((more : List Order) → b (t ++ more) ≡ d more)
      → Bare (entered [] t line n rows p) d
  bare_enters t line n rows d (live v q) on e = going t (counted n (live v q)) (line v ∷ rows) d e
  bare_enters t line n rows d (halted f) on e = stopped t n rows f d (λ more. sym (e more) ∙ lawful.halts t f more on)

  bare_next : (l : Ledger) (d : Book) (o : Order) → Bare l d → Bare (ordered [] b l o) (after d o)
  bare_next _ _ o (stopped t n rows f d e) = stopped t n rows f (after d o) (λ more. e (o ∷ more))
  bare_next _ _ o (going t n rows d e) = by (takes (page_over [] n (b t)) o) (sym (ap (λ p. takes p o) (over_none n (b t)))) where
    by : (k : Bool) → takes (b t) o ≡ k → Bare (cond k (took [] b (led t n rows None) o) (led t n rows None)) (after d o)
    by false k = going t n rows (after d o) (λ more. sym (idle b lawful t o more k) ∙ e (o ∷ more))
    by true k = bare_enters (t ++ (o ∷ [])) (row_of (Some o)) n rows (after d o) (b (t ++ (o ∷ []))) refl (λ more. ap b (append_assoc t (o ∷ []) more) ∙ e (o ∷ more))

  bare_runs : (l : Ledger) (d : Book) → Bare l d → (os : List Order) → ledger_from [] b l os ≡ d os
  bare_runs l d x [] = bare_page l d x
  bare_runs l d x (o ∷ os) = bare_runs (ordered [] b l o) (after d o) (bare_next l d o x) os

  ledger_none : ledger [] b ≡ b
  ledger_none = fun_ext (bare_runs (started [] b) b (bare_enters [] (row_of None) 0 [] b (b []) refl (λ more. refl)))

piled_on : (vs ws : List Watcher) (b : Book) → pile_of ws (ledger vs b) ≡ ledger (vs ++ ws) b
piled_on vs [] b = ap (λ us. ledger us b) (sym (append-nil vs))
piled_on vs (w ∷ ws) b =
    ap (pile_of ws) (sym (nests vs w b))
    ∙ piled_on (vs ++ (w ∷ [])) ws b
    ∙ ap (λ us. ledger us b) (append_assoc vs (w ∷ []) ws)

pub piles : (ws : List Watcher) (b : Book) → Lawful b → pile_of ws b ≡ ledger ws b
piles ws b lawful = ap (pile_of ws) (sym (ledger_none b lawful)) ∙ piled_on [] ws b
