-- The same watches in another order change the watch and the rise of a fault, and nothing else.
use Rattle.std.proofs.Common.{◌≡◌, ℕ, ◌+◌, ◌-◌, Bool, true, false, cond, ◌||◌, leb, List, [], ◌∷◌, ◌++◌, Some, None, Option, sym, refl, ap, ◌∙◌, subst, ap₂, arith}
use mathlib.Core.List.{Permᴰ}
use Rattle.engine.specs.declared.Values.{Values}
use Rattle.engine.specs.declared.Row.{Row}
use Rattle.engine.specs.declared.orders.Order.{Order}
use Rattle.engine.specs.declared.answers.Fault.{Fault}
use Rattle.engine.specs.declared.answers.Refusal.TheVariants.{Full}
use Rattle.engine.specs.Values.{row_of}
use Rattle.engine.specs.Books.{Page, live, halted, Book, Lawful, takes}
use Rattle.engine.specs.Calls.{Alike, fault_aside, page_aside}
use Rattle.matching.specs.Passing.{tried}
use Rattle.ledger.specs.Ledger.{Watcher, Ledger, ledger, ledger_from, pile_of, started, entered, took, ordered, page_of, page_over, filled, failed, verdict, risen, risen_over}
use Rattle.ledger.proofs.Steps.{led}
use Rattle.ledger.proofs.Piling.{piles}
use Rattle.ledger.proofs.Alikes.{takes_aside}

-- whether the rows pass every rule: that alone says whether there is a fault, and at which row
abbrev pass_all : List Watcher → List Row → Bool
pass_all [] rows = true
pass_all (w ∷ ws) rows = cond (tried w.tree rows) (pass_all ws rows) false

abbrev aside : Option Fault → Option Fault
aside None = None
aside (Some f) = Some (fault_aside f)

abbrev at_row : ℕ → Fault
at_row n = record { watch = 0; row = n; rise = 0 }

risen_aside : (ws : List Watcher) (f : Fault) → fault_aside (risen_over ws f) ≡ fault_aside f
risen_aside [] f = refl
risen_aside (w ∷ ws) f = risen_aside ws (risen f)

verdict_aside : (ws : List Watcher) (n : ℕ) (rows : List Row) → aside (verdict ws n rows) ≡ cond (pass_all ws rows) None (Some (at_row (n - 1)))
verdict_aside [] n rows = refl
verdict_aside (w ∷ ws) n rows = by (verdict_aside ws n rows) (tried w.tree rows) where
  by : aside (verdict ws n rows) ≡ cond (pass_all ws rows) None (Some (at_row (n - 1))) → (k : Bool)
      → aside (cond k (verdict ws n rows) (Some (risen_over ws (failed w n)))) ≡ cond (cond k (pass_all ws rows) false) None (Some (at_row (n - 1)))
  by more true = more
  by more false = ap Some (risen_aside ws (failed w n))

swapped_and : (x y z : Bool) → cond x (cond y z false) false ≡ cond y (cond x z false) false
swapped_and true true z = refl
swapped_and true false z = refl
swapped_and false true z = refl
swapped_and false false z = refl

swapped_or : (x y z : Bool) → (x || (y || z)) ≡ (y || (x || z))
swapped_or true true z = refl
swapped_or true false z = refl
swapped_or false true z = refl
swapped_or false false z = refl

pass_perm : (rows : List Row) {ws vs : List Watcher} → Permᴰ ws vs → pass_all ws rows ≡ pass_all vs rows
pass_perm rows Permᴰ.nil = refl
pass_perm rows (Permᴰ.cons e d) = ap₂ (λ (x : Watcher) y. cond (tried x.tree rows) y false) e (pass_perm rows d)
pass_perm rows (Permᴰ.swap {a = a} {b = b} {l = l} e k) =
    swapped_and (tried a.tree rows) (tried b.tree rows) (pass_all l rows)
    ∙ ap₂ (λ (x y : Watcher). cond (tried x.tree rows) (cond (tried y.tree rows) (pass_all l rows) false) false) k e
pass_perm rows (Permᴰ.trans d h) = pass_perm rows d ∙ pass_perm rows h

filled_perm : (n : ℕ) {ws vs : List Watcher} → Permᴰ ws vs → filled ws n ≡ filled vs n
filled_perm n Permᴰ.nil = refl
filled_perm n (Permᴰ.cons e d) = ap₂ (λ (x : Watcher) y. leb x.room n || y) e (filled_perm n d)
filled_perm n (Permᴰ.swap {a = a} {b = b} {l = l} e k) =
    swapped_or (leb a.room n) (leb b.room n) (filled l n)
    ∙ ap₂ (λ (x y : Watcher). leb x.room n || (leb y.room n || filled l n)) k e
filled_perm n (Permᴰ.trans d h) = filled_perm n d ∙ filled_perm n h

module _ (ws vs : List Watcher) (perm : Permᴰ ws vs) (b : Book) where
  data Same : Ledger → Ledger → Type 0 where
    going : (t : List Order) (n : ℕ) (rows : List Row) → Same (led t n rows None) (led t n rows None)
    stopped : (t t₂ : List Order) (n n₂ : ℕ) (rows rows₂ : List Row) (f g : Fault) → fault_aside f ≡ fault_aside g → Same (led t n rows (Some f)) (led t₂ n₂ rows₂ (Some g))

  over_same : (n : ℕ) (p : Page) → page_aside (page_over ws n p) ≡ page_aside (page_over vs n p)
  over_same n (live v q) = ap (λ k. live v (λ o. cond k (Some Full) (q o))) (filled_perm n perm)
  over_same n (halted f) = ap halted (risen_aside ws f ∙ sym (risen_aside vs f))

  page_same : (l m : Ledger) → Same l m → page_aside (page_of ws b l) ≡ page_aside (page_of vs b m)
  page_same _ _ (going t n rows) = over_same n (b t)
  page_same _ _ (stopped t t₂ n n₂ rows rows₂ f g e) = ap halted e

  by_fault : (t : List Order) (n : ℕ) (rows : List Row) (fo go : Option Fault) → aside fo ≡ aside go → Same (led t n rows fo) (led t n rows go)
  by_fault t n rows None None e = going t n rows
  by_fault t n rows None (Some g) e = absurd (let z : ◌≡◌ {A = ℕ} 0 1 = cc in omega arith)
  by_fault t n rows (Some f) None e = absurd (let z : ◌≡◌ {A = ℕ} 0 1 = cc in omega arith)
  by_fault t n rows (Some f) (Some g) e = stopped t t n n rows rows f g (cc)

  enters : (t : List Order) (line : Values → Row) (n : ℕ) (rows : List Row) (p : Page) → Same (entered ws t line n rows p) (entered vs t line n rows p)
  enters t line n rows (halted f) = stopped t t n n rows rows _ _ (risen_aside ws f ∙ sym (risen_aside vs f))
  enters t line n rows (live v q) =
      by_fault t (n + 1) (line v ∷ rows) (verdict ws (n + 1) (line v ∷ rows)) (verdict vs (n + 1) (line v ∷ rows))
      (verdict_aside ws (n + 1) (line v ∷ rows)
      ∙ ap (λ k. cond k None (Some (at_row (n + 1 - 1)))) (pass_perm (line v ∷ rows) perm)
      ∙ sym (verdict_aside vs (n + 1) (line v ∷ rows)))

  takes_same : (n : ℕ) (p : Page) (o : Order) → takes (page_over ws n p) o ≡ takes (page_over vs n p) o
  takes_same n p o = takes_aside (page_over ws n p) o ∙ ap (λ q. takes q o) (over_same n p) ∙ sym (takes_aside (page_over vs n p) o)

  step : (l m : Ledger) (o : Order) → Same l m → Same (ordered ws b l o) (ordered vs b m o)
  step _ _ o (stopped t t₂ n n₂ rows rows₂ f g e) = stopped t t₂ n n₂ rows rows₂ f g e
  step _ _ o (going t n rows) =
      subst (λ k. Same (ordered ws b (led t n rows None) o) (cond k (took vs b (led t n rows None) o) (led t n rows None)))
      (takes_same n (b t) o)
      (by (takes (page_over ws n (b t)) o)) where
        by : (k : Bool) → Same (cond k (took ws b (led t n rows None) o) (led t n rows None)) (cond k (took vs b (led t n rows None) o) (led t n rows None))
        by true = enters (t ++ (o ∷ [])) (row_of (Some o)) n rows (b (t ++ (o ∷ [])))
        by false = going t n rows

  runs : (l m : Ledger) → Same l m → Alike (ledger_from ws b l) (ledger_from vs b m)
  runs l m same [] = page_same l m same
  runs l m same (o ∷ os) = runs (ordered ws b l o) (ordered vs b m o) (step l m o same) os

  ledgers_alike : Alike (ledger ws b) (ledger vs b)
  ledgers_alike = runs (started ws b) (started vs b) (enters [] (row_of None) 0 [] (b []))

pub any_order : (ws vs : List Watcher) (b : Book) → Lawful b → Permᴰ ws vs → Alike (ledger ws b) (pile_of vs b)
any_order ws vs b lawful perm os =
    ledgers_alike ws vs perm b os
    ∙ sym (ap (λ (d : Book). page_aside (d os)) (piles vs b lawful))
