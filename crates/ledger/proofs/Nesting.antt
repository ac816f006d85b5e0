-- The ledger of a list of watches and one more outside them is the ledger of that one over the ledger of the list.
use Rattle.std.proofs.Common.{◌≡◌, ℕ, ◌+◌, Bool, true, false, cond, ◌||◌, leb, List, [], ◌∷◌, ◌++◌, Some, None, Option, sym, refl, ap, ◌∙◌, subst}
use mathlib.Core.Path.{fun_ext}
use Rattle.engine.specs.declared.Values.{Values}
use Rattle.engine.specs.declared.Row.{Row}
use Rattle.engine.specs.declared.orders.Order.{Order}
use Rattle.engine.specs.declared.answers.Fault.{Fault}
use Rattle.engine.specs.declared.answers.Refusal.{Refusal}
use Rattle.engine.specs.declared.answers.Refusal.TheVariants.{Full}
use Rattle.engine.specs.Values.{row_of}
use Rattle.engine.specs.Books.{Page, live, halted, Book, none, takes}
use Rattle.matching.specs.Passing.{tried}
use Rattle.ledger.specs.Ledger.{Watcher, Ledger, ledger, ledger_from, started, entered, counted, kept, faulted, took, ordered, ran, page_of, page_over, unless, filled, failed, verdict, risen, risen_over}
use Rattle.ledger.specs.Lawfuls.{ran_append}
use Rattle.ledger.specs.Theorems.{Nests}
use Rattle.ledger.proofs.Steps.{led}

risen_snoc : (ws : List Watcher) (w : Watcher) (f : Fault) → risen_over (ws ++ (w ∷ [])) f ≡ risen (risen_over ws f)
risen_snoc [] w f = refl
risen_snoc (u ∷ ws) w f = risen_snoc ws w (risen f)

-- a fault of an inner watch, come up through one more, or else the verdict of that one
abbrev come_up : Option Fault → Option Fault → Option Fault
come_up None outer = outer
come_up (Some f) outer = Some (risen f)

verdict_snoc : (ws : List Watcher) (w : Watcher) (n : ℕ) (rows : List Row) → verdict (ws ++ (w ∷ [])) n rows ≡ come_up (verdict ws n rows) (verdict (w ∷ []) n rows)
verdict_snoc [] w n rows = refl
verdict_snoc (u ∷ ws) w n rows = by (verdict_snoc ws w n rows) (tried u.tree rows) where
  by : verdict (ws ++ (w ∷ [])) n rows ≡ come_up (verdict ws n rows) (verdict (w ∷ []) n rows) → (k : Bool)
      → cond k (verdict (ws ++ (w ∷ [])) n rows) (Some (risen_over (ws ++ (w ∷ [])) (failed u n)))
      ≡ come_up (cond k (verdict ws n rows) (Some (risen_over ws (failed u n)))) (verdict (w ∷ []) n rows)
  by more true = more
  by more false = ap Some (risen_snoc ws w (failed u n))

full_snoc : (ws : List Watcher) (w : Watcher) (n : ℕ) (x : Option Refusal)
    → cond (filled (ws ++ (w ∷ [])) n) (Some Full) x ≡ cond (filled (w ∷ []) n) (Some Full) (cond (filled ws n) (Some Full) x)
full_snoc [] w n x = refl
full_snoc (u ∷ ws) w n x = by (leb u.room n) (full_snoc ws w n x) (filled (w ∷ []) n) where
  by : (k : Bool) → cond (filled (ws ++ (w ∷ [])) n) (Some Full) x ≡ cond (filled (w ∷ []) n) (Some Full) (cond (filled ws n) (Some Full) x)
      → (outer : Bool) → cond (k || filled (ws ++ (w ∷ [])) n) (Some Full) x ≡ cond (filled (w ∷ []) n) (Some Full) (cond (k || filled ws n) (Some Full) x)
  by false more outer = more
  by true more outer = sym (either (filled (w ∷ []) n)) where
    either : (k : Bool) → cond k (Some Full) (Some Full) ≡ Some Full
    either true = refl
    either false = refl

over_snoc : (ws : List Watcher) (w : Watcher) (n : ℕ) (p : Page) → page_over (ws ++ (w ∷ [])) n p ≡ page_over (w ∷ []) n (page_over ws n p)
over_snoc ws w n (live v q) = ap (live v) (fun_ext (λ o. full_snoc ws w n (q o)))
over_snoc ws w n (halted f) = ap halted (risen_snoc ws w f)

-- what a watch takes, the page below takes
pub takes_below : (ws : List Watcher) (n : ℕ) (p : Page) (o : Order) → takes (page_over ws n p) o ≡ true → takes p o ≡ true
takes_below ws n (halted f) o e = e
takes_below ws n (live v q) o e = by (filled ws n) e where
  by : (k : Bool) → none (cond k (Some Full) (q o)) ≡ true → none (q o) ≡ true
  by true e = cc
  by false e = e

module _ (ws : List Watcher) (w : Watcher) (b : Book) where
  abbrev all : List Watcher
  all = ws ++ (w ∷ [])

  abbrev below : List Order → Ledger
  below t = ran ws b (started ws b) t

  abbrev under : Book
  under = ledger ws b

  -- the ledger of them all, beside that of the outermost over the ledger of the others
  data Beside : Ledger → Ledger → Type 0 where
    stopped : (t t₂ : List Order) (n n₂ : ℕ) (rows rows₂ : List Row) (f : Fault) → Beside (led t n rows (Some f)) (led t₂ n₂ rows₂ (Some f))
    going : (t t₂ : List Order) (n : ℕ) (rows : List Row) → below t₂ ≡ led t n rows None → Beside (led t n rows None) (led t₂ n rows None)

  page_same : (l m : Ledger) → Beside l m → page_of all b l ≡ page_of (w ∷ []) under m
  page_same _ _ (stopped t t₂ n n₂ rows rows₂ f) = refl
  page_same _ _ (going t t₂ n rows at) = over_snoc ws w n (b t) ∙ ap (λ l. page_over (w ∷ []) n (page_of ws b l)) (sym at)

  ends : (t t₂ : List Order) (n : ℕ) (rows : List Row) (fo : Option Fault) → below t₂ ≡ led t n rows None → Beside (led t n rows fo) (led t₂ n rows fo)
  ends t t₂ n rows None at = going t t₂ n rows at
  ends t t₂ n rows (Some f) at = stopped t t₂ n n rows rows f

  enters : (t t₂ : List Order) (line : Values → Row) (n : ℕ) (rows : List Row) (p : Page) → below t₂ ≡ entered ws t line n rows p
      → Beside (entered all t line n rows p) (entered (w ∷ []) t₂ line n rows (unless (faulted ws (counted n p) (kept line rows p) p) (page_over ws (counted n p) p)))
  enters t t₂ line n rows (halted f) at =
      subst (λ g. Beside (led t n rows (Some g)) (led t₂ n rows (Some (risen (risen_over ws f))))) (sym (risen_snoc ws w f)) (stopped _ _ _ _ _ _ _)
  enters t t₂ line n rows (live v q) at =
      subst (λ fo. Beside (led t (n + 1) (line v ∷ rows) fo) (entered (w ∷ []) t₂ line n rows (unless (verdict ws (n + 1) (line v ∷ rows)) (page_over ws (n + 1) (live v q)))))
      (sym (verdict_snoc ws w (n + 1) (line v ∷ rows)))
      (by (verdict ws (n + 1) (line v ∷ rows)) at) where
        by : (fo : Option Fault) → below t₂ ≡ led t (n + 1) (line v ∷ rows) fo
            → Beside (led t (n + 1) (line v ∷ rows) (come_up fo (verdict (w ∷ []) (n + 1) (line v ∷ rows)))) (entered (w ∷ []) t₂ line n rows (unless fo (page_over ws (n + 1) (live v q))))
        by None at = ends t t₂ (n + 1) (line v ∷ rows) (verdict (w ∷ []) (n + 1) (line v ∷ rows)) at
        by (Some f) at = stopped t t₂ (n + 1) n (line v ∷ rows) rows (risen f)

  next : (l m : Ledger) (o : Order) → Beside l m → Beside (ordered all b l o) (ordered (w ∷ []) under m o)
  next _ _ o (stopped t t₂ n n₂ rows rows₂ f) = stopped t t₂ n n₂ rows rows₂ f
  next _ _ o (going t t₂ n rows at) =
      subst (λ k. Beside (cond k (took all b (led t n rows None) o) (led t n rows None)) (ordered (w ∷ []) under (led t₂ n rows None) o))
      (sym (ap (λ p. takes p o) (page_same _ _ (going t t₂ n rows at))))
      (by (takes (page_of (w ∷ []) under (led t₂ n rows None)) o) refl) where
        by : (k : Bool) → takes (page_over (w ∷ []) n (under t₂)) o ≡ k
            → Beside (cond k (took all b (led t n rows None) o) (led t n rows None)) (cond k (took (w ∷ []) under (led t₂ n rows None) o) (led t₂ n rows None))
        by false e = going t t₂ n rows at
        by true e =
            let taken : takes (page_over ws n (b t)) o ≡ true = ap (λ (l : Ledger). takes (page_of ws b l) o) (sym at) ∙ takes_below (w ∷ []) n (under t₂) o e in
            let reach : below (t₂ ++ (o ∷ [])) ≡ took ws b (led t n rows None) o =
            ran_append ws b (started ws b) t₂ (o ∷ [])
            ∙ ap (λ l. ordered ws b l o) at
            ∙ ap (λ k. cond k (took ws b (led t n rows None) o) (led t n rows None)) taken in
            subst (λ l. Beside (took all b (led t n rows None) o) (entered (w ∷ []) (t₂ ++ (o ∷ [])) (row_of (Some o)) n rows (page_of ws b l)))
            (sym reach)
            (enters (t ++ (o ∷ [])) (t₂ ++ (o ∷ [])) (row_of (Some o)) n rows (b (t ++ (o ∷ []))) reach)

  runs : (l m : Ledger) → Beside l m → (os : List Order) → ledger_from all b l os ≡ ledger_from (w ∷ []) under m os
  runs l m beside [] = page_same l m beside
  runs l m beside (o ∷ os) = runs (ordered all b l o) (ordered (w ∷ []) under m o) (next l m o beside) os

  nested : ledger all b ≡ ledger (w ∷ []) under
  nested = fun_ext (runs (started all b) (started (w ∷ []) under) (enters [] [] (row_of None) 0 [] (b []) refl))

pub nests : Nests
nests = nested
