-- One order on a watch, by what came from below.
use Rattle.std.proofs.Common.{◌≡◌, ℕ, Bool, true, false, cond, ◌||◌, ◌==◌, ◌≤◌, T, leb, List, [], ◌∷◌, Some, None, Ok, Err, Option, sym, refl, ap, ◌∙◌, subst, arith}
use Rattle.std.proofs.lemmas.Bool.Decides.{nat_tests}
use mathlib.Core.Path.{fun_ext}
use Rattle.engine.specs.declared.Values.{Values}
use Rattle.engine.specs.declared.Row.{Row}
use Rattle.engine.specs.declared.orders.Order.{Order}
use Rattle.engine.specs.declared.answers.Fault.{Fault}
use Rattle.engine.specs.declared.answers.Refusal.{Refusal}
use Rattle.engine.specs.declared.answers.Refusal.TheVariants.{Full}
use Rattle.engine.specs.declared.answers.OrderError.TheVariants.{Refused, Halted}
use Rattle.engine.specs.Values.{row_of}
use Rattle.engine.specs.Answers.{Answer}
use Rattle.engine.specs.Books.{Page, live, halted, Book, Lawful, after, answer, answer_on, foretold, refused_or, outcome, none, takes, is_live, refusal_on}
use Rattle.matching.specs.Walk.{Told}
use Rattle.matching.specs.Passing.{PassesRule, tried, tried_told}
use Rattle.ledger.specs.Ledger.{Watcher, Ledger, ledger_from, entered, counted, kept, faulted, took, ran, page_of, page_over, filled, failed, halting, risen}
use Rattle.ledger.specs.Lawfuls.{idle}
use Rattle.ledger.proofs.Steps.{led, on_taken, for_good}
use Rattle.ledger.proofs.Words.{come_to}
use Rattle.watch.specs.declared.watch.Watch.{Watch}
use Rattle.watch.specs.Tables.{rows_of}
use Rattle.watch.specs.Watching.{is_taken, standing, watcher, book_of, Obeyed}

answer_taken : (p : Page) (o : Order) (a : Answer) → takes p o ≡ true → answer_on p o a ≡ a
answer_taken (halted f) o a e = cc
answer_taken (live v w) o a e = by (w o) e where
  by : (r : Option Refusal) → none r ≡ true → refused_or r a ≡ a
  by None e = refl
  by (Some why) e = cc

or_false : (k : Bool) → (k || false) ≡ k
or_false true = refl
or_false false = refl

-- 400 rows fill a watch
pub not_filled : (n : ℕ) → n ≤ 400 → (n == 400) ≡ false → (leb 400 n || false) ≡ false
not_filled n within other = grind (arith, nat_tests)

untrue : (k : Bool) → k ≡ false → T k → ⊥
untrue true e t = absurd (let z : ◌≡◌ {A = ℕ} 0 1 = cc in omega arith)
untrue false e t = t

-- one watch that comes to a live page is taken on exactly when its rows pass
pub enters_told : (w : Watcher) (line : Values → Row) (n : ℕ) (rows : List Row) (p : Page) → T (is_live p)
    → Told (is_taken (halting (faulted (w ∷ []) (counted n p) (kept line rows p) p))) (PassesRule w.tree (kept line rows p))
enters_told w line n rows (halted f) t = absurd t
enters_told w line n rows (live v q) t = by (tried w.tree (line v ∷ rows)) (tried_told w.tree (line v ∷ rows)) where
  by : (k : Bool) → Told k (PassesRule w.tree (line v ∷ rows))
      → Told (is_taken (halting (cond k None (Some (failed w (counted n (live v q))))))) (PassesRule w.tree (line v ∷ rows))
  by true told = told
  by false told = told

live_taken : (p : Page) → is_taken (outcome p) ≡ is_live p
live_taken (live v q) = refl
live_taken (halted f) = refl

-- the same of the page that the watch then has
pub enters_live : (w : Watcher) (line : Values → Row) (n : ℕ) (rows : List Row) (p : Page) → T (is_live p)
    → Told (is_live (page_of (w ∷ []) (λ os. p) (entered (w ∷ []) [] line n rows p))) (PassesRule w.tree (kept line rows p))
enters_live w line n rows p t =
    subst (λ k. Told k (PassesRule w.tree (kept line rows p)))
    (sym (ap is_taken (come_to (w ∷ []) line n rows p)) ∙ live_taken (page_of (w ∷ []) (λ os. p) (entered (w ∷ []) [] line n rows p)))
    (enters_told w line n rows p t)

-- The engine below has the book b' once the watch has answered a, and the watch then stands as l.
pub record Met (w : Watcher) (b : Book) (here : Ledger) (o : Order) (b' : Book) (a : Answer) (l : Ledger) : Type 0 where
  pub told : a ≡ answer (ledger_from (w ∷ []) b here) o
  pub moved : ledger_from (w ∷ []) b' l ≡ after (ledger_from (w ∷ []) b here) o
  pub below : b' ≡ cond (takes (page_of (w ∷ []) b here) o) (after b o) b
  pub kept_rows : l.rows ≡ cond (takes (page_of (w ∷ []) b here) o) (kept (row_of (Some o)) here.rows (b (o ∷ []))) here.rows
  pub passing : T (takes (page_of (w ∷ []) b here) o) → T (is_live (b (o ∷ []))) → Told (is_taken a) (PassesRule w.tree l.rows)

module _ (w : Watcher) (b : Book) (n : ℕ) (rows : List Row) (o : Order) where
  abbrev ws : List Watcher
  ws = w ∷ []

  abbrev stood : Option Fault → Ledger
  stood f = led [] n rows f

  -- an order that is not taken
  not_met : (s : Option Fault) → takes (page_of ws b (stood s)) o ≡ false → (b' : Book) → b' ≡ b → (a : Answer) → a ≡ answer (ledger_from ws b (stood s)) o
      → (l : Ledger) → l.rows ≡ rows → ledger_from ws b' l ≡ after (ledger_from ws b (stood s)) o → Met w b (stood s) o b' a l
  not_met s e b' same a told l kept_same moved = record {
    told = told;
    moved = moved;
    below = same ∙ sym (ap (λ k. cond k (after b o) b) e);
    kept_rows = kept_same ∙ sym (ap (λ k. cond k (kept (row_of (Some o)) rows (b (o ∷ []))) rows) e);
    passing = λ t h. absurd (untrue (takes (page_of ws b (stood s)) o) e t);
  }

  -- the same where the watch stays as it is
  idle_met : (s : Option Fault) → takes (page_of ws b (stood s)) o ≡ false → (b' : Book) → b' ≡ b → (a : Answer) → a ≡ answer (ledger_from ws b (stood s)) o
      → Met w b (stood s) o b' a (stood s)
  idle_met s e b' same a told =
      not_met s e b' same a told (stood s) refl
      (ap (λ d. ledger_from ws d (stood s)) same ∙ fun_ext (λ os. sym (ap (λ l. page_of ws b (ran ws b l os)) (idle ws b (stood s) o e))))

  -- over a halted page the watch halts too
  halted_met : (f : Fault) → b [] ≡ halted f → (b' : Book) → b' ≡ b → Met w b (stood None) o b' (Err (Halted (risen f))) (led [] n rows (Some (risen f)))
  halted_met f on b' same =
      let page : page_of ws b (stood None) ≡ halted (risen f) = ap (page_over ws n) on in
      not_met None (ap (λ p. takes p o) page) b' same (Err (Halted (risen f)))
      (sym (ap (λ p. answer_on p o (outcome (ledger_from ws b (stood None) (o ∷ [])))) page))
      (led [] n rows (Some (risen f))) refl
      (for_good ws b' (led [] n rows (Some (risen f))) (risen f) refl ∙ sym (ap (λ (d : Book). after d o) (for_good ws b (stood None) (risen f) page)))

  -- an order that is taken
  taken_met : takes (page_of ws b (stood None)) o ≡ true
      → Met w b (stood None) o (after b o) (halting (entered ws [] (row_of (Some o)) n rows (b (o ∷ []))).fault) (entered ws [] (row_of (Some o)) n rows (b (o ∷ [])))
  taken_met e = record {
    told = sym (answer_taken (page_of ws b (stood None)) o (outcome (ledger_from ws b (stood None) (o ∷ []))) e
        ∙ ap (λ k. outcome (page_of ws b (cond k (took ws b (stood None) o) (stood None)))) e
        ∙ come_to ws (row_of (Some o)) n rows (b (o ∷ [])));
    moved = on_taken ws b n rows None o e;
    below = sym (ap (λ k. cond k (after b o) b) e);
    kept_rows = sym (ap (λ k. cond k (kept (row_of (Some o)) rows (b (o ∷ []))) rows) e);
    passing = λ t h. enters_told w (row_of (Some o)) n rows (b (o ∷ [])) h;
  }

  -- a watch that has halted answers by its fault
  pub still_met : (f : Fault) → Met w b (stood (Some f)) o b (Err (Halted f)) (stood (Some f))
  still_met f = idle_met (Some f) refl b refl (Err (Halted f)) refl

  -- a full watch is told whether the engine below has halted, and refuses the order if it has not
  pub full_halted : (f : Fault) → foretold b o ≡ Err (Halted f) → Met w b (stood None) o b (Err (Halted (risen f))) (led [] n rows (Some (risen f)))
  full_halted f told = halted_met f (by (b []) told) b refl where
    by : (p : Page) → answer_on p o (Ok tt) ≡ Err (Halted f) → p ≡ halted f
    by (halted g) e = cc
    by (live v q) e = absurd (never (q o) e) where
      never : (r : Option Refusal) → refused_or r (Ok tt) ≡ Err (Halted f) → ⊥
      never None e = let z : ◌≡◌ {A = ℕ} 0 1 = cc in omega arith
      never (Some why) e = let z : ◌≡◌ {A = ℕ} 0 1 = cc in omega arith

  pub full_refused : filled ws n ≡ true → (T (is_live (b []))) → Met w b (stood None) o b (Err (Refused Full)) (stood None)
  full_refused full lives = by (b []) refl lives where
    by : (p : Page) → b [] ≡ p → T (is_live p) → Met w b (stood None) o b (Err (Refused Full)) (stood None)
    by (halted f) on t = absurd t
    by (live v q) on t =
        let page : page_of ws b (stood None) ≡ live v (λ x. Some Full) = ap (page_over ws n) on ∙ ap (λ k. live v (λ x. cond k (Some Full) (q x))) full in
        idle_met None (ap (λ p. takes p o) page) b refl (Err (Refused Full)) (sym (ap (λ p. answer_on p o (outcome (ledger_from ws b (stood None) (o ∷ [])))) page))

  -- What a watch answers and how it stands then, by the answer from below and the page below.
  abbrev pub up : Answer → Page → Answer
  up (Err (Refused why)) p = Err (Refused why)
  up (Err (Halted f)) p = Err (Halted (risen f))
  up (Ok x) p = halting (entered ws [] (row_of (Some o)) n rows p).fault

  abbrev pub next : Answer → Page → Ledger
  next (Err (Refused why)) p = stood None
  next (Err (Halted f)) p = led [] n rows (Some (risen f))
  next (Ok x) p = entered ws [] (row_of (Some o)) n rows p

  -- an order that is taken below leads to a live or a halted page, and both come up alike
  outcome_met : Met w b (stood None) o (after b o) (halting (entered ws [] (row_of (Some o)) n rows (b (o ∷ []))).fault) (entered ws [] (row_of (Some o)) n rows (b (o ∷ [])))
      → Met w b (stood None) o (after b o) (up (outcome (b (o ∷ []))) (b (o ∷ []))) (next (outcome (b (o ∷ []))) (b (o ∷ [])))
  outcome_met m = by (b (o ∷ [])) m where
    by : (p : Page) → Met w b (stood None) o (after b o) (halting (entered ws [] (row_of (Some o)) n rows p).fault) (entered ws [] (row_of (Some o)) n rows p)
        → Met w b (stood None) o (after b o) (up (outcome p) p) (next (outcome p) p)
    by (live v q) m = m
    by (halted f) m = m

  given_met : Lawful b → filled ws n ≡ false → (p : Page) → b [] ≡ p
      → Met w b (stood None) o (after b o) (up (answer_on p o (outcome (b (o ∷ [])))) (b (o ∷ []))) (next (answer_on p o (outcome (b (o ∷ [])))) (b (o ∷ [])))
  given_met lawful room (halted f) on = halted_met f on (after b o) (fun_ext (λ os. lawful.halts [] f (o ∷ os) on ∙ sym (lawful.halts [] f os on)))
  given_met lawful room (live v q) on = by (q o) (ap (λ p. refusal_on p o) on) (ap (λ p. takes p o) page) (ap (λ p. answer_on p o (outcome (ledger_from ws b (stood None) (o ∷ [])))) page) where
    page : page_of ws b (stood None) ≡ live v q
    page = ap (page_over ws n) on ∙ ap (λ k. live v (λ x. cond k (Some Full) (q x))) room

    by : (r : Option Refusal) → refusal_on (b []) o ≡ r → takes (page_of ws b (stood None)) o ≡ none r
        → answer (ledger_from ws b (stood None)) o ≡ refused_or r (outcome (ledger_from ws b (stood None) (o ∷ [])))
        → Met w b (stood None) o (after b o) (up (refused_or r (outcome (b (o ∷ [])))) (b (o ∷ []))) (next (refused_or r (outcome (b (o ∷ [])))) (b (o ∷ [])))
    by None below taken told = outcome_met (taken_met taken)
    by (Some why) below taken told = idle_met None taken (after b o) (fun_ext (λ os. lawful.refuses [] o os why below)) (Err (Refused why)) (sym told)

  -- what came from below when it was given the order, and what comes of it
  pub given : Lawful b → filled ws n ≡ false → (b' : Book) → b' ≡ after b o → (came : Answer) → came ≡ answer b o
      → Met w b (stood None) o b' (up came (b' [])) (next came (b' []))
  given lawful room b' moved came e =
      subst (λ (d : Book). Met w b (stood None) o d (up came (d [])) (next came (d []))) (sym moved)
      (subst (λ x. Met w b (stood None) o (after b o) (up x (b (o ∷ []))) (next x (b (o ∷ [])))) (sym e) (given_met lawful room (b []) refl))

-- The same of a watch, once its fields are known.
module _ {E : Type 0} (book : E → Book) (old new : Watch E) (o : Order) (a : Answer) where
  pub record Contract : Type 0 where
    pub told : a ≡ answer (book_of book old) o
    pub moved : book_of book new ≡ after (book_of book old) o
    pub obeyed : Obeyed book old new o a

  pub finish : (b' : Book) (a' : Answer) (l : Ledger) → Met (watcher old.rule) (book old.below) (standing old.fault old.rows) o b' a' l
      → a ≡ a' → book new.below ≡ b' → standing new.fault new.rows ≡ l → new.rule ≡ old.rule → Contract
  finish b' a' l m said below stands rule = record {
    told = said ∙ m.told;
    moved =
        ap (λ u. ledger_from (watcher u ∷ []) (book new.below) (standing new.fault new.rows)) rule
        ∙ ap (λ d. ledger_from (watcher old.rule ∷ []) d (standing new.fault new.rows)) below
        ∙ ap (ledger_from (watcher old.rule ∷ []) b') stands
        ∙ m.moved;
    obeyed = record {
      rule = rule;
      below = below ∙ m.below;
      rows = ap (λ (k : Ledger). k.rows) stands ∙ m.kept_rows;
      passing = λ t h.
          subst (λ x. Told (is_taken x) (PassesRule (watcher old.rule).tree (rows_of new.rows))) (sym said)
          (subst (λ rs. Told (is_taken a') (PassesRule (watcher old.rule).tree rs)) (sym (ap (λ (k : Ledger). k.rows) stands)) (m.passing t h));
    };
  }

  -- the same of a watch that was live
  pub on_live : old.fault ≡ None → (b' : Book) (a' : Answer) (l : Ledger)
      → Met (watcher old.rule) (book old.below) (standing None old.rows) o b' a' l
      → a ≡ a' → book new.below ≡ b' → standing new.fault new.rows ≡ l → new.rule ≡ old.rule → Contract
  on_live same b' a' l m = finish b' a' l (subst (λ f. Met (watcher old.rule) (book old.below) (standing f old.rows) o b' a' l) (sym same) m)
