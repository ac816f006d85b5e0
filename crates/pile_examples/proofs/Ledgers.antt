-- Ledgers of one watch over the reckoned calendar.
use Rattle.std.proofs.Common.{◌≡◌, ℕ, ◌+◌, ◌-◌, Bool, true, false, cond, not, ◌&&◌, T, List, [], ◌∷◌, pos, Some, None, codes, Option, sym, refl, ap, ◌∙◌, subst}
use Rattle.std.proofs.lemmas.Bool.{and_parts}
use Rattle.engine.specs.declared.Row.{Row}
use Rattle.engine.specs.declared.orders.Order.{Order}
use Rattle.engine.specs.declared.orders.Order.TheVariants.{Open, Turn}
use Rattle.engine.specs.declared.answers.Refusal.TheVariants.{Full}
use Rattle.engine.specs.Values.{row_of, values_in_range}
use Rattle.engine.specs.Books.{Page, live, Book, none, takes, is_live}
use Rattle.engine.specs.Mechanisms.{Mechanism, landed, why_not, page_at, book_from, value_ranged, mechanism_lawful}
use Rattle.grammar.specs.Tree.{Pattern, empty, claim}
use Rattle.matching.specs.Walk.{Told, told_one, null, passes, passes_sound, passes_complete}
use Rattle.matching.specs.Passing.{PassesRule, tested, tried, tried_told}
use Rattle.ledger.specs.Ledger.{Watcher, ledger_from, entered, failed, filled, page_over, unless}
use Rattle.ledger.specs.Theorems.{rows_from, rows_by}
use Rattle.ledger.proofs.Steps.{on_taken}
use Rattle.ledger.proofs.Laws.{every_pile}
use Rattle.calendar.specs.Months.{place, lengths}
use Rattle.calendar.specs.Calendar.{reckoning, reckoned, AllTaken}
use Rattle.pile_examples.specs.PileExamples.{watched, HaltsAt, PassesAfter, NeverHalts}
use Rattle.examples.specs.Examples.{ReadAs}
use Rattle.pile_examples.proofs.Texts.{reads_empty, unequal, reads_unequal, early, reads_early, onward, reads_onward}
use Rattle.pile_examples.proofs.Matches.{empty_passes}

-- whether rows pass a rule, as a test that computes
abbrev passing : Pattern → List Row → Bool
passing x [] = null x
passing x (newest ∷ older) = passes (tested newest) x (newest ∷ older)

passing_told : (x : Pattern) (rows : List Row) → Told (passing x rows) (PassesRule x rows)
passing_told x [] = (passes_sound (λ c r. false) x [], passes_complete (λ c r. false) x [])
passing_told x (newest ∷ older) = (passes_sound (tested newest) x (newest ∷ older), passes_complete (tested newest) x (newest ∷ older))

tried_passing : (x : Pattern) (rows : List Row) → tried x rows ≡ passing x rows
tried_passing x rows = told_one (PassesRule x rows) (tried x rows) (passing x rows) (tried_told x rows) (passing_told x rows)

-- the page over a watch that has so many rows, by whether they pass
abbrev judged : Watcher → ℕ → Page → Bool → Page
judged w count p pass = unless (cond pass None (Some (failed w count))) (page_over (w ∷ []) count p)

-- how many rows there are with n before the first order's page
abbrev row_count : ℕ → List Order → ℕ
row_count n [] = n + 1
row_count n (o ∷ os) = row_count (n + 1) os

module _ {S : Type 0} (m : Mechanism S) (w : Watcher) where
  -- the rows with that of a state reached by o; the ledger's book from there on, after n rows
  abbrev grown : S → Option Order → List Row → List Row
  grown s o rows = row_of o (m.shows s) ∷ rows

  abbrev from : S → Option Order → ℕ → List Row → Book
  from s o n rows = ledger_from (w ∷ []) (book_from m s) (entered (w ∷ []) [] (row_of o) n rows (page_at m s))

  -- the watch takes the order y there: its rule is passed, it is not full, and y leads on
  abbrev ready : S → Option Order → ℕ → List Row → Order → Bool
  ready s o n rows y = passing w.tree (grown s o rows) && not (filled (w ∷ []) (n + 1)) && none (why_not (m.leads s y))

  takes_ready : (s : S) (o : Option Order) (n : ℕ) (rows : List Row) (y : Order) → takes (from s o n rows []) y ≡ ready s o n rows y
  takes_ready s o n rows y =
      by (tried w.tree (grown s o rows)) (filled (w ∷ []) (n + 1))
      ∙ ap (λ k. k && not (filled (w ∷ []) (n + 1)) && none (why_not (m.leads s y))) (tried_passing w.tree (grown s o rows))
    where
      by : (pass full : Bool)
          → takes (unless (cond pass None (Some (failed w (n + 1)))) (live (m.shows s) (λ z. cond full (Some Full) (why_not (m.leads s z))))) y
          ≡ (pass && not full && none (why_not (m.leads s y)))
      by true true = refl
      by true false = refl
      by false full = refl

  -- it takes each of the orders
  abbrev all_ready : S → Option Order → ℕ → List Row → List Order → Bool
  all_ready s o n rows [] = true
  all_ready s o n rows (y ∷ os) = ready s o n rows y && all_ready (landed s (m.leads s y)) (Some y) (n + 1) (grown s o rows) os

  -- then the rows that they add decide on the page
  comes : (s : S) (o : Option Order) (n : ℕ) (rows : List Row) (os : List Order) → all_ready s o n rows os ≡ true
      → AllTaken (from s o n rows) os
      × (from s o n rows os ≡ judged w (row_count n os) (book_from m s os) (passing w.tree (rows_from (book_from m s) o rows os)))
  comes s o n rows [] e = (tt, ap (judged w (n + 1) (page_at m s)) (tried_passing w.tree (grown s o rows)))
  comes s o n rows (y ∷ os) e =
      let next = landed s (m.leads s y) in
      let both = and_parts (ready s o n rows y) (all_ready next (Some y) (n + 1) (grown s o rows) os) e in
      let taken = takes_ready s o n rows y ∙ both.0 in
      let on = on_taken (w ∷ []) (book_from m s) (n + 1) (grown s o rows) _ y taken in
      let rest = comes next (Some y) (n + 1) (grown s o rows) os both.1 in
      ((taken, subst (λ p. AllTaken p os) on rest.0), ap (λ (p : Book). p os) (sym on) ∙ rest.1)

-- the same for the watch of an example
abbrev watcher : ℕ → Pattern → Watcher
watcher w x = record { number = w; tree = x; room = 400 }

-- its number decides nothing
abbrev all_taken : Pattern → List Order → Bool
all_taken x os = all_ready reckoning (watcher 0 x) 1 None 0 [] os

page_after : (w : ℕ) (x : Pattern) (os : List Order) (pass : Bool) → all_taken x os ≡ true → passing x (rows_by reckoned os) ≡ pass
    → AllTaken (watched w x) os × (watched w x os ≡ judged (watcher w x) (row_count 0 os) (reckoned os) pass)
page_after w x os pass e f =
    let there = comes reckoning (watcher w x) 1 None 0 [] os e in
    (there.0, there.1 ∙ ap (judged (watcher w x) (row_count 0 os) (reckoned os)) f)

halts_at : (x : Pattern) (os : List Order) {text : List ℕ} → ReadAs x text → all_taken x os ≡ true → passing x (rows_by reckoned os) ≡ false
    → HaltsAt (row_count 0 os - 1) os text
halts_at x os reads e f w n = (x, (reads (pos w) n).0, (reads (pos w) n).1, page_after w x os false e f)

passes_after : (x : Pattern) (os : List Order) {text : List ℕ} → ReadAs x text → all_taken x os ≡ true → passing x (rows_by reckoned os) ≡ true
    → PassesAfter os text
passes_after x os reads e f w n =
    let there = page_after w x os true e f in
    let alive : T (is_live (watched w x os)) = subst (λ p. T (is_live p)) (sym there.1) tt in
    (x, (reads (pos w) n).0, (reads (pos w) n).1, (there.0, alive, (passing_told x (rows_by reckoned os)).0 (subst T (sym f) tt)))

pub third_day_halts : HaltsAt 2 (Turn ∷ Turn ∷ []) (codes "[c4 < 3]")
unfolding place lengths
third_day_halts = halts_at (claim early) (Turn ∷ Turn ∷ []) reads_early refl refl

pub missing_passes_first_row : PassesAfter [] (codes "[not c6 = 1]")
missing_passes_first_row = passes_after (claim unequal) [] reads_unequal refl refl

pub going_back_halts : HaltsAt 2 (Turn ∷ Open (pos 1) ∷ []) (codes "[op = 0] | [true].[c1 < c1']*.[op = 0]")
going_back_halts = halts_at onward (Turn ∷ Open (pos 1) ∷ []) reads_onward refl refl

pub first_open_passes : PassesAfter (Open (pos 1) ∷ []) (codes "[op = 0] | [true].[c1 < c1']*.[op = 0]")
first_open_passes = passes_after onward (Open (pos 1) ∷ []) reads_onward refl refl

-- each page of the calendar is live, and all rows pass `_`
ranged : (day : ℕ) → values_in_range (reckoning.shows day) ≡ true
ranged day = simp value_ranged

pub empty_never_halts : NeverHalts (codes "_")
empty_never_halts w n = (
  empty,
  (reads_empty (pos w) n).0,
  (reads_empty (pos w) n).1,
  λ os. ((every_pile (watcher w empty ∷ []) reckoned (watched w empty) (mechanism_lawful reckoning ranged 1) refl).lives os).1
      (λ beginning rest e. (tt, (empty_passes (rows_by reckoned beginning), tt))),
)
