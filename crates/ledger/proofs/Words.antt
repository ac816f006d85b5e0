-- What a ledger answers.
use Rattle.std.proofs.Common.{◌≡◌, ℕ, cond, List, [], ◌∷◌, ◌++◌, Some, None, Ok, Option, refl, ap, ◌∙◌, ap₂}
use Rattle.engine.specs.declared.Values.{Values}
use Rattle.engine.specs.declared.Row.{Row}
use Rattle.engine.specs.declared.orders.Order.{Order}
use Rattle.engine.specs.declared.answers.Fault.{Fault}
use Rattle.engine.specs.declared.answers.Refusal.{Refusal}
use Rattle.engine.specs.declared.answers.Refusal.TheVariants.{Full}
use Rattle.engine.specs.Values.{row_of}
use Rattle.engine.specs.Books.{Page, live, halted, Book, answer, answer_on, shown_on, refused_or, outcome, none, takes}
use Rattle.ledger.specs.Ledger.{Watcher, Ledger, ledger_from, counted, kept, faulted, took, page_of, page_over, unless, filled, verdict, halting}
use Rattle.ledger.specs.Theorems.{Says, LedgerSays}

-- a page that is come to is halted just where the ledger then has a fault
pub come_to : (ws : List Watcher) (line : Values → Row) (n : ℕ) (rows : List Row) (p : Page)
    → outcome (unless (faulted ws (counted n p) (kept line rows p) p) (page_over ws (counted n p) p)) ≡ halting (faulted ws (counted n p) (kept line rows p) p)
come_to ws line n rows (halted f) = refl
come_to ws line n rows (live v q) = by (verdict ws (counted n (live v q)) (line v ∷ rows)) where
  by : (fo : Option Fault) → outcome (unless fo (page_over ws (counted n (live v q)) (live v q))) ≡ halting fo
  by None = refl
  by (Some f) = refl

module _ (ws : List Watcher) (b : Book) (l : Ledger) where
  abbrev over : Page
  over = page_over ws l.count (b l.taken)

  module _ (v : Values) (w : Order → Option Refusal) (k : l.fault ≡ None) (on : b l.taken ≡ live v w) where
    page : page_of ws b l ≡ page_over ws l.count (live v w)
    page = ap₂ (λ fo p. unless fo (page_over ws l.count p)) k on

    on_order : (o : Order) → answer (ledger_from ws b l) o ≡ refused_or (cond (filled ws l.count) (Some Full) (w o)) (halting (took ws b l o).fault)
    on_order o =
        ap (λ p. answer_on p o (outcome (page_of ws b (cond (takes p o) (took ws b l o) l)))) page
        ∙ by (cond (filled ws l.count) (Some Full) (w o)) where
          by : (r : Option Refusal) → refused_or r (outcome (page_of ws b (cond (none r) (took ws b l o) l))) ≡ refused_or r (halting (took ws b l o).fault)
          by None = come_to ws (row_of (Some o)) l.count l.rows (b (l.taken ++ (o ∷ [])))
          by (Some why) = refl

  pub says : Says ws b l
  says = record {
    halted_order = λ f e o. ap (λ fo. answer_on (unless fo over) o (outcome (ledger_from ws b l (o ∷ [])))) e;
    halted_would = λ f e o. ap (λ fo. answer_on (unless fo over) o (Ok tt)) e;
    halted_show = λ f e c. ap (λ fo. shown_on (unless fo over) c) e;
    live_show = λ v w k on c. ap (λ p. shown_on p c) (page v w k on);
    live_would = λ v w k on o. ap (λ p. answer_on p o (Ok tt)) (page v w k on);
    live_order = λ v w k on o. on_order v w k on o;
  }

pub ledger_says : LedgerSays
ledger_says = says
