use Rattle.std.proofs.Common.{◌≡◌, [], ◌∷◌, None, sym, ap, ◌∙◌, subst, length, reverse}
use Rattle.engine.specs.Books.{is_live}
use Rattle.engine.specs.Values.{row_of}
use Rattle.rule.specs.Held.{rule_tree}
use Rattle.matching.specs.Walk.{Told}
use Rattle.matching.specs.Passing.{PassesRule}
use Rattle.ledger.specs.Ledger.{Ledger, ledger, ledger_from, entered, started}
use Rattle.watch.specs.Watching.{standing, watcher, book_of, watch_rows}
use Rattle.watch.proofs.Watches.{enters_live}
use Rattle.watch.proofs.watch.Watch.new.Goals as goal

pub returns : goal.returns
returns g c =
    let w = c.enter.new.self in
    let h = c.enter.ensures.entered in
    let book = g.E.Engine.book in
    let rule = c.args.rule in
    let b = book c.args.engine in
    let stands : standing w.fault w.rows ≡ started (watcher rule ∷ []) b =
    h.stands ∙ ap (λ rows. entered (watcher rule ∷ []) [] (row_of None) (length rows) (reverse rows) (b [])) c.new.ensures in
    let same : book_of book w ≡ ledger (watcher rule ∷ []) b =
    ap (λ u. ledger_from (watcher u ∷ []) (book w.below) (standing w.fault w.rows)) h.rule
    ∙ ap (λ x. ledger_from (watcher rule ∷ []) (book x) (standing w.fault w.rows)) h.below
    ∙ ap (ledger_from (watcher rule ∷ []) b) stands in
    let rows = ap (λ (l : Ledger). l.rows) stands in
    record {
      as_ledger = same;
      rule = h.rule;
      below = h.below;
      rows = rows;
      passing = λ t.
          subst (λ p. Told (is_live p) (PassesRule (rule_tree rule) (watch_rows w))) (sym (ap (λ d. d []) same))
          (subst (λ rs. Told (is_live (ledger (watcher rule ∷ []) b [])) (PassesRule (rule_tree rule) rs)) (sym rows) (enters_live (watcher rule) (row_of None) 0 [] (b []) t));
    }
