use Rattle.std.proofs.Common.{◌≡◌, ◌∷◌, ◌++◌, List, length, ℕ, sym, ap, ◌∙◌, ap₂, arith}
use Rattle.engine.specs.Books.{Book}
use Rattle.engine.specs.Calls.{replies, book_after_all}
use Rattle.script.specs.Orders.{order_of}
use Rattle.script.specs.Output.{Appended}
use Rattle.script.proofs.Writing.{appended_then, appended_same, remains_all, remains_less, remains_none}
use Rattle.transcript.specs.Log.{page_calls, shows_text, line_calls, rows_after, replies_text, orders_text}
use Rattle.transcript.proofs.log.put_log.Goals as goal

-- one more line: the book and the row number after it
one_more : (p q : Book) (row next : ℕ) (line : List ℕ) (later : List (List ℕ)) → q ≡ book_after_all p (line_calls (order_of line)) → next ≡ rows_after row (replies p (line_calls (order_of line)))
    → orders_text p row (line ∷ later) ≡ replies_text row (replies p (line_calls (order_of line))) ++ orders_text q next later
one_more p q row next line later moved counted = ap₂ (λ b n. replies_text row (replies p (line_calls (order_of line))) ++ orders_text b n later) (sym moved) (sym counted)

pub loop-line-init : goal.loop-line-init
loop-line-init g c = record { can = tt; finite = tt; writing = remains_all; few = omega (arith, ap length c.into_iter-line-iterator.ensures.into_iter_gives) }

pub loop-line-preserved : goal.loop-line-preserved
loop-line-preserved g c =
    let p = g.P.Engine.book c.loop-line.pile in
    let cut : c.loop-line.line-iterator ≡ c.in-Some.line.now ∷ c.next.new.self = c.in-Some.ensures.steps in
    let put = c.put_answer-row.ensures in
    record {
      can = tt;
      finite = tt;
      writing =
          remains_less (ap (orders_text p c.loop-line.row) cut ∙ one_more p _ c.loop-line.row _ c.in-Some.line.now c.next.new.self put.moved put.row)
          c.loop-line.invariant.writing put.wrote;
      few = let h = put.bound in let k = c.loop-line.invariant.few in omega (arith, ap length cut);
    }

pub returns : goal.returns
returns g c =
    let p = g.P.Engine.book c.args.pile.now in
    let q = g.P.Engine.book c.send-shown.new.pile in
    let stays : q ≡ p = c.send-shown.ensures.moved ∙ ap (book_after_all p) c.page.ensures in
    let told : c.send-shown.result ≡ replies p page_calls = c.send-shown.ensures.told ∙ ap (replies p) c.page.ensures in
    let shown : Appended c.put_bytes.new.self (shows_text (replies p page_calls)) c.put_line.new.self = rw told at c.put_line.ensures in
    let orders = remains_none (ap (orders_text (g.P.Engine.book c.loop-line.pile) c.loop-line.row) c.in-None.ensures.steps.0) c.loop-line.invariant.writing in
    let gives = ap₂ (λ (b : Book) (lines : List (List ℕ)). orders_text b 0 lines) stays c.into_iter-line-iterator.ensures.into_iter_gives in
    appended_then c.put_bytes.ensures (appended_then shown (appended_same gives orders))
