use Rattle.std.proofs.Common.{◌≡◌, [], ◌∷◌, Some, Ok, Err, sym, refl, ap, ◌∙◌, ap₂}
use Rattle.engine.specs.declared.answers.Fault.{Fault}
use Rattle.engine.specs.declared.answers.Refusal.{Refusal}
use Rattle.engine.specs.declared.answers.OrderError.TheVariants.{Refused, Halted}
use Rattle.engine.specs.Values.{row_of}
use Rattle.engine.specs.Books.{answer, foretold}
use Rattle.ledger.specs.Ledger.{Ledger, entered, halting, risen}
use Rattle.watch.specs.Tables.{count_of, rows_of}
use Rattle.watch.specs.Watching.{standing, watcher}
use Rattle.watch.proofs.Watches.{full_halted, given, not_filled, on_live}
use Rattle.watch.proofs.watch.orders.WatchEngine.give.Goals as goal

pub returns-in-Err-Halted : goal.returns-in-Err-Halted
returns-in-Err-Halted g c =
    let old = c.args.self.now in
    let b = g.E.Engine.book old.below in
    let h = c.halt.ensures in
    let f = c.in-Err-Halted.fault in
    let up : c.raised.result ≡ risen f = cc in
    let told : foretold b c.args.order ≡ Err (Halted f) = cc in
    let met = full_halted (watcher old.rule) b (count_of old.rows) (rows_of old.rows) c.args.order f told in
    let k = on_live g.E.Engine.book old c.halt.new.self c.args.order c.halt.result c.in_default.is b _ _ met
    (h.told ∙ ap (λ (e : Fault). Err (Halted e)) up) (ap g.E.Engine.book h.below) (ap₂ standing (h.fault ∙ ap Some up) h.rows) h.rule in
    record { told = k.told; moved = k.moved; done = k.obeyed }

pub returns-in-Err-Halted-ask : goal.returns-in-Err-Halted-ask
returns-in-Err-Halted-ask g c =
    let old = c.args.self.now in
    let b = g.E.Engine.book old.below in
    let h = c.halt-in-Err-Halted-ask.ensures in
    let a = c.ask.ensures in
    let f = c.in-Err-Halted-ask.fault in
    let up : c.raised-in-Err-Halted-ask.result ≡ risen f = cc in
    let came : Err (Halted f) ≡ answer b c.args.order = cc in
    let room = not_filled (count_of old.rows) c.is_full.ensures.fits (sym c.is_full.ensures.value ∙ c.if-is_full.false) in
    let met = given (watcher old.rule) b (count_of old.rows) (rows_of old.rows) c.args.order (g.E.Engine.lawful old.below) room
    (g.E.Engine.book c.ask.new.self.below) c.ask.ensures.moved (Err (Halted f)) came in
    let k = on_live g.E.Engine.book old c.halt-in-Err-Halted-ask.new.self c.args.order c.halt-in-Err-Halted-ask.result c.in_default.is _ _ _ met
    (h.told ∙ ap (λ (e : Fault). Err (Halted e)) up) (ap g.E.Engine.book h.below) (ap₂ standing (h.fault ∙ ap Some up) (h.rows ∙ a.rows)) (h.rule ∙ a.rule) in
    record { told = k.told; moved = k.moved; done = k.obeyed }

pub returns-in-Err-Refused : goal.returns-in-Err-Refused
returns-in-Err-Refused g c =
    let old = c.args.self.now in
    let b = g.E.Engine.book old.below in
    let why = c.in-Err-Refused.why in
    let came : Err (Refused why) ≡ answer b c.args.order = cc in
    let room = not_filled (count_of old.rows) c.is_full.ensures.fits (sym c.is_full.ensures.value ∙ c.if-is_full.false) in
    let met = given (watcher old.rule) b (count_of old.rows) (rows_of old.rows) c.args.order (g.E.Engine.lawful old.below) room
    (g.E.Engine.book c.ask.new.self.below) c.ask.ensures.moved (Err (Refused why)) came in
    let a = c.ask.ensures in
    let k = on_live g.E.Engine.book old c.ask.new.self c.args.order _ c.in_default.is _ _ _ met
    (ap (λ (w : Refusal). Err (Refused w)) c.in-Err-Refused.why-is) refl (ap₂ standing (a.fault ∙ c.in_default.is) a.rows) a.rule in
    record { told = k.told; moved = k.moved; done = k.obeyed }

pub returns-in-Ok-ask : goal.returns-in-Ok-ask
returns-in-Ok-ask g c =
    let old = c.args.self.now in
    let b = g.E.Engine.book old.below in
    let h = c.enter.ensures.entered in
    let a = c.ask.ensures in
    let p = g.E.Engine.book c.ask.new.self.below [] in
    let stands = h.stands ∙ ap₂ (λ u t. entered (watcher u ∷ []) [] (row_of (Some c.args.order)) (count_of t) (rows_of t) p) a.rule a.rows in
    let came : Ok tt ≡ answer b c.args.order = sym c.in-Ok-ask.is ∙ c.ask.ensures.told in
    let room = not_filled (count_of old.rows) c.is_full.ensures.fits (sym c.is_full.ensures.value ∙ c.if-is_full.false) in
    let met = given (watcher old.rule) b (count_of old.rows) (rows_of old.rows) c.args.order (g.E.Engine.lawful old.below) room
    (g.E.Engine.book c.ask.new.self.below) c.ask.ensures.moved (Ok tt) came in
    let k = on_live g.E.Engine.book old c.enter.new.self c.args.order c.enter.result c.in_default.is _ _ _ met
    (c.enter.ensures.told ∙ ap (λ (l : Ledger). halting l.fault) stands) (ap g.E.Engine.book h.below) stands (h.rule ∙ a.rule) in
    record { told = k.told; moved = k.moved; done = k.obeyed }
