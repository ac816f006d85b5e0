-- What a verdict says of the rows, and where a fault comes from.
use Rattle.std.proofs.Common.{◌≡◌, ℕ, ◌+◌, ◌-◌, ◌≤◌, min, Bool, true, false, cond, T, List, [], ◌∷◌, length, Some, None, sym, refl, ap, ◌∙◌, arith}
use Rattle.engine.specs.declared.Row.{Row}
use Rattle.engine.specs.declared.answers.Fault.{Fault}
use Rattle.engine.specs.Books.{Page, halted}
use Rattle.matching.specs.Walk.{Told}
use Rattle.matching.specs.Passing.{PassesRule, tried, tried_told}
use Rattle.ledger.specs.Ledger.{Watcher, failed, verdict, risen, risen_over}
use Rattle.ledger.specs.Theorems.{PassEach, height, FromEngine, Innermost}

risen_watch : (ws : List Watcher) (f : Fault) → (risen_over ws f).watch ≡ f.watch
risen_watch [] f = refl
risen_watch (w ∷ ws) f = risen_watch ws (risen f)

risen_row : (ws : List Watcher) (f : Fault) → (risen_over ws f).row ≡ f.row
risen_row [] f = refl
risen_row (w ∷ ws) f = risen_row ws (risen f)

risen_rise : (ws : List Watcher) (f : Fault) → min 255 (risen_over ws f).rise ≡ min 255 (f.rise + height ws)
risen_rise [] f = omega arith
risen_rise (w ∷ ws) f = let k = risen_rise ws (risen f) in omega arith

risen_most : (ws : List Watcher) (f : Fault) → f.rise ≤ 255 → (risen_over ws f).rise ≤ 255
risen_most [] f h = h
risen_most (w ∷ ws) f h = risen_most ws (risen f) (omega arith)

pub from_engine : (ws : List Watcher) (p : Page) (g f : Fault) → p ≡ halted g → risen_over ws g ≡ f → FromEngine ws p f
from_engine ws p g f on k = record {
  fault = g;
  on = on;
  watch = sym (ap (λ (x : Fault). x.watch) k) ∙ risen_watch ws g;
  row = sym (ap (λ (x : Fault). x.row) k) ∙ risen_row ws g;
  rise = sym (ap (λ (x : Fault). min 255 x.rise) k) ∙ risen_rise ws g;
}

module _ (n : ℕ) (rows : List Row) where
  pub pass_none : (ws : List Watcher) → PassEach ws rows → verdict ws n rows ≡ None
  pass_none [] h = refl
  pass_none (w ∷ ws) h = by (tried w.tree rows) ((tried_told w.tree rows).1 h.0) (pass_none ws h.1) where
    by : (k : Bool) → T k → verdict ws n rows ≡ None → cond k (verdict ws n rows) (Some (risen_over ws (failed w n))) ≡ None
    by true t e = e
    by false t e = absurd t

  pub none_pass : (ws : List Watcher) → verdict ws n rows ≡ None → PassEach ws rows
  none_pass [] e = tt
  none_pass (w ∷ ws) e = by (tried w.tree rows) (tried_told w.tree rows) (none_pass ws) e where
    by : (k : Bool) → Told k (PassesRule w.tree rows) → (verdict ws n rows ≡ None → PassEach ws rows)
        → cond k (verdict ws n rows) (Some (risen_over ws (failed w n))) ≡ None → PassEach (w ∷ ws) rows
    by true told more e = (told.0 tt, more e)
    by false told more e = absurd (let z : ◌≡◌ {A = ℕ} 0 1 = cc in omega arith)

  pub innermost : 1 ≤ n → n ≡ length rows → (ws : List Watcher) (f : Fault) → verdict ws n rows ≡ Some f → Innermost ws rows f
  innermost some size [] f e = absurd (let z : ◌≡◌ {A = ℕ} 0 1 = cc in omega arith)
  innermost some size (w ∷ ws) f e = by (innermost some size ws f) (tried w.tree rows) (tried_told w.tree rows) e where
    by : (verdict ws n rows ≡ Some f → Innermost ws rows f) → (k : Bool) → Told k (PassesRule w.tree rows)
        → cond k (verdict ws n rows) (Some (risen_over ws (failed w n))) ≡ Some f → Innermost (w ∷ ws) rows f
    by more true told e =
        let i = more e in
        record { inner = w ∷ i.inner; failing = i.failing; above = i.above; split = ap (λ us. w ∷ us) i.split; pass = (told.0 tt, i.pass); fails = i.fails; watch = i.watch; row = i.row; rise = i.rise }
    by more false told e =
        let k : risen_over ws (failed w n) ≡ f = cc in
        let r : f.row ≡ n - 1 = sym (ap (λ (g : Fault). g.row) k) ∙ risen_row ws (failed w n) in
        let most = risen_most ws (failed w n) (omega arith) in
        let up = risen_rise ws (failed w n) in
        record {
          inner = [];
          failing = w;
          above = ws;
          split = refl;
          pass = tt;
          fails = told.1;
          watch = sym (ap (λ (g : Fault). g.watch) k) ∙ risen_watch ws (failed w n);
          row = omega arith;
          rise = sym (ap (λ (g : Fault). g.rise) k) ∙ (let z : (risen_over ws (failed w n)).rise ≡ min 255 (height ws) = omega arith in z);
        }
