use Rattle.std.proofs.Common.{◌≡◌, ℕ, ◌≤◌, List, [], ◌∷◌, length, pos, refl, sym, ap, ◌∙◌, subst, ap₂, arith, length-drop}
use Rattle.grammar.specs.Reading.{Allowed, Refused}
use Rattle.rule.specs.declared.rule.Rule.{Rule}
use Rattle.rule.specs.Held.{Holds, rule_tree, watch_of}
use Rattle.ledger.specs.Ledger.{Watcher, carrying, ledger}
use Rattle.ledger.proofs.Nesting.{nests}
use Rattle.calendar.specs.Calendar.{reckoned}
use Rattle.watch.specs.Watching.{watcher}
use Rattle.fields.specs.Lines.{lines_of}
use Rattle.script.specs.Text.{rule_text}
use Rattle.script.proofs.Writing.{appended_same}
use Rattle.transcript.specs.Log.{log_text}
use Rattle.transcript.specs.Transcript.{too_long, first_refused, second_refused, logged}
use Rattle.transcript.proofs.Taking.{taken, parted, lines_few}
use Rattle.transcript.proofs.whole.put_transcript.Goals as goal

-- a rule that was read into a place is carried under the number of its watch
carried : (n : ℕ) (text : List ℕ) (u : Rule) → Holds (pos n) text u → watcher u ≡ carrying n (rule_tree u)
carried n text u h = ap (λ k. carrying k (rule_tree u)) (let e = h.watch in let z : watch_of u ≡ n = cc in z)

pub returns-then-input-gt-INPUT_LIMIT : goal.returns-then-input-gt-INPUT_LIMIT
returns-then-input-gt-INPUT_LIMIT c = (_, too_long c.if-input-gt-INPUT_LIMIT.true, c.put_bytes.ensures)

pub returns-in-Err : goal.returns-in-Err
returns-in-Err c =
    let lines = parted c.args.input.now c.new-lines.ensures (taken _ _ c.next.ensures.steps c.unwrap_or-first.ensures refl) (taken _ _ c.next-2.ensures.steps c.unwrap_or-second.ensures refl) in
    let e = c.in-Err.refusal in
    let refused = subst (λ text. Refused (pos 1) text e) lines.first c.in-Err.ensures.outcome.1 in
    (_, first_refused c.if-input-gt-INPUT_LIMIT.false e refused, appended_same (ap₂ (rule_text 1) c.number.ensures c.place.ensures) c.put_rule_refusal.ensures)

pub returns-in-Err-read : goal.returns-in-Err-read
returns-in-Err-read c =
    let lines = parted c.args.input.now c.new-lines.ensures (taken _ _ c.next.ensures.steps c.unwrap_or-first.ensures refl) (taken _ _ c.next-2.ensures.steps c.unwrap_or-second.ensures refl) in
    let e = c.in-Err-read.refusal in
    let holds = c.in_default.ensures.outcome in
    let allowed = subst (λ text. Allowed (pos 1) text holds.placed (rule_tree c.read.new.self)) lines.first holds.allowed in
    let refused = subst (λ text. Refused (pos 2) text e) lines.second c.in-Err-read.ensures.outcome.1 in (
      _,
      second_refused c.if-input-gt-INPUT_LIMIT.false holds.placed (rule_tree c.read.new.self) allowed e refused,
      appended_same (ap₂ (rule_text 2) c.number-in-Err-read.ensures c.place-in-Err-read.ensures) c.put_rule_refusal-in-Err-read.ensures,
    )

pub put_log-requires : goal.put_log-requires
put_log-requires c =
    let lines = parted c.args.input.now c.new-lines.ensures (taken _ _ c.next.ensures.steps c.unwrap_or-first.ensures refl) (taken _ _ c.next-2.ensures.steps c.unwrap_or-second.ensures refl) in
    let few = lines_few c.args.input.now in
    let limit : length c.args.input.now ≤ 60000 = c.if-input-gt-INPUT_LIMIT.false in
    omega (arith, ap length lines.rest, length-drop 2 (lines_of c.args.input.now))

pub returns : goal.returns
returns c =
    let lines = parted c.args.input.now c.new-lines.ensures (taken _ _ c.next.ensures.steps c.unwrap_or-first.ensures refl) (taken _ _ c.next-2.ensures.steps c.unwrap_or-second.ensures refl) in
    let inner = c.read.new.self in
    let outer = c.read-2.new.self in
    let first = c.in_default.ensures.outcome in
    let second = c.in_default-read.ensures.outcome in
    let allowed = subst (λ text. Allowed (pos 1) text first.placed (rule_tree inner)) lines.first first.allowed in
    let allowed₂ = subst (λ text. Allowed (pos 2) text second.placed (rule_tree outer)) lines.second second.allowed in
    let book =
    c.new-pile.ensures.as_ledger
    ∙ ap (ledger (watcher outer ∷ [])) (c.new-2.ensures.as_ledger ∙ ap (ledger (watcher inner ∷ [])) c.new.ensures.book)
    ∙ sym (nests (watcher inner ∷ []) (watcher outer) reckoned)
    ∙ ap₂ (λ (w v : Watcher). ledger (w ∷ v ∷ []) reckoned) (carried 1 _ inner first) (carried 2 _ outer second) in (
      _,
      logged c.if-input-gt-INPUT_LIMIT.false first.placed (rule_tree inner) allowed second.placed (rule_tree outer) allowed₂,
      appended_same (ap₂ log_text book lines.rest) c.put_log.ensures,
    )
