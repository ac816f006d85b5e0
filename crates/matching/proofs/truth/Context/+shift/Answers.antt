use Rattle.std.proofs.Common.{◌||◌, ◌≡◌, sym, ap, ◌∙◌, subst, arith, rules}
use Rattle.rule.specs.Summaries.{after}
use Rattle.rule.specs.Held.{summary_of}
use Rattle.matching.specs.Marks.{meets}
use Rattle.matching.specs.Passing.{Shifted}
use Rattle.matching.proofs.Shifts.{or_first, or_second, claims_at, parts_within, step_alternative, step_sequence, step_star}
use Rattle.matching.proofs.truth.Context.+shift.Goals as goal
use Rattle.matching.proofs.truth.Context.+shift.Goals.{then-entering, else-entering}

pub overflow_add-before : goal.overflow_add-before
overflow_add-before t c =
    let w = parts_within c.args.self.now.rule.now c.args.n c.in-Alternative.a c.in-Alternative.b c.args.others c.summary.result (ap claims_at c.in-Alternative.ensures.meaning) c.requires c.summary.ensures in
    search rules

pub shift-other-requires : goal.shift-other-requires
shift-other-requires t c =
    let w = parts_within c.args.self.now.rule.now c.args.n c.in-Alternative.a c.in-Alternative.b c.args.others c.summary.result (ap claims_at c.in-Alternative.ensures.meaning) c.requires c.summary.ensures in
    (omega (arith, c.decreases, c.in-Alternative.ensures.below), w.1)

pub returns-in-Alternative : goal.returns-in-Alternative
returns-in-Alternative t c =
    subst (Shifted c.args.self.now c.args.n c.args.others c.args.entering c.args.marks) (sym c.joined.ensures)
    (step_alternative c.args.self.now c.args.n c.args.others c.args.entering c.args.marks c.requires c.in-Alternative.a c.in-Alternative.b c.summary.result c.summary.ensures _ _
    c.shift-one.ensures c.in-Alternative.ensures.meaning c.shift-other.ensures)

pub overflow_add-before-in-Sequence : goal.overflow_add-before-in-Sequence
overflow_add-before-in-Sequence t c =
    let w = parts_within c.args.self.now.rule.now c.args.n c.in-Sequence.a c.in-Sequence.b c.args.others c.summary-first.result (ap claims_at c.in-Sequence.ensures.meaning) c.requires c.summary-first.ensures in
    search rules

pub shift-back-requires : goal.shift-back-requires
shift-back-requires t c =
    let w = parts_within c.args.self.now.rule.now c.args.n c.in-Sequence.a c.in-Sequence.b c.args.others c.summary-first.result (ap claims_at c.in-Sequence.ensures.meaning) c.requires c.summary-first.ensures in
    (omega (arith, c.decreases, c.in-Sequence.ensures.below), w.1)

pub returns-in-Sequence : goal.returns-in-Sequence
returns-in-Sequence t c =
    subst (Shifted c.args.self.now c.args.n c.args.others c.args.entering c.args.marks) (sym c.joined-in-Sequence.ensures)
    (step_sequence c.args.self.now c.args.n c.args.others c.args.entering c.args.marks c.requires c.in-Sequence.a c.in-Sequence.b c.summary-first.result c.summary-first.ensures _ _
    c.shift-front.ensures c.onward-entered.result c.in-Sequence.ensures.meaning c.onward-entered.ensures c.shift-back.ensures)

pub returns-after-entering : goal.returns-after-entering
returns-after-entering t c =
    let d : c.if-entering.entered ≡ (c.args.entering || meets c.args.marks (after c.args.others (summary_of c.args.self.now.rule.now c.in-Star.a).last)) =
    elim c.if-entering.branch [
      | then-entering w ↦ or_first _ w.entered-is w.if-entering.true
      | else-entering w ↦
          or_second _ (w.entered-is ∙ w.left-entered.ensures ∙ ap (λ s. meets c.args.marks (after c.args.others s.last)) w.summary-else-entering.ensures) w.if-entering.false
    ] in
    step_star c.args.self.now c.args.n c.args.others c.args.entering c.args.marks c.requires c.in-Star.a c.if-entering.entered _ c.in-Star.ensures.meaning d c.shift.ensures
