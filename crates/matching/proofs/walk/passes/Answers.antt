use Rattle.std.specs.Iterator.Adapters.{rev_source}
use Rattle.std.specs.Slice.Iter.{iter_rest}
use Rattle.matching.proofs.Trials.{Turned, at_once, no_rows, begins, turn, run_out, ends, goes_on, is_lost}
use Rattle.matching.proofs.walk.passes.Goals as goal
use Rattle.matching.proofs.walk.passes.Goals.{After-left}

pub returns-then-whole : goal.returns-then-whole
returns-then-whole c = at_once c.args.rule.now c.args.rows.now _ c.root-root.ensures.value _ c.summary-whole.ensures c.if-whole.true

pub returns-in_default : goal.returns-in_default
returns-in_default c = no_rows c.args.rule.now c.args.rows.now _ c.root-root.ensures.value _ c.summary-whole.ensures c.if-whole.false c.in_default.ensures.3

pub loop-row-init : goal.loop-row-init
loop-row-init c =
    begins c.args.rule.now c.args.rows.now _ c.root-root.ensures.value _ c.summary-whole.ensures c.in-Some.newest.now
    c.if-whole.false c.in-Some.ensures.3.0 c.in-Some.ensures.1 (iter_rest (rev_source c.into_iter-row-iterator.result)) cc

turned : (c : After-left) → Turned c.args.rule.now c.args.rows.now c.in-Some.newest.now c.summary-whole.result c.shift-marks.result (iter_rest (rev_source c.next.new.self))
turned c =
    turn c.args.rule.now c.args.rows.now _ c.root-root.ensures.value _ c.summary-whole.ensures c.in-Some.newest.now
    _ _ _ _ _ _ c.loop-row.invariant c.in-Some-row.ensures.steps c.shift-marks.ensures

pub returns-then-left : goal.returns-then-left
returns-then-left c = ends (turned (goal.at.returns-then-left c).After-left) c.if-left.ensures

pub returns-then-marks-eq0 : goal.returns-then-marks-eq0
returns-then-marks-eq0 c = is_lost (turned (goal.at.returns-then-marks-eq0 c).After-left) c.if-left.ensures c.if-marks-eq0.true

pub loop-row-preserved : goal.loop-row-preserved
loop-row-preserved c = goes_on (turned (goal.at.loop-row-preserved c).After-left) c.if-left.ensures

pub returns : goal.returns
returns c = run_out c.loop-row.invariant c.in-None.ensures.steps.0
