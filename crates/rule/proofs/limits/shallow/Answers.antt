use Rattle.std.proofs.Common.{◌≡◌, ℕ, ◌+◌, ◌≤◌, ap, arith, below_more}
use Rattle.grammar.specs.declared.Refusal.TheVariants.{TooDeep}
use Rattle.grammar.specs.declared.Tag.TheVariants as tags
use Rattle.grammar.specs.Limits.{opening, closing, Deep}
use Rattle.rule.specs.Stored.{symbols_of}
use Rattle.rule.proofs.Faults.{faulted_at}
use Rattle.rule.proofs.Bounds.{symbol_of, spot_at, tagged, stands_here, opens_none, closes_none, more}
use Rattle.rule.proofs.limits.shallow.Goals as goal
use Rattle.rule.proofs.limits.shallow.Goals.{in-LeftRound+else-saturating_sub-gt-DEPTH_LIMIT, in-RightRound, in_default}

pub returns-then-saturating_sub-gt-DEPTH_LIMIT : goal.returns-then-saturating_sub-gt-DEPTH_LIMIT
returns-then-saturating_sub-gt-DEPTH_LIMIT c =
    let l = c.loop-spot in
    let a = spot_at c.args.tokens.now c.spots-spot-items.ensures l.spot-index c.loop-spot-test.true in
    let is = tagged a tags.LeftRound c.in-LeftRound.is in
    faulted_at _ (ap TooDeep a.place) (record {
      deep = record {
        stands = stands_here a tags.LeftRound c.in-LeftRound.is;
        over = omega (arith, more a opening, more a closing, ap opening is, ap closing is, l.invariant.0, l.invariant.1, c.saturating_sub.ensures, c.if-saturating_sub-gt-DEPTH_LIMIT.true);
      };
      first = l.invariant.4;
    })

pub loop-spot-preserved : goal.loop-spot-preserved
loop-spot-preserved c =
    let l = c.loop-spot in
    let ts = symbols_of c.args.tokens.now in
    let a = spot_at c.args.tokens.now c.spots-spot-items.ensures l.spot-index c.loop-spot-test.true in
    let s = symbol_of ts l.spot-index in
    let o : c.match-spot.opened ≡ l.opened + opening s = elim c.match-spot.branch [
      | in-LeftRound+else-saturating_sub-gt-DEPTH_LIMIT w ↦ omega (arith, ap opening (tagged a tags.LeftRound w.in-LeftRound.is), w.opened-is)
      | in-RightRound w ↦ omega (arith, ap opening (tagged a tags.RightRound w.in-RightRound.is), w.opened-is)
      | in_default w ↦ omega (arith, opens_none a w.in_default.not-LeftRound, w.opened-is)
    ] in
    let k : c.match-spot.closed ≡ l.closed + closing s = elim c.match-spot.branch [
      | in-LeftRound+else-saturating_sub-gt-DEPTH_LIMIT w ↦ omega (arith, ap closing (tagged a tags.LeftRound w.in-LeftRound.is), w.closed-is)
      | in-RightRound w ↦ omega (arith, ap closing (tagged a tags.RightRound w.in-RightRound.is), w.closed-is)
      | in_default w ↦ omega (arith, closes_none a w.in_default.not-RightRound, w.closed-is)
    ] in
    let u : (c.match-spot.opened ≤ c.match-spot.closed + 16) × (c.match-spot.closed ≤ l.spot-index + 1) = elim c.match-spot.branch [
      | in-LeftRound+else-saturating_sub-gt-DEPTH_LIMIT w ↦ (omega (arith, w.opened-is, w.closed-is, w.saturating_sub.ensures, w.if-saturating_sub-gt-DEPTH_LIMIT.false), omega (arith, w.closed-is, l.invariant.3))
      | in-RightRound w ↦ (omega (arith, w.opened-is, w.closed-is, l.invariant.2), omega (arith, w.closed-is, l.invariant.3))
      | in_default w ↦ (omega (arith, w.opened-is, w.closed-is, l.invariant.2), omega (arith, w.closed-is, l.invariant.3))
    ] in
    let m = more a opening in
    let n = more a closing in (
      omega (arith, m, o, l.invariant.0),
      omega (arith, n, k, l.invariant.1),
      u.0,
      u.1,
      below_more (λ (j : ℕ). Deep ts j → ⊥) l.spot-index l.invariant.4 (λ d. omega (arith, d.over, m, n, o, k, l.invariant.0, l.invariant.1, u.0)),
    )
