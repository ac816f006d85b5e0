use Rattle.std.proofs.Common.{ap, arith, rules}
use Rattle.grammar.specs.declared.Refusal.TheVariants.{TooManyClaims}
use Rattle.grammar.specs.declared.Tag.TheVariants as tags
use Rattle.grammar.specs.Limits.{claiming}
use Rattle.rule.proofs.Faults.{faulted_at}
use Rattle.rule.proofs.Bounds.{spot_at, tagged, stands_here, claims_none, more}
use Rattle.rule.proofs.limits.uncrowded.Goals as goal
use Rattle.rule.proofs.limits.uncrowded.Goals.{then-eq+else-claims-eq-CLAIM_LIMIT, else-eq}

pub returns-then-claims-eq-CLAIM_LIMIT : goal.returns-then-claims-eq-CLAIM_LIMIT
returns-then-claims-eq-CLAIM_LIMIT c =
    let a = spot_at c.args.tokens.now c.spots-spot-items.ensures c.loop-spot.spot-index c.loop-spot-test.true in
    faulted_at _ (ap TooManyClaims a.place) (record { stands = stands_here a tags.LeftSquare (search rules); before = omega (arith, c.loop-spot.invariant.0, c.if-claims-eq-CLAIM_LIMIT.true) })

pub loop-spot-preserved : goal.loop-spot-preserved
loop-spot-preserved c =
    let a = spot_at c.args.tokens.now c.spots-spot-items.ensures c.loop-spot.spot-index c.loop-spot-test.true in
    let m = more a claiming in
    elim c.if-eq.branch [
      | then-eq+else-claims-eq-CLAIM_LIMIT w ↦
          let e = ap claiming (tagged a tags.LeftSquare (search rules)) in (omega (arith, m, e, c.loop-spot.invariant.0), omega arith)
      | else-eq w ↦
          let e = claims_none a (search rules) in (omega (arith, m, e, c.loop-spot.invariant.0), omega arith)
    ]
