use Rattle.std.proofs.Common.{◌+◌, [], drop, Err, refl, ap, ◌∙◌, subst, arith}
use Rattle.std.proofs.lemmas.Result.{err_from_is_err_and}
use Rattle.grammar.specs.declared.Tag.TheVariants as tags
use Rattle.grammar.specs.Symbol.{LeftRound, LeftSquare, Star, Dot, Bar}
use Rattle.grammar.specs.Tree.{claim as claim_pattern, alternative, sequence, star}
use Rattle.rule.specs.declared.reader.Reader.{Reader}
use Rattle.rule.specs.Trees.{as_pattern, as_claim}
use Rattle.rule.specs.Built.{nodes_of}
use Rattle.rule.specs.Readers.{symbols_in, Lacks, Stepped, Expected, ClaimFails, BaseEnds}
use Rattle.rule.proofs.ClaimSteps.{claim_closed, claim_cut}
use Rattle.rule.proofs.Steps.{base_blank, base_stops, base_unclosed, base_square, base_unsquare, piece_more, chain_more, rule_more}
use Rattle.rule.proofs.Joins.{next, made_on, fails_on, leaf_read, wrap_read, joined, ended, lacks_in, wanted, ends_at}
use Rattle.rule.proofs.reader.Reader.+patterns.Goals as goal

pub chain-loop-self-preserved : goal.chain-loop-self-preserved
chain-loop-self-preserved t c =
    let o = c.args.self.now in
    joined as_pattern as_pattern as_pattern sequence c.loop-self.invariant c.loop-self-test.ensures.1 c.in_ok-right.ensures c.add-left.ensures (λ us. refl) (λ x y. chain_more (symbols_in o) o.at _ _ x y)

pub chain-returns : goal.chain-returns
chain-returns t c =
    let e = c.loop-self-test.ensures in
    ended c.loop-self.invariant e.0 (λ x s. record { so_far = s; over = lacks_in c.args.self.now c.loop-self.self c.loop-self.invariant.tokens Dot (e.1 0) })

pub rule-loop-self-preserved : goal.rule-loop-self-preserved
rule-loop-self-preserved t c =
    let o = c.args.self.now in
    joined as_pattern as_pattern as_pattern alternative c.loop-self.invariant c.loop-self-test.ensures.1 c.in_ok-right.ensures c.add-left.ensures (λ us. refl) (λ x y. rule_more (symbols_in o) o.at _ _ x y)

pub rule-returns : goal.rule-returns
rule-returns t c =
    let e = c.loop-self-test.ensures in
    ended c.loop-self.invariant e.0 (λ x s. record { so_far = s; over = lacks_in c.args.self.now c.loop-self.self c.loop-self.invariant.tokens Bar (e.1 0) })

pub piece-loop-self-preserved : goal.piece-loop-self-preserved
piece-loop-self-preserved t c =
    let o = c.args.self.now in
    let a = c.loop-self.invariant in
    let w = c.loop-self-test.ensures.1 in
    wrap_read o (w.tokens ∙ a.tokens) c.add-piece.ensures as_pattern as_pattern star o.at a.made (ap nodes_of w.tree) (omega (arith, w.at)) (λ us. refl)
    (ends_at (BaseEnds (symbols_in o) o.at) w.at (piece_more (symbols_in o) o.at _ _ a.made.is (next o a.tokens w)))

pub piece-returns : goal.piece-returns
piece-returns t c =
    let e = c.loop-self-test.ensures in
    ended c.loop-self.invariant e.0 (λ x s. record { base = s; over = lacks_in c.args.self.now c.loop-self.self c.loop-self.invariant.tokens Star (e.1 0) })

pub base-returns-then-eat : goal.base-returns-then-eat
base-returns-then-eat t c =
    let o = c.args.self.now in
    let w = c.if-eat.ensures.1 in
    leaf_read o w.tokens c.add.ensures as_pattern (ap nodes_of w.tree) (omega (arith, w.at)) (λ us. refl)
    (ends_at (BaseEnds (symbols_in o) o.at) w.at (base_blank (symbols_in o) o.at w.was))

pub base-returns-in_err-expect : goal.base-returns-in_err-expect
base-returns-in_err-expect t c =
    let o = c.args.self.now in
    let w = subst (λ r. Stepped LeftRound r c.eat-2.new.self) c.if-eat.ensures.0 c.if-eat-2.ensures.1 in
    let b = c.in_ok-inner.ensures in
    let p = err_from_is_err_and c.from_residual-in_err-expect.result c.from_residual-in_err-expect.ensures.1 in
    rw (p.1, p.2) (wanted o c.rule.new.self tags.RightRound (b.tokens ∙ w.tokens) (λ l. base_unclosed (symbols_in o) o.at _ _ w.was (made_on o refl w b).is (l 0)) c.in_err-expect.ensures)

pub base-returns-in_err-expect-2 : goal.base-returns-in_err-expect-2
base-returns-in_err-expect-2 t c =
    let o = c.args.self.now in
    let e = c.if-eat.ensures in
    let e' = c.if-eat-2.ensures in
    let p = err_from_is_err_and c.from_residual-in_err-expect-2.result c.from_residual-in_err-expect-2.ensures.1 in
    let f = subst (λ (r : Reader). Expected tags.LeftSquare r c.expect-2.new.self (Err c.in_err-expect-2.field-0.0)) (e'.0 ∙ e.0) c.in_err-expect-2.ensures in
    rw (p.1, p.2) (wanted o o tags.LeftSquare refl (λ l. base_stops (symbols_in o) o.at o.within (e.1 0) (subst (λ (r : Reader). Lacks LeftRound (drop r.at (symbols_in r))) e.0 (e'.1 0)) (l 0)) f)

pub base-returns-in_err-inner-2 : goal.base-returns-in_err-inner-2
base-returns-in_err-inner-2 t c =
    let o = c.args.self.now in
    let w = subst (λ r. Stepped LeftSquare r c.expect-2.new.self) (c.if-eat-2.ensures.0 ∙ c.if-eat.ensures.0) c.in_ok-expect-2.ensures.1 in
    let p = err_from_is_err_and c.from_residual-in_err-inner-2.result c.from_residual-in_err-inner-2.ensures.1 in
    rw (p.1, p.2) (fails_on o refl w ClaimFails (λ k g. base_unsquare (symbols_in o) o.at k w.was g.within (g.runs [])) c.in_err-inner-2.ensures)

pub base-returns-in_err-expect-3 : goal.base-returns-in_err-expect-3
base-returns-in_err-expect-3 t c =
    let o = c.args.self.now in
    let w = subst (λ r. Stepped LeftSquare r c.expect-2.new.self) (c.if-eat-2.ensures.0 ∙ c.if-eat.ensures.0) c.in_ok-expect-2.ensures.1 in
    let b = c.in_ok-inner-2.ensures in
    let x = (made_on o refl w b).is in
    let p = err_from_is_err_and c.from_residual-in_err-expect-3.result c.from_residual-in_err-expect-3.ensures.1 in
    rw (p.1, p.2) (wanted o c.claim.new.self tags.RightSquare (b.tokens ∙ w.tokens) (λ l. base_unsquare (symbols_in o) o.at _ w.was x.within (claim_cut (symbols_in o) _ _ _ x (l 0))) c.in_err-expect-3.ensures)

pub base-returns : goal.base-returns
base-returns t c =
    let o = c.args.self.now in
    let w = subst (λ r. Stepped LeftSquare r c.expect-2.new.self) (c.if-eat-2.ensures.0 ∙ c.if-eat.ensures.0) c.in_ok-expect-2.ensures.1 in
    let b = c.in_ok-inner-2.ensures in
    let a = made_on o refl w b in
    let v = c.in_ok-expect-3.ensures.1 in
    let n = next o (b.tokens ∙ w.tokens) v in
    wrap_read o (v.tokens ∙ b.tokens ∙ w.tokens) c.add-2.ensures as_claim as_pattern claim_pattern (o.at + 1) a (ap nodes_of v.tree) (omega (arith, v.at)) (λ us. refl)
    (ends_at (BaseEnds (symbols_in o) o.at) v.at (base_square (symbols_in o) o.at _ _ w.was (omega (arith, a.is.on)) (omega (arith, n.within)) (claim_closed (symbols_in o) _ _ _ a.is n)))
