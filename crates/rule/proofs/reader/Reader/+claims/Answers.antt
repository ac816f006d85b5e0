use Rattle.std.proofs.Common.{◌+◌, drop, Ok, Err, Result, ℕ, refl, ap, ◌∙◌, subst, arith}
use Rattle.std.proofs.lemmas.Result.{err_from_is_err_and}
use Rattle.grammar.specs.declared.Refusal.{Refusal}
use Rattle.grammar.specs.declared.Tag.TheVariants as tags
use Rattle.grammar.specs.Symbol.{And, Or, Arrow, Not, LeftRound, Has, True}
use Rattle.grammar.specs.Tree.{implication, disjunction, conjunction, negation}
use Rattle.rule.specs.declared.reader.Reader.{Reader}
use Rattle.rule.specs.Trees.{as_claim}
use Rattle.rule.specs.Built.{nodes_of}
use Rattle.rule.specs.Readers.{symbols_in, Lacks, Stepped, Reads, NameFails, ComparisonEnds, ComparisonFails, SingleEnds, SingleFails}
use Rattle.rule.proofs.Faults.{faulted}
use Rattle.rule.proofs.ClaimSteps.{name_on, single_true, single_not, single_has, single_has_fails, single_compare, single_compare_fails, single_unclosed, both_more, either_more, claim_one, claim_two}
use Rattle.rule.proofs.Joins.{made_on, found_on, fails_on, leaf_read, wrap_read, joined, ended, lacks_in, wanted, ends_at}
use Rattle.rule.proofs.Grown.{same}
use Rattle.rule.proofs.reader.Reader.+claims.Goals as goal

pub both-loop-self-preserved : goal.both-loop-self-preserved
both-loop-self-preserved t c =
    let o = c.args.self.now in
    joined as_claim as_claim as_claim conjunction c.loop-self.invariant c.loop-self-test.ensures.1 c.in_ok-right.ensures c.add-left.ensures (λ us. refl) (λ x y. both_more (symbols_in o) o.at _ _ x y)

pub both-returns : goal.both-returns
both-returns t c =
    let e = c.loop-self-test.ensures in
    ended c.loop-self.invariant e.0 (λ x s. record { so_far = s; over = lacks_in c.args.self.now c.loop-self.self c.loop-self.invariant.tokens And (e.1 0) })

pub either-loop-self-preserved : goal.either-loop-self-preserved
either-loop-self-preserved t c =
    let o = c.args.self.now in
    joined as_claim as_claim as_claim disjunction c.loop-self.invariant c.loop-self-test.ensures.1 c.in_ok-right.ensures c.add-left.ensures (λ us. refl) (λ x y. either_more (symbols_in o) o.at _ _ x y)

pub either-returns : goal.either-returns
either-returns t c =
    let e = c.loop-self-test.ensures in
    ended c.loop-self.invariant e.0 (λ x s. record { so_far = s; over = lacks_in c.args.self.now c.loop-self.self c.loop-self.invariant.tokens Or (e.1 0) })

pub claim-returns-then-eat : goal.claim-returns-then-eat
claim-returns-then-eat t c =
    let o = c.args.self.now in
    joined as_claim as_claim as_claim implication c.in_ok-left.ensures c.if-eat.ensures.1 c.in_ok-right.ensures c.add.ensures (λ us. refl) (λ x y. claim_two (symbols_in o) o.at _ _ x y)

pub claim-returns : goal.claim-returns
claim-returns t c =
    let o = c.args.self.now in
    let e = c.if-eat.ensures in
    let a = c.in_ok-left.ensures in
    ended a e.0 (λ x s. claim_one (symbols_in o) o.at _ x s (lacks_in o c.either.new.self a.tokens Arrow (e.1 0)))

pub single-returns-then-eat : goal.single-returns-then-eat
single-returns-then-eat t c =
    let o = c.args.self.now in
    let w = c.if-eat.ensures.1 in
    let b = c.in_ok-inner.ensures in
    let a = made_on o refl w b in
    wrap_read o (b.tokens ∙ w.tokens) c.add.ensures as_claim as_claim negation (o.at + 1) a refl (omega arith) (λ us. refl) (single_not (symbols_in o) o.at _ _ w.was a.is)

pub single-returns-in_err-expect : goal.single-returns-in_err-expect
single-returns-in_err-expect t c =
    let o = c.args.self.now in
    let w = subst (λ r. Stepped LeftRound r c.eat-2.new.self) c.if-eat.ensures.0 c.if-eat-2.ensures.1 in
    let b = c.in_ok-inner-2.ensures in
    let p = err_from_is_err_and c.from_residual-in_err-expect.result c.from_residual-in_err-expect.ensures.1 in
    rw (p.1, p.2) (wanted o c.claim.new.self tags.RightRound (b.tokens ∙ w.tokens) (λ l. single_unclosed (symbols_in o) o.at _ _ w.was (made_on o refl w b).is (l 0)) c.in_err-expect.ensures)

pub single-returns-then-eat-3 : goal.single-returns-then-eat-3
single-returns-then-eat-3 t c =
    let o = c.args.self.now in
    let w = subst (λ r. Stepped True r c.eat-3.new.self) (c.if-eat-2.ensures.0 ∙ c.if-eat.ensures.0) c.if-eat-3.ensures.1 in
    leaf_read o w.tokens c.add-then-eat-3.ensures as_claim (ap nodes_of w.tree) (omega (arith, w.at)) (λ us. refl)
    (ends_at (SingleEnds (symbols_in o) o.at) w.at (single_true (symbols_in o) o.at w.was))

pub single-returns-in_err-name : goal.single-returns-in_err-name
single-returns-in_err-name t c =
    let o = c.args.self.now in
    let w = subst (λ r. Stepped Has r c.eat-4.new.self) (c.if-eat-3.ensures.0 ∙ c.if-eat-2.ensures.0 ∙ c.if-eat.ensures.0) c.if-eat-4.ensures.1 in
    let p = err_from_is_err_and c.from_residual-in_err-name.result c.from_residual-in_err-name.ensures.1 in
    rw (p.1, p.2) (fails_on o refl w NameFails (λ k. single_has_fails (symbols_in o) o.at k w.was) c.in_err-name.ensures)

pub single-returns-then-eat-4 : goal.single-returns-then-eat-4
single-returns-then-eat-4 t c =
    let o = c.args.self.now in
    let w = subst (λ r. Stepped Has r c.eat-4.new.self) (c.if-eat-3.ensures.0 ∙ c.if-eat-2.ensures.0 ∙ c.if-eat.ensures.0) c.if-eat-4.ensures.1 in
    let n = c.in_ok-name.ensures in
    let x = found_on o refl w n in
    leaf_read o (n.tokens ∙ w.tokens) c.add-then-eat-4.ensures as_claim (ap nodes_of (n.tree ∙ w.tree)) (omega (arith, name_on (symbols_in o) x)) (λ us. refl)
    (single_has (symbols_in o) o.at _ _ w.was x)

compared : (o new : Reader) → Lacks Not (drop o.at (symbols_in o)) → Lacks LeftRound (drop o.at (symbols_in o)) → Lacks True (drop o.at (symbols_in o)) → Lacks Has (drop o.at (symbols_in o))
    → (r : Result ℕ Refusal) → Reads as_claim ComparisonEnds ComparisonFails o new r → Reads as_claim SingleEnds SingleFails o new r
compared o new a b d e (Ok n) m = record { tokens = m.tokens; made = same (SingleEnds (symbols_in o) o.at) o.at o.at m.made (omega arith) (single_compare (symbols_in o) o.at _ _ a b d e m.made.is) }
compared o new a b d e (Err f) m = faulted (λ k. single_compare_fails (symbols_in o) o.at k a b d e) m

pub single-returns : goal.single-returns
single-returns t c =
    let o = c.args.self.now in
    let e = c.if-eat.ensures in
    let e' = c.if-eat-2.ensures in
    let e'' = c.if-eat-3.ensures in
    let e''' = c.if-eat-4.ensures in
    let h = e'.0 ∙ e.0 in
    let h' = e''.0 ∙ h in
    compared o c.comparison.new.self (e.1 0)
    (subst (λ (r : Reader). Lacks LeftRound (drop r.at (symbols_in r))) e.0 (e'.1 0))
    (subst (λ (r : Reader). Lacks True (drop r.at (symbols_in r))) h (e''.1 0))
    (subst (λ (r : Reader). Lacks Has (drop r.at (symbols_in r))) h' (e'''.1 0))
    c.comparison.result
    (subst (λ r. Reads as_claim ComparisonEnds ComparisonFails r c.comparison.new.self c.comparison.result) (e'''.0 ∙ h') c.comparison.ensures)
