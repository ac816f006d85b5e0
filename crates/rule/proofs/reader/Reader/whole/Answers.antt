use Rattle.std.proofs.Common.{ℕ, ◌≡◌, length, refl, ◌∙◌, ap, subst, arith}
use Rattle.std.proofs.lemmas.List.{length-map}
use Rattle.std.proofs.lemmas.Result.{err_from_is_err_and}
use Rattle.grammar.specs.declared.Refusal.TheVariants.{Unexpected}
use Rattle.rule.specs.declared.reader.Reader.{Reader}
use Rattle.rule.specs.Built.{nodes_of}
use Rattle.rule.specs.Readers.{symbols_in, Read, RuleEnds, RuleFails}
use Rattle.rule.specs.Spots.{symbol_at}
use Rattle.rule.specs.Stored.{spots_of, place_in}
use Rattle.rule.specs.Trees.{as_pattern, pattern}
use Rattle.rule.proofs.Joins.{fails_of}
use Rattle.rule.proofs.Steps.{read_fails, read_goes_on, read_ends}
use Rattle.rule.proofs.reader.Reader.whole.Goals as goal

-- what was read from the first token on
whole_is : {o m : Reader} {n : ℕ} → o.at ≡ 0 → Read as_pattern RuleEnds o m n → RuleEnds (symbols_in o) 0 m.at (pattern (nodes_of m.tree) n)
whole_is {o = o} {m = m} {n = n} z a =
    subst (λ k. RuleEnds (symbols_in o) k m.at (pattern (nodes_of m.tree) n)) z a.made.is

pub returns-in_err-root : goal.returns-in_err-root
returns-in_err-root c =
    let o = c.args.self.now in
    let p = err_from_is_err_and c.from_residual.result c.from_residual.ensures.1 in
    rw (p.1, p.2) (fails_of (λ ts. RuleFails ts o.at) refl (λ k f. read_fails (symbols_in o) k (subst (λ p. RuleFails (symbols_in o) p k) c.requires f)) c.in_err-root.ensures)

pub returns-then-self-len : goal.returns-then-self-len
returns-then-self-len c =
    let o = c.args.self.now in
    let t = o.tokens.now in
    let a = c.in_ok-root.ensures in
    let long = length-map (spots_of t) (symbol_at t.text.now) in
    let same = ap (λ u. length (spots_of u)) a.tokens in
    record {
      index = c.rule.new.self.at;
      holds = read_goes_on (symbols_in o) _ _ (whole_is c.requires a) (omega (arith, long, same, c.len.ensures, c.if-self-len.true));
      is = c.unexpected.ensures ∙ ap (λ u. Unexpected (place_in u c.rule.new.self.at)) a.tokens;
    }

pub returns : goal.returns
returns c =
    let o = c.args.self.now in
    let t = o.tokens.now in
    let a = c.in_ok-root.ensures in
    let long = length-map (spots_of t) (symbol_at t.text.now) in
    let same = ap (λ u. length (spots_of u)) a.tokens in
    record {
      there = a.made.there;
      derived = read_ends (symbols_in o) _ _ (whole_is c.requires a) (omega (arith, long, same, c.len.ensures, c.if-self-len.false));
    }
