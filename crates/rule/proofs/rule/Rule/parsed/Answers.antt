use Rattle.std.proofs.Common.{◌≡◌, ◌≤◌, sym, ◌∙◌, subst, arith, w32, to_z, of_z, rules}
use Rattle.std.proofs.lemmas.List.{length-map}
use Rattle.std.proofs.lemmas.Result.{err_from_is_err_and}
use Rattle.grammar.specs.Limits.{claim_limit, claiming, count}
use Rattle.grammar.specs.Reading.{Numbered}
use Rattle.grammar.specs.Viable.{FirstBad}
use Rattle.grammar.proofs.Counts.{rule_claims}
use Rattle.rule.specs.Readers.{Faulted, WholeIs}
use Rattle.rule.specs.Spots.{symbol_at}
use Rattle.rule.specs.Stored.{spots_of, symbols_of}
use Rattle.rule.proofs.Finish.{watch_refused, long_refused, cut_refused, many_refused, deep_refused, crowd_refused, numbered_within, made_parsed, refused_parsed}
use Rattle.rule.proofs.rule.Rule.parsed.Goals as goal

pub returns-in_err-watch : goal.returns-in_err-watch
returns-in_err-watch c =
    let p = err_from_is_err_and c.from_residual.result c.from_residual.ensures.1 in
    let z : to_z w32 (of_z w32 c.args.watch) ≡ c.args.watch = search rules in
    let q = let r = c.in_err-watch.ensures in watch_refused {n = c.args.watch} {text = c.args.text.now} r.0 (λ w. r.1 (subst Numbered (sym z) w)) in
    rw (p.1, p.2) (refused_parsed _ q)

pub returns-in_err-short : goal.returns-in_err-short
returns-in_err-short c =
    let p = err_from_is_err_and c.from_residual-in_err-short.result c.from_residual-in_err-short.ensures.1 in
    let z : to_z w32 (of_z w32 c.args.watch) ≡ c.args.watch = search rules in
    let w = subst Numbered z c.in_ok-watch.ensures.1 in
    let q = let r = c.in_err-short.ensures in long_refused w r.0 r.1 in
    rw (p.1, p.2) (refused_parsed _ q)

pub returns-in_err-tokens : goal.returns-in_err-tokens
returns-in_err-tokens c =
    let p = err_from_is_err_and c.from_residual-in_err-tokens.result c.from_residual-in_err-tokens.ensures.1 in
    let z : to_z w32 (of_z w32 c.args.watch) ≡ c.args.watch = search rules in
    let w = subst Numbered z c.in_ok-watch.ensures.1 in
    let l = c.in_ok-short.ensures in
    let q = cut_refused w l c.in_err-tokens.ensures in
    rw (p.1, p.2) (refused_parsed _ q)

pub returns-in_err-few : goal.returns-in_err-few
returns-in_err-few c =
    let p = err_from_is_err_and c.from_residual-in_err-few.result c.from_residual-in_err-few.ensures.1 in
    let z : to_z w32 (of_z w32 c.args.watch) ≡ c.args.watch = search rules in
    let w = subst Numbered z c.in_ok-watch.ensures.1 in
    let l = c.in_ok-short.ensures in
    let s = c.in_ok-tokens.ensures in
    let q = let r = c.in_err-few.ensures in many_refused w l s r.0 r.1 in
    rw (p.1, p.2) (refused_parsed _ q)

pub returns-in_err-shallow : goal.returns-in_err-shallow
returns-in_err-shallow c =
    let p = err_from_is_err_and c.from_residual-in_err-shallow.result c.from_residual-in_err-shallow.ensures.1 in
    let z : to_z w32 (of_z w32 c.args.watch) ≡ c.args.watch = search rules in
    let w = subst Numbered z c.in_ok-watch.ensures.1 in
    let l = c.in_ok-short.ensures in
    let s = c.in_ok-tokens.ensures in
    let f = c.in_ok-few.ensures in
    let q = deep_refused w l s f c.in_err-shallow.ensures in
    rw (p.1, p.2) (refused_parsed _ q)

pub returns-in_err-claims : goal.returns-in_err-claims
returns-in_err-claims c =
    let p = err_from_is_err_and c.from_residual-in_err-claims.result c.from_residual-in_err-claims.ensures.1 in
    let z : to_z w32 (of_z w32 c.args.watch) ≡ c.args.watch = search rules in
    let w = subst Numbered z c.in_ok-watch.ensures.1 in
    let l = c.in_ok-short.ensures in
    let s = c.in_ok-tokens.ensures in
    let f = c.in_ok-few.ensures in
    let d = c.in_ok-shallow.ensures in
    let q = crowd_refused w l s f d c.in_err-claims.ensures in
    rw (p.1, p.2) (refused_parsed _ q)

pub of-requires : goal.of-requires
of-requires c =
    let z : to_z w32 (of_z w32 c.args.watch) ≡ c.args.watch = search rules in
    let w = subst Numbered z c.in_ok-watch.ensures.1 in
    let e = c.in_ok-watch.ensures.0 ∙ z in
    let k = c.in_ok-claims.ensures in
    record { least = (numbered_within c.in_ok-watch.watch e w).0; few = c.in_ok-few.ensures; counted = k.0; limited = k.1 }

pub returns : goal.returns
returns c =
    let z : to_z w32 (of_z w32 c.args.watch) ≡ c.args.watch = search rules in
    let w = subst Numbered z c.in_ok-watch.ensures.1 in
    let e = c.in_ok-watch.ensures.0 ∙ z in
    let k = c.in_ok-claims.ensures in
    let m : count claiming (symbols_of c.in_ok-tokens.tokens) ≤ claim_limit = omega (arith, k) in
    made_parsed w c.in_ok-short.ensures c.in_ok-tokens.ensures c.in_ok-few.ensures c.in_ok-shallow.ensures m c.of.result c.in_ok-watch.watch e c.of.ensures
