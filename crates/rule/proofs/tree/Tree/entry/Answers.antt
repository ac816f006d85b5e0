use Rattle.std.proofs.Common.{◌≡◌, get_or, ap, ◌∙◌, rules}
use Rattle.rule.proofs.Things.{blank_entry, summary_stored}
use Rattle.rule.proofs.tree.Tree.entry.Goals as goal

pub returns-clause-summary : goal.returns-clause-summary
returns-clause-summary c =
    let t = c.args.self.now in
    let e : c.unwrap_or_else.result ≡ get_or t.entries.items c.args.n blank_entry = search rules in
    ap (λ x. x.summary) e ∙ summary_stored t.entries.items t.summed c.args.n
