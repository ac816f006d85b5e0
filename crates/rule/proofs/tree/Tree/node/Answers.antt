use Rattle.std.proofs.Common.{sym, ap, ◌∙◌, subst}
use Rattle.rule.specs.Order.{PartsBelow}
use Rattle.rule.specs.Trees.{made, things}
use Rattle.rule.specs.Built.{nodes_of}
use Rattle.rule.proofs.Nodes.{parts_at}
use Rattle.rule.proofs.Things.{thing_made}
use Rattle.rule.proofs.tree.Tree.node.Goals as goal

pub returns-clause-meaning : goal.returns-clause-meaning
returns-clause-meaning c =
    let t = c.args.self.now in
    let ns = nodes_of t in
    thing_made ns c.args.n t.down ∙ sym (ap (made (things _ ns)) c.entry.ensures.node)

pub returns-clause-below : goal.returns-clause-below
returns-clause-below c =
    let t = c.args.self.now in
    subst (PartsBelow c.args.n) (sym c.entry.ensures.node) (parts_at (nodes_of t) c.args.n t.down)
