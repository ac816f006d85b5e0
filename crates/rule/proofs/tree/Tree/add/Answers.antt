use Rattle.std.proofs.Common.{[], ◌∷◌, ◌++◌, sym, ap, ◌∙◌, arith}
use Rattle.std.proofs.lemmas.List.{map_push, length-map}
use Rattle.rule.specs.declared.entry.Entry.{Entry}
use Rattle.rule.specs.Trees.{nodes_in, summaries_in}
use Rattle.rule.proofs.Nodes.{pushed}
use Rattle.rule.proofs.Things.{summaries_push}
use Rattle.rule.proofs.tree.Tree.add.Goals as goal

pub invariant_of-self : goal.invariant_of-self
invariant_of-self c =
    let es = c.args.self.now.entries.items in
    let n = c.args.node in
    let e : Entry = record { node = n; summary = c.summarize-summary.result } in
    let more = ap nodes_in c.push.ensures.items ∙ map_push (λ x. x.node) es e in
    record {
      few = omega (arith, c.push.ensures.len, c.requires.room, length-map es (λ x. x.node));
      down = pushed (nodes_in es) _ n more c.args.self.now.down c.requires.parts;
      summed =
          ap summaries_in c.push.ensures.items ∙ map_push (λ x. x.summary) es e
          ∙ (λ i. c.args.self.now.summed i ++ c.summarize-summary.ensures i ∷ [])
          ∙ sym (summaries_push (nodes_in es) _ n more);
    }
