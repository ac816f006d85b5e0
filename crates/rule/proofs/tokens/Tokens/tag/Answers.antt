use Rattle.std.proofs.Common.{◌≡◌, ◌∙◌, rules}
use Rattle.std.specs.Prelude.{option_map}
use Rattle.rule.specs.Stored.{spots_of}
use Rattle.rule.proofs.Spotted.{tag_next}
use Rattle.rule.proofs.tokens.Tokens.tag.Goals as goal

pub returns : goal.returns
returns c =
    let t = c.args.self.now in
    let is : c.map.result ≡ option_map (λ s. s.now.tag) c.get.result = search rules in
    is ∙ tag_next t.text.now (spots_of t) c.args.k _ (search (rules, c.get.ensures.lookup))
