use Rattle.std.proofs.Common.{ap, sym, subst}
use Rattle.grammar.specs.declared.Sign.TheVariants.{Plus, Minus}
use Rattle.rule.specs.Readers.{symbols_in, Leads, is_minus, is_bare}
use Rattle.rule.proofs.reader.Reader.lead.Goals as goal

pub returns-then-eat : goal.returns-then-eat
returns-then-eat c =
    let e = c.if-eat.ensures.1 in
    record { tokens = e.tokens; tree = e.tree; is = subst (Leads (symbols_in c.args.self.now) c.args.self.now.at Minus) (sym e.at) (is_minus e.was.within e.was.here) }

pub returns : goal.returns
returns c =
    let e = c.if-eat.ensures in
    record {
      tokens = ap (λ r. r.tokens.now) e.0;
      tree = ap (λ r. r.tree) e.0;
      is = subst (Leads (symbols_in c.args.self.now) c.args.self.now.at Plus) (ap (λ r. r.at) (sym e.0)) (is_bare (e.1 0));
    }
