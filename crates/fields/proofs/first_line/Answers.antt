use Rattle.std.proofs.Common.{rules, ◌-◌, length, take, drop}
use Rattle.fields.specs.Fields.{Lacks, Ended}
use Rattle.fields.proofs.Cutting.{cut_off}
use Rattle.fields.proofs.Parts.{at_mark, at_end}
use Rattle.fields.proofs.first_line.Goals as goal

pub returns-in-empty-clause-cut : goal.returns-in-empty-clause-cut
returns-in-empty-clause-cut c =
    let parted : Ended c.args.bytes.now c.split_at.result.0.now c.split_at.result.1.now = search (rules, at_end) in
    let lacks : Lacks 10 c.split_at.result.0.now = search rules in
    cut_off _ _ _ parted lacks

pub returns-in-len1-up-clause-cut : goal.returns-in-len1-up-clause-cut
returns-in-len1-up-clause-cut c =
    let rest = c.split_at.result.1.now in
    let parted : Ended c.args.bytes.now c.split_at.result.0.now (take (length rest - 1) (drop 1 rest)) = search (rules, at_mark) in
    let lacks : Lacks 10 c.split_at.result.0.now = search rules in
    cut_off _ _ _ parted lacks
