use Rattle.std.proofs.Common.{rules}
use Rattle.fields.proofs.Numbers.{decimal_utf8}
use Rattle.fields.proofs.decimal.Goals as goal

pub returns-in_err-ok : goal.returns-in_err-ok
returns-in_err-ok c = search (rules, decimal_utf8)
