use Rattle.ledger.proofs.Words.{ledger_says}
use Rattle.ledger.proofs.Nesting.{nests}
use Rattle.ledger.proofs.Laws.{every_pile}
use Rattle.ledger.proofs.ledger_laws_hold.Goals as goal

pub returns : goal.returns
returns c = record { says = ledger_says; nests = nests; piles = every_pile }
