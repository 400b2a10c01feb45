use Rattle.ledger.proofs.Laws.{can_transfer}
use Rattle.ledger.proofs.transfer_done.Goals as goal

pub keep_transferred-requires : goal.keep_transferred-requires
keep_transferred-requires c = can_transfer _ _ c.requires
