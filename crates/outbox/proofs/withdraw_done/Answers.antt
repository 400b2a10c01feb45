use Rattle.outbox.proofs.Laws.{can_withdraw}
use Rattle.outbox.proofs.withdraw_done.Goals as goal

pub keep_withdrawn-requires : goal.keep_withdrawn-requires
keep_withdrawn-requires c = can_withdraw _ _ c.requires
