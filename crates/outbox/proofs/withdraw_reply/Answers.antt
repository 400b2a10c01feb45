use Rattle.std.proofs.Common.{rules}
use Rattle.outbox.proofs.Laws.{withdraw_told}
use Rattle.outbox.proofs.withdraw_reply.Goals as goal

pub returns-in_err-refuse-5 : goal.returns-in_err-refuse-5
returns-in_err-refuse-5 c = λ s p q r. withdraw_told _ s _ (rw (p, q, r) (search rules))
