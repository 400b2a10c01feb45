-- Demand 3, proved.
use Rattle.promises.specs.Promises.{Demand3}
use Rattle.promises.proofs.OutsideMachine.{outside_told, outside-agreed}
use Rattle.promises.proofs.MemberReplies.{member-told, member-answered, member-answered-with-room}

-- the whole of demand 3
pub demand3 : Demand3
demand3 = record { outside = outside_told; agreed = outside-agreed; member = member-told; next = member-answered; next_with_room = member-answered-with-room }
