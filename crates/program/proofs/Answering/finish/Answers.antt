use Rattle.rules.specs.Lent.{lent_book}
use Rattle.program.proofs.Turns.{room_keeps}
use Rattle.program.proofs.Answering.finish.Goals as goal

-- what `close` leaves is told for every book: here for the one that is lent
pub invariant_of-self : goal.invariant_of-self
invariant_of-self g c = room_keeps _ _ _ _ c.clear.ensures.cleared (c.close.ensures.closed (lent_book c.self.inside.book)).page c.self.invariant
