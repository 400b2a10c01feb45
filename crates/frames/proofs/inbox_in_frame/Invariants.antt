use Rattle.frames.proofs.Frames.{InboxFrom}
use Rattle.frames.proofs.inbox_in_frame.Given as goal

abbrev pub invariant-loop-i : goal.invariant-loop-i
invariant-loop-i l = InboxFrom l.t l.n l.last l.before l.i
