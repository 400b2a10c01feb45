use Prim.Native.Nat.{◌+◌}
use Rattle.frames.proofs.Frames.{OutboxFrom}
use Rattle.frames.proofs.outbox_in_frame.Given as goal

abbrev pub invariant-loop-i : goal.invariant-loop-i
invariant-loop-i l = OutboxFrom l.t l.n l.next (l.first + l.i) l.i
