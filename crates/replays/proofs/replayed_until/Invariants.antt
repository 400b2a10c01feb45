use Rattle.replays.specs.Replaying.{ReplaysAll}
use Rattle.replays.proofs.replayed_until.Given as goal

-- the lots are those after the records so far
abbrev pub invariant-loop-i : goal.invariant-loop-i
invariant-loop-i l = ReplaysAll l.i l.history l.used l.work
