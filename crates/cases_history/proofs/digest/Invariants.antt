use Rattle.std.proofs.Common.{◌<◌}
use Rattle.cases_history.proofs.digest.Given as goal

abbrev pub invariant-loop-l : goal.invariant-loop-l
invariant-loop-l l = l.sum < 1000003

abbrev pub invariant-loop-n : goal.invariant-loop-n
invariant-loop-n l = l.sum < 1000003
