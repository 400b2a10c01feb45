use Rattle.std.proofs.Common.{◌<◌}
use Rattle.cases_desk.proofs.digest.Given as goal

abbrev pub invariant-loop-n : goal.invariant-loop-n
invariant-loop-n l = l.sum < 1000003
