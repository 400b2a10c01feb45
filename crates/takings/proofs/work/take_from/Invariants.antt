use Rattle.std.proofs.Common.{take}
use Rattle.takings.proofs.Passing.{Going}
use Rattle.takings.proofs.work.take_from.Given as goal

abbrev pub invariant-loop-i : goal.invariant-loop-i
invariant-loop-i l = Going l.member l.asset l.amount l.used (take l.used l.initial.work) l.i l.s l.work l.held
