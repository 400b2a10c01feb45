use Prim.Native.Nat.{◌*◌}
use mathlib.Core.Path.{◌≡◌}
use mathlib.Core.Bool.{true}
use Rattle.rules.specs.Limits.{ceiling}
use Rattle.records.specs.Test.{all_up_to}
use Rattle.records.proofs.Following.{HistoryFrom}
use Rattle.records.proofs.frame.history_in_frame.Given as goal

abbrev pub invariant-loop-i : goal.invariant-loop-i
invariant-loop-i l = record {
  low : all_up_to (l.i * ceiling) l.standing.balances ≡ true;
  left : HistoryFrom l.history l.records l.standing l.i;
}
