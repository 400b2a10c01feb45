use mathlib.Core.Path.{◌≡◌}
use lib.ListN.{length}
use Rattle.lines.proofs.LineLaws.{SoFar}
use Rattle.lines.proofs.read.numbers.Given as goal

abbrev pub invariant-loop-i : goal.invariant-loop-i
invariant-loop-i g l = record { as_many : length l.number-items ≡ g.row.N; so_far : SoFar g.row.N l.fn.s l.number-items l.i l.rest }
