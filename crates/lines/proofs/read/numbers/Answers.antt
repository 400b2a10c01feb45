-- `read::numbers`: one number after the other, and then nothing.
use mathlib.Core.Path.{ap, ◌∙◌}
use native.Mathlib.Omega.{arith}
use Rattle.std.proofs.lemmas.Bool.Decides.{nat_tests}
use Rattle.std.proofs.lemmas.List.{length-replicate, length-set}
use lib.ListN.{replicate}
use Rattle.rules.specs.Lines.{Numbers}
use Rattle.lines.proofs.LineLaws.{none_yet, one_fails, one_reads, one_left_over, all_placed}
use Rattle.lines.proofs.read.numbers.Goals as goal

pub loop-i-init : goal.loop-i-init
loop-i-init g c = record { as_many = length-replicate _ _; so_far = none_yet _ _ (replicate g.row.N 0) }

pub returns-in_default : goal.returns-in_default
returns-in_default g c = one_fails _ _ _ _ _ c.loop-i.invariant.so_far (omega arith) c.in_default.ensures ∙ ap Numbers.fails_at (grind (arith, nat_tests))

pub loop-i-preserved : goal.loop-i-preserved
loop-i-preserved g c =
    let l = c.loop-i in
    record { as_many = rw length-set l.invariant.as_many; so_far = one_reads _ _ _ _ _ l.invariant.so_far (omega arith) l.invariant.as_many c.in-Ok.ensures }

pub returns-then-not-is_empty : goal.returns-then-not-is_empty
returns-then-not-is_empty g c = one_left_over _ _ _ _ _ c.loop-i.invariant.so_far (omega arith) (grind (arith, nat_tests))

pub returns : goal.returns
returns g c = all_placed _ _ _ _ _ c.loop-i.invariant.so_far (omega arith) c.loop-i.invariant.as_many (grind (arith, nat_tests))
