use Rattle.std.proofs.Common.{◌≡◌, length, map, take}
use Rattle.rules.specs.Lots.{of_member}
use Rattle.takings.specs.Working.{appended}
use Rattle.takings.proofs.work.join.Given as goal

-- the pieces that are left, behind those that joined, come to all of them
abbrev pub invariant-loop-end : goal.invariant-loop-end
invariant-loop-end l = record {
  all : l.end-iterator.a.end ≡ length l.work;
  comes : appended l.end-iterator.a.start (map (of_member l.member) (take l.end-iterator.b.n l.end-iterator.b.iter.rest.now)) l.work ≡ appended l.used (map (of_member l.member) (take l.count l.held)) l.initial.work;
}
