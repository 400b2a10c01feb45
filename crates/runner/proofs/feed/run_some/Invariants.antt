-- `feed::run_some`: how far it has come.
use Prim.Native.Nat.{◌-◌}
use lib.ListN.{length}
use Rattle.rules.specs.Lent.{lent_book, SameTables}
use Rattle.pages.specs.Lent.{page_of, SameBuffer}
use Rattle.runner.specs.Machine.{machine_with}
use Rattle.runner.proofs.Parts.{SoFar}
use Rattle.runner.proofs.feed.run_some.Given as goal

abbrev pub invariant-loop-next : goal.invariant-loop-next
invariant-loop-next l = record {
  so_far : SoFar (machine_with l.fn.session (lent_book l.fn.book)) (page_of l.fn.page) l.chunk l.next (machine_with l.session (lent_book l.book)) (page_of l.page);
  tables : SameTables l.fn.book l.book;
  buffer : SameBuffer l.fn.page l.page;
}

abbrev pub decreases-loop-next : goal.decreases-loop-next
decreases-loop-next l = length l.chunk - l.next
