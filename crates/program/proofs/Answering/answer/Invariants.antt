use Rattle.std.proofs.Common.{◌≤◌, length}
use Rattle.rules.specs.Lent.{lent_book}
use Rattle.pages.specs.Lent.{page_of}
use Rattle.runner.specs.Machine.{machine_with}
use Rattle.program.proofs.Turns.{FrontFed}
use Rattle.program.proofs.Answering.answer.Given as goal

abbrev pub invariant-loop-rest : goal.invariant-loop-rest
invariant-loop-rest g l =
    record {
      room : 45000 ≤ length (page_of l.self-inside.page).bytes;
      so_far : FrontFed l.fn.self (machine_with l.self-inside.session (lent_book l.self-inside.book)) (g.W.Write.contents l.initial.writer) (g.W.Write.contents l.writer) l.chunk l.rest;
    }

abbrev pub decreases-loop-rest : goal.decreases-loop-rest
decreases-loop-rest g l = length l.rest
