-- Demand 1, proved.
use Rattle.promises.specs.Promises.{Demand1}
use Rattle.promises.proofs.Asked.{lent-trace, question, never_small_lem}
use Rattle.promises.proofs.Replies.{numbered, refused, line-answered}
use Rattle.rules.proofs.Books.{nothing_changed}
use Rattle.promises.proofs.Leaves.{leaves}
use Rattle.promises.proofs.Lines.{answers}
use Rattle.promises.proofs.Cut.{cut}
use Rattle.promises.proofs.Reading.{reading}
use Rattle.promises.proofs.WhichField.{which_field_lem}

-- the whole of demand 1
pub demand1 : Demand1
demand1 =
    record {
      calls = numbered;
      refused = refused;
      leaves = leaves;
      nothing = nothing_changed;
      lent_traces = lent-trace;
      questions = question;
      never_small = never_small_lem;
      lines = line-answered;
      cut = cut;
      answers = answers;
      which_field = which_field_lem;
      reading = reading;
    }
