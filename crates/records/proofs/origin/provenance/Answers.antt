use mathlib.Core.Path.{◌≡◌}
use mathlib.Core.Bool.{true, ◌&&◌}
use native.Mathlib.Omega.{arith}
use Rattle.rules.specs.State.{history_of}
use Rattle.rules.specs.Frame.{in_frame}
use Rattle.rules.specs.History.{history_in_frame}
use Rattle.records.proofs.Counting.{can_work}
use Rattle.records.proofs.origin.provenance.Goals as goal

pub worked_out-requires : goal.worked_out-requires
worked_out-requires c =
    let e : in_frame c.args.book.now && history_in_frame (history_of c.args.book.now) ≡ true = grind arith in
    rw (← c.book.view_is) at (can_work c.args.book.now e)
