use native.Mathlib.Omega.{arith}
use Rattle.records.proofs.Counting.{nothing_left, can_go_back, can_count, counted-last}
use Rattle.records.proofs.origin.+worked_out.Goals as goal

pub returns-then-left-eq0 : goal.returns-then-left-eq0
returns-then-left-eq0 t c = nothing_left _ _ _ _ c.if-left-eq0.true

pub worked_out-before-requires : goal.worked_out-before-requires
worked_out-before-requires t c = (omega arith, can_go_back c.args.history.now c.args.left c.requires (omega arith))

pub counted-requires : goal.counted-requires
counted-requires t c =
    rw (c.record_at.ensures, c.worked_out-before.ensures)
    (can_count c.args.history.now c.args.left c.requires (omega arith) c.args.member c.args.asset)

pub returns : goal.returns
returns t c =
    rw (c.counted.ensures, c.record_at.ensures, c.worked_out-before.ensures)
    (counted-last c.args.history.now c.args.left c.requires (omega arith) c.args.member c.args.asset)
