use native.Mathlib.Omega.{arith}
use Rattle.replays.proofs.Payments.{replay-none, replay-more, can_replay}
use Rattle.replays.proofs.replayed_until.Goals as goal

pub loop-i-init : goal.loop-i-init
loop-i-init c = replay-none c.args.history.now c.args.work.now

pub replayed-used-requires : goal.replayed-used-requires
replayed-used-requires c =
    let a = c.args in
    let l = c.loop-i in
    can_replay a.history.now a.work.now a.held.now a.at l.i l.used l.work l.held c.requires (omega arith) l.auto.work l.auto.held l.invariant

-- one record more is replayed
pub loop-i-preserved : goal.loop-i-preserved
loop-i-preserved c =
    let a = c.args in
    let l = c.loop-i in
    let n = c.replayed-used in
    replay-more a.history.now l.i l.used l.work l.invariant c.record_at.result c.record_at.ensures n.result n.new.work n.ensures
