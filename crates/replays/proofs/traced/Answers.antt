use Rattle.replays.proofs.Pieces.{can_replay-all, can_take-here, traces}
use Rattle.replays.proofs.traced.Goals as goal

-- the records before the payment can be replayed
pub replayed_until-used-requires : goal.replayed_until-used-requires
replayed_until-used-requires c =
    let a = c.args in
    can_replay-all a.history.now a.records a.n a.work.now a.held.now a.pieces.now c.requires c.payment_at-at.result c.payment_at-at.ensures

pub take_from-t-requires : goal.take_from-t-requires
take_from-t-requires c =
    let a = c.args in
    let u = c.replayed_until-used in
    can_take-here a.history.now a.records a.n a.work.now a.held.now a.pieces.now c.requires c.payment_at-at.result c.payment_at-at.ensures
    u.result u.new.work u.new.held u.auto.work u.auto.held u.ensures

-- what was taken are the pieces
pub returns : goal.returns
returns c =
    let a = c.args in
    let u = c.replayed_until-used in
    let s = c.take_from-t in
    traces a.history.now a.records a.n a.work.now a.held.now a.pieces.now c.requires c.payment_at-at.result c.payment_at-at.ensures
    u.result u.new.work u.new.held u.auto.work u.auto.held u.ensures
    c.record_at-r.result c.record_at-r.ensures s.result s.new.work s.new.held s.ensures
    c.join.new.work c.clear.new.lots c.join.ensures s.auto.work c.clear.ensures
