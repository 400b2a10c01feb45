use mathlib.Core.Path.{refl, sym, ap, ◌∙◌}
use Rattle.std.specs.Prelude.{Ok}
use Rattle.replays.proofs.Replaying.{replays-claim, replays-transfer, replays-withdrawal, replays-grant, replays-other}
use Rattle.replays.proofs.replayed.Goals as goal

-- a claim's lot joins the end
pub returns-in-Ok-Claim : goal.returns-in-Ok-Claim
returns-in-Ok-Claim c =
    let a = c.args in
    replays-claim a.r a.used a.work.now a.held.now c.requires (sym c.in-Ok-Claim.ensures ∙ ap Ok c.in-Ok-Claim.field-0-is) c.append.new.lots c.append.ensures

-- of a transfer the pieces join the receiver's line
pub returns-in-Ok-Transfer : goal.returns-in-Ok-Transfer
returns-in-Ok-Transfer c =
    let a = c.args in
    let s = c.take_from-t in
    replays-transfer a.r a.used a.work.now a.held.now c.requires s.result s.new.work s.new.held s.auto.work s.ensures (sym c.in-Ok-Transfer.ensures ∙ ap Ok c.in-Ok-Transfer.field-0-is) c.join.new.work c.join.ensures

-- a withdrawal's leave
pub returns-in-Ok-Withdrawal : goal.returns-in-Ok-Withdrawal
returns-in-Ok-Withdrawal c =
    let a = c.args in
    let s = c.take_from in
    replays-withdrawal a.r a.used a.work.now a.held.now c.requires s.result s.new.work s.new.held s.auto.work s.ensures (sym c.in-Ok-Withdrawal.ensures ∙ ap Ok c.in-Ok-Withdrawal.field-0-is) s.new.work refl

-- a grant moves none
pub returns-in-Ok-Grant : goal.returns-in-Ok-Grant
returns-in-Ok-Grant c =
    let a = c.args in
    replays-grant a.r a.used a.work.now a.held.now c.requires (sym c.in-Ok-Grant.ensures ∙ ap Ok c.in-Ok-Grant.field-0-is)

-- nor does any other
pub returns-in-Err : goal.returns-in-Err
returns-in-Err c =
    let a = c.args in
    replays-other a.r a.used a.work.now a.held.now c.requires (sym c.in-Err.ensures)
