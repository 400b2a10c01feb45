use mathlib.Core.Path.{sym, ap, ◌∙◌}
use Rattle.rules.specs.Tables.{deposit_shape}
use Rattle.tables.proofs.Rest.{passes_fails, passes_goes, passes_end}
use Rattle.frames.specs.Parts.{inbox_frame}
use Rattle.frames.proofs.Laws.{outside}
use Rattle.frames.proofs.Frames.{deposit_test, deposit_next, inbox-none}
use Rattle.frames.proofs.inbox_in_frame.Goals as goal

pub returns-then-t-ne-INBOX_SIZE : goal.returns-then-t-ne-INBOX_SIZE
unfolding inbox_frame
returns-then-t-ne-INBOX_SIZE c = outside _ _ _ _ _ c.then-t-ne-INBOX_SIZE.either

pub loop-i-init : goal.loop-i-init
loop-i-init c = inbox-none _ _ _ c.if-t-ne-INBOX_SIZE.false c.if-n-gt-INBOX_ROWS.false

pub returns-then-not-deposit_in_frame : goal.returns-then-not-deposit_in_frame
returns-then-not-deposit_in_frame c =
    let a = c.args in
    sym (c.loop-i.invariant ∙ passes_fails deposit_shape (deposit_test a.last) deposit_next a.n c.loop-i.before c.loop-i.i a.t.now c.loop-i-test.true
    (ap (deposit_test a.last c.loop-i.before) (sym c.get-row.ensures) ∙ sym c.deposit_in_frame.ensures ∙ c.if-not-deposit_in_frame.true))

pub loop-i-preserved : goal.loop-i-preserved
loop-i-preserved c =
    let a = c.args in
    rw c.get-row.ensures
    (c.loop-i.invariant ∙ passes_goes deposit_shape (deposit_test a.last) deposit_next a.n c.loop-i.before c.loop-i.i a.t.now c.loop-i-test.true
    (ap (deposit_test a.last c.loop-i.before) (sym c.get-row.ensures) ∙ sym c.deposit_in_frame.ensures ∙ c.if-not-deposit_in_frame.false))

pub returns : goal.returns
returns c =
    let a = c.args in
    sym (c.loop-i.invariant ∙ passes_end deposit_shape (deposit_test a.last) deposit_next a.n c.loop-i.before c.loop-i.i a.t.now c.loop-i-test.false)
