use Prim.Native.Nat.{◌+◌}
use native.Mathlib.Nat.{add-zero}
use mathlib.Core.Path.{◌≡◌, sym, ap, ◌∙◌}
use native.Mathlib.Omega.{arith}
use Rattle.rules.specs.Tables.{payment_shape}
use Rattle.tables.proofs.Rest.{passes_fails, passes_goes, passes_end}
use Rattle.frames.specs.Parts.{outbox_frame}
use Rattle.frames.proofs.Laws.{outside}
use Rattle.frames.proofs.Frames.{payment_test, payment_next, outbox-before, outbox-none}
use Rattle.frames.proofs.outbox_in_frame.Goals as goal

pub returns-then-t-ne-OUTBOX_SIZE : goal.returns-then-t-ne-OUTBOX_SIZE
unfolding outbox_frame
returns-then-t-ne-OUTBOX_SIZE c = outside _ _ _ _ _ c.then-t-ne-OUTBOX_SIZE.either

pub returns-in_default : goal.returns-in_default
returns-in_default c = outbox-before _ _ _ (omega (arith, c.in_default.ensures)) c.if-t-ne-OUTBOX_SIZE.false c.if-n-gt-OUTBOX_ROWS.false

pub loop-i-init : goal.loop-i-init
loop-i-init c =
    let (le, is) = c.in-Some.ensures in
    rw (add-zero, is) (outbox-none _ _ _ c.if-t-ne-OUTBOX_SIZE.false c.if-n-gt-OUTBOX_ROWS.false le)

pub returns-then-not-payment_in_frame : goal.returns-then-not-payment_in_frame
returns-then-not-payment_in_frame c =
    let a = c.args in
    sym (c.loop-i.invariant ∙ passes_fails payment_shape payment_test payment_next a.n (c.in-Some.first + c.loop-i.i) c.loop-i.i a.t.now c.loop-i-test.true
    (ap (payment_test (c.in-Some.first + c.loop-i.i)) (sym c.get-row.ensures) ∙ sym c.payment_in_frame.ensures ∙ c.if-not-payment_in_frame.true))

pub loop-i-preserved : goal.loop-i-preserved
loop-i-preserved c =
    let a = c.args in
    let e : c.in-Some.first + (c.loop-i.i + 1) ≡ c.in-Some.first + c.loop-i.i + 1 = omega arith in
    rw e (c.loop-i.invariant ∙ passes_goes payment_shape payment_test payment_next a.n (c.in-Some.first + c.loop-i.i) c.loop-i.i a.t.now c.loop-i-test.true
    (ap (payment_test (c.in-Some.first + c.loop-i.i)) (sym c.get-row.ensures) ∙ sym c.payment_in_frame.ensures ∙ c.if-not-payment_in_frame.false))

pub returns : goal.returns
returns c =
    let a = c.args in
    sym (c.loop-i.invariant ∙ passes_end payment_shape payment_test payment_next a.n (c.in-Some.first + c.loop-i.i) c.loop-i.i a.t.now c.loop-i-test.false)
