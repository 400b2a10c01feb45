-- `digits`: what is read from place i on, after the value so far, is what is read of all.
use mathlib.Core.Path.{◌≡◌, sym, ◌∙◌}
use native.Mathlib.Omega.{arith}
use lib.ListN.{length}
use Rattle.fields.proofs.FieldLaws.{end_here, end_none, from_first, from_end, from-not, from_more, grown_within}
use Rattle.fields.proofs.digits.Goals as goal

pub loop-i-init : goal.loop-i-init
loop-i-init c = (omega arith, from_first c.args.s.now)

pub returns-then-b-eq9 : goal.returns-then-b-eq9
returns-then-b-eq9 c =
    let l = c.loop-i in
    let s = c.args.s.now in
    sym (l.invariant.1 ∙ from_end s l.v l.i (end_here s l.i c.loop-i-test.true c.if-b-eq9.true) l.invariant.0)

pub returns-in_err-v : goal.returns-in_err-v
returns-in_err-v c =
    let l = c.loop-i in
    c.from_residual.ensures ∙ sym (l.invariant.1 ∙ from-not c.args.s.now l.v l.i c.loop-i-test.true c.if-b-eq9.false (sym (c.in_err-v.ensures)))

pub loop-i-preserved : goal.loop-i-preserved
loop-i-preserved c =
    let l = c.loop-i in
    (grown_within _ _ (sym c.in_ok-v.ensures), l.invariant.1 ∙ from_more c.args.s.now l.v l.i c.loop-i-test.true c.if-b-eq9.false (sym c.in_ok-v.ensures))

pub returns : goal.returns
returns c =
    let l = c.loop-i in
    let s = c.args.s.now in
    let e : l.i ≡ length s = omega arith in
    rw (← e) (sym (l.invariant.1 ∙ from_end s l.v l.i (end_none s l.i (omega arith)) l.invariant.0))
