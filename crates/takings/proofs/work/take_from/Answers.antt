use Rattle.std.proofs.Common.{◌≡◌, ◌∙◌, Option, ap, sym, arith}
use mathlib.Core.Logic.{◌⊎◌, inl, inr}
use Rattle.std.specs.List.{copy_within}
use borrow.Author.Tests.{ne_eqb}
use Rattle.rules.specs.declared.rows.Lot.{Lot}
use Rattle.takings.proofs.Passing.{written, going_first, going_on, going_done, going_last}
use Rattle.takings.proofs.work.take_from.Goals as goal
use Rattle.takings.proofs.work.take_from.Goals.{in-Some, in_default, in-Some-rest, in_default-rest, then-s-i, else-s-i}

pub loop-i-init : goal.loop-i-init
loop-i-init c = going_first c.args.member c.args.asset c.args.amount c.args.used c.args.work.now c.args.held.now c.requires

-- one turn: a row read, asked and written
pub loop-i-preserved : goal.loop-i-preserved
loop-i-preserved c =
    let a = c.args in
    let l = c.loop-i in
    let r = c.cut_lot-c.result in
    let hs : c.match-c.held ≡ written r.piece l.s.taken l.held = elim c.match-c.branch [
      | in-Some w ↦ w.held-is ∙ w.append.ensures ∙ ap (λ (o : Option Lot). written o l.s.taken l.held) (sym w.in-Some.is)
      | in_default w ↦ w.held-is ∙ ap (λ (o : Option Lot). written o l.s.taken l.held) (sym w.in_default.is)
    ] in
    let ws : c.match-c-2.work ≡ written r.rest l.s.kept l.work = elim c.match-c-2.branch [
      | in-Some-rest w ↦ w.work-is ∙ w.append-in-Some-rest.ensures ∙ ap (λ (o : Option Lot). written o l.s.kept l.work) (sym w.in-Some-rest.is)
      | in_default-rest w ↦ w.work-is ∙ ap (λ (o : Option Lot). written o l.s.kept l.work) (sym w.in_default-rest.is)
    ] in
    going_on a.member a.asset a.amount a.used a.work.now a.held.now c.requires l.i l.s l.work l.held l.invariant l.auto.work l.auto.held
    (omega arith) (ne_eqb l.s.due 0 c.if-s-eq0.false) c.lot_at.result c.lot_at.ensures r c.cut_lot-c.ensures c.match-c.held c.match-c-2.work hs ws

-- nothing is due any more, and the rows left move up
pub returns-then-s-eq0 : goal.returns-then-s-eq0
returns-then-s-eq0 c =
    let a = c.args in
    let l = c.loop-i in
    let up : (c.if-s-i.work ≡ copy_within l.work l.i a.used l.s.kept) ⊎ ((l.s.kept ≡ l.i) × (c.if-s-i.work ≡ l.work)) = elim c.if-s-i.branch [ then-s-i w ↦ inl (w.work-is ∙ w.copy_within.ensures.after) | else-s-i w ↦ inr (omega arith, w.work-is) ] in
    going_done a.member a.asset a.amount a.used a.work.now a.held.now c.requires l.i l.s l.work l.held l.invariant l.auto.work l.auto.held c.if-s-eq0.true c.if-s-i.work c.if-s-i.auto.work up

-- every row was looked at
pub returns : goal.returns
returns c =
    let a = c.args in
    let l = c.loop-i in
    going_last a.member a.asset a.amount a.used a.work.now a.held.now c.requires l.i l.s l.work l.held l.invariant l.auto.work l.auto.held (omega arith)
