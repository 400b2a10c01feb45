use mathlib.Core.Path.{◌≡◌, refl, sym, ap, ◌∙◌}
use mathlib.Core.Bool.{true}
use native.Mathlib.Omega.{arith}
use Rattle.rules.specs.Tables.{record_shape}
use Rattle.rules.specs.State.{first_holders, empty_state}
use Rattle.rules.specs.History.{fits, standing_after, standing_from}
use Rattle.tables.proofs.Rest.{passes_fails, passes_goes, passes_end}
use Rattle.records.proofs.Following.{history-count, history-size, history-none, low_first, low-next, can_follow}
use Rattle.records.proofs.frame.history_in_frame.Goals as goal
use Rattle.records.proofs.frame.history_in_frame.Goals.{then-records-gt-HISTORY_ROWS-via-then-records-gt-HISTORY_ROWS, then-records-gt-HISTORY_ROWS-via-else-records-gt-HISTORY_ROWS+then-history-records}

pub returns-then-records-gt-HISTORY_ROWS : goal.returns-then-records-gt-HISTORY_ROWS
returns-then-records-gt-HISTORY_ROWS c =
    elim c.then-records-gt-HISTORY_ROWS.branch [
      | then-records-gt-HISTORY_ROWS-via-then-records-gt-HISTORY_ROWS w ↦ history-count _ _ w.if-records-gt-HISTORY_ROWS.true
      | then-records-gt-HISTORY_ROWS-via-else-records-gt-HISTORY_ROWS+then-history-records w ↦ history-size _ _ w.if-records-gt-HISTORY_ROWS.false w.if-history-records.true
    ]

pub loop-i-init : goal.loop-i-init
unfolding standing_from first_holders empty_state
loop-i-init c = record {
  low = low_first;
  left = history-none _ _ c.if-records-gt-HISTORY_ROWS.false c.if-history-records.false _ refl;
}

pub returns-then-not-fits : goal.returns-then-not-fits
returns-then-not-fits c =
    let l = c.loop-i in
    sym (l.invariant.left ∙ passes_fails record_shape fits standing_after c.args.records l.standing l.i c.args.history.now c.loop-i-test.true
    (ap (fits l.standing) (sym c.record_at-r.ensures) ∙ sym c.fits.ensures ∙ c.if-not-fits.true))

pub follow-requires : goal.follow-requires
follow-requires c =
    let l = c.loop-i in
    can_follow l.i l.standing c.record_at-r.result (omega arith) (sym c.fits.ensures ∙ c.if-not-fits.false) l.invariant.low

pub loop-i-preserved : goal.loop-i-preserved
loop-i-preserved c =
    let l = c.loop-i in
    let f : fits l.standing c.record_at-r.result ≡ true = sym c.fits.ensures ∙ c.if-not-fits.false in record {
      low = rw c.follow.ensures (low-next l.i l.standing c.record_at-r.result f l.invariant.low);
      left = rw (c.follow.ensures, c.record_at-r.ensures)
          (l.invariant.left ∙ passes_goes record_shape fits standing_after c.args.records l.standing l.i c.args.history.now c.loop-i-test.true (ap (fits l.standing) (sym c.record_at-r.ensures) ∙ f));
    }

pub returns : goal.returns
returns c =
    let l = c.loop-i in
    sym (l.invariant.left ∙ passes_end record_shape fits standing_after c.args.records l.standing l.i c.args.history.now c.loop-i-test.false)
