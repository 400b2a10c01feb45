-- The other way round: on a book in frame, a call whose facts hold, and whose tables have room, is accepted.
use Prim.Native.Nat.{ℕ, ◌+◌}
use mathlib.Core.Path.{◌≡◌}
use mathlib.Core.Logic.{◌↔◌}
use mathlib.Core.Bool.{true, false}
use mathlib.Core.List.{List}
use native.Mathlib.Omega.{arith}
use lib.ListN.{length}
use borrow.Author.Tests.{lt-leb, le-ltb, eq-eqb, ne_eqb}
use Rattle.promises.specs.Types.{Call}
use Rattle.rules.specs.Limits.{ceiling, highest_number, inbox_rows, outbox_rows, history_rows}
use Rattle.rules.specs.Lists.{all}
use Rattle.rules.specs.State.{Book, view, history_of, payments}
use Rattle.rules.specs.Refusals.{full, refusals, fulls, trace_refusals}
use Rattle.rules.specs.Effects.{balance, holder, total, oldest}
use Rattle.rules.specs.History.{withdrawals, history_in_frame}
use Rattle.rules.specs.Answer.{asked, frame_test, reply_number}
use Rattle.rules.specs.Facts.{Accepted, Fit, RoomIn, Room}
use Rattle.rules.proofs.Tests.{true_within, none_applies, nothing-smallest}
use Rattle.rules.proofs.Accepts.{by_number, fit, roomy}
use Rattle.promises.proofs.Framed.{Framed, framed}
use Rattle.promises.specs.Started.{Started}

-- a table with a row to spare is not full
not_full : {A : Type 0} (rows : ℕ) (used : List A) → RoomIn rows used → full rows used ≡ false
unfolding full
not_full rows used h = lt-leb rows (length used) h.room

-- no entry of the call's table applies
none_apply : (b : Book) (c : Call) → Started b → Fit (view b) c → Room (view b) c → none_applies (asked b c) ≡ true
unfolding all frame_test refusals fulls trace_refusals
none_apply b (Call.Deposit d) r k o =
    let last : ℕ = (view b).outside.last.0 in
    rw (
      r.frame,
      true_within 1 16 d.member k.member,
      true_within 1 8 d.asset k.asset,
      true_within 1 ceiling d.amount k.amount,
      lt-leb d.number.0 last (omega arith),
      le-ltb (last + 1) d.number.0 (omega arith),
      le-ltb highest_number d.number.0 k.numbered,
      le-ltb ceiling (total (view b).outside.lifetime d.asset + d.amount) k.below,
      not_full inbox_rows (view b).inbox o,
    )
none_apply b (Call.Claim c) r k o =
    rw (
      r.frame,
      true_within 1 16 c.member k.member,
      true_within 1 8 c.asset k.asset,
      true_within 1 ceiling c.amount k.amount,
      k.found,
      not_full history_rows (view b).history o,
    )
none_apply b (Call.Transfer t) r k o =
    rw (
      r.frame,
      true_within 1 16 t.from k.from,
      true_within 1 16 t.to k.to,
      true_within 1 8 t.asset k.asset,
      true_within 1 ceiling t.amount k.amount,
      ne_eqb t.from t.to k.others,
      le-ltb (balance (view b).balances t.from t.asset) t.amount k.enough,
      not_full history_rows (view b).history o,
    )
none_apply b (Call.Withdraw w) r k o =
    rw (
      r.frame,
      true_within 1 16 w.member k.member,
      true_within 1 8 w.asset k.asset,
      true_within 1 ceiling w.amount k.amount,
      true_within 1 65_535 w.payee k.payee,
      le-ltb (balance (view b).balances w.member w.asset) w.amount k.enough,
      not_full outbox_rows (payments (view b).outside) o.0,
      not_full history_rows (view b).history o.1,
    )
none_apply b Call.Send r k o = rw (r.frame, ne_eqb (length (view b).outside.waiting) 0 (λ e. omega arith))
none_apply b (Call.Settle n) r k o =
    rw (r.frame, ne_eqb (length (view b).outside.inflight) 0 (λ e. omega arith), eq-eqb (oldest (view b).outside.inflight).nonce.0 n.0 k.due)
none_apply b (Call.Grant g) r k o =
    rw (
      r.frame,
      true_within 1 16 g.from k.from,
      true_within 1 16 g.to k.to,
      true_within 1 8 g.domain k.domain,
      ne_eqb g.from g.to k.others,
      eq-eqb (holder (view b).holders g.domain) g.from k.holds,
      not_full history_rows (view b).history o,
    )
none_apply b (Call.Sign g) r k o =
    rw (
      r.frame,
      true_within 1 16 g.member k.member,
      true_within 1 8 g.domain k.domain,
      eq-eqb (holder (view b).holders g.domain) g.member k.holds,
    )
none_apply b (Call.Trace n) r k o =
    let f : Framed (view b) = framed b r.frame in
    let h : history_in_frame (history_of b) ≡ true = unfold view in k.replays in
    rw (r.frame, h, le-ltb history_rows (length (view b).history) f.records, lt-leb (withdrawals (view b).history) n.0 k.paid)

-- a call on a started book is accepted exactly if its facts hold
pub accepts : (b : Book) (c : Call) → Started b → Accepted b c ↔ Fit (view b) c × Room (view b) c
accepts b c r = (λ a. (fit b c a, roomy b c a), λ k. by_number b c (unfold reply_number in nothing-smallest (asked b c) (none_apply b c r k.0 k.1)))
