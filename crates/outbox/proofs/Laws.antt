-- What withdraw, send and settle refuse, as the code's chain; and what a done one lays back.
use Rattle.std.specs.Prelude.{Result, Ok, Err}
use Prim.Native.Nat.{ℕ, zero, suc, ◌+◌, ◌-◌, ◌*◌, ◌≤◌, ◌<◌}
use mathlib.Core.Path.{◌≡◌, refl, sym, ap, ◌∙◌}
use mathlib.Core.Bool.{Bool, true, not, ◌&&◌, ◌||◌}
use mathlib.Core.List.{List, [], ◌∷◌, ◌++◌, append_assoc}
use native.Mathlib.Nat.{add-zero}
use native.Mathlib.Omega.{arith}
use lib.Dec.{leb, ltb, eqb}
use lib.ListN.{length, take, drop, length-append, length-drop, take-append-drop}
use lib.Seq.{drop-append-le, length-take-le}
use Rattle.rules.specs.declared.desk.Desk.{Desk}
use Rattle.rules.specs.declared.rows.Nonce.{Nonce}
use Rattle.rules.specs.declared.rows.Payment.{Payment}
use Rattle.rules.specs.declared.calls.Call.{Call}
use Rattle.rules.specs.declared.calls.WithdrawalFields.{WithdrawalFields}
use Rattle.rules.specs.declared.answers.Refusal.{Refusal}
use Rattle.rules.specs.declared.answers.Done.{Done}
use Rattle.rules.specs.Limits.{ceiling, outbox_rows, history_rows, is_member, is_asset, is_amount, is_payee}
use Rattle.rules.specs.Lists.{all}
use Rattle.rules.specs.Tables.{rows_of, lay, edited, payment_shape, record_shape}
use Rattle.rules.specs.State.{State, Book, view, laid, desk_of, outbox_of, history_of, payments}
use Rattle.rules.specs.Replies.{told_refusal, told, answered, plainly, plain, smallest}
use Rattle.rules.specs.Refusals.{table, refusals, full, fulls}
use Rattle.rules.specs.Effects.{balance, oldest, payment_of, withdrawn, sent, settled_one, effect, balances_after, holders_after, inbox_edit, outside_after, withdrawal_record, records_of}
use Rattle.rules.specs.Frame.{payment_in_limits, in_frame}
use Rattle.rules.specs.Answer.{frame_test, done, answer, reply_number, done_answer, pieces_of, book_of, outcome_of}
use Rattle.rules.proofs.Laying.{length-rows, take-rows, drop-rows}
use Rattle.rules.proofs.Shapes.{payment_sound}
use Rattle.rules.specs.Facts.{Accepted, WithdrawalFit, SendFit, SettleFit}
use Rattle.rules.proofs.Tests.{ands-at, both, within_true}
use Rattle.rules.proofs.Accepts.{fit, roomy, accepted-frame}
use Rattle.tables.specs.Rows.{row_from, row_at, put_at, taken_out}
use Rattle.tables.proofs.Laid.{row_added, row-taken}
use Rattle.desk.proofs.Chains.{Entry, chain, not_below, chain-told}
use Rattle.rules.proofs.Books.{Framed, framed, inbox-kept, outbox-kept, history-kept, payments_are, inbox-count, outbox-count, flight_count, history-count}
use Rattle.desk.proofs.Books.{framed_reply, unframed_reply, refuses, accepts, lays, record_added, balance-low, balance-set, eight_low, eight_set_lem}
use Rattle.outbox.specs.After.{withdrawn_desk, sent_desk, settled_desk, CanWithdraw, CanSettle}

-- ---- the rows
-- the oldest of some rows is the first
pub oldest-row : (n at : ℕ) (t : List ℕ) → 1 ≤ n → oldest (rows_of payment_shape n (drop at t)) ≡ row_from payment_shape at t
unfolding oldest rows_of
oldest-row zero at t h = absurd (omega arith)
oldest-row (suc n) at t h = refl

module _ (b : Book) (f : Framed b) where
  -- the oldest payment in flight is the first row of the outbox
  pub flight_row : 1 ≤ b.desk.counts.inflight → oldest (view b).outside.inflight ≡ row_at payment_shape 0 b.outbox
  unfolding view
  flight_row h = rw (take-rows payment_shape b.desk.counts.payments b.desk.counts.inflight b.outbox f.inflight) (oldest-row b.desk.counts.inflight 0 b.outbox h)

  -- the oldest that waits is the row after those in flight
  pub waiting-row : b.desk.counts.inflight < b.desk.counts.payments → oldest (view b).outside.waiting ≡ row_at payment_shape b.desk.counts.inflight b.outbox
  unfolding view
  waiting-row h =
      rw (drop-rows payment_shape b.desk.counts.payments b.desk.counts.inflight b.outbox f.inflight)
      (oldest-row (b.desk.counts.payments - b.desk.counts.inflight) (b.desk.counts.inflight * payment_shape.width) b.outbox (omega arith))

-- ---- the tables of refusals
abbrev pub withdraw_entries : State → WithdrawalFields → List Entry
withdraw_entries s w =
    (Refusal.BadMember, not (is_member w.member))
    ∷ (Refusal.BadAsset, not (is_asset w.asset))
    ∷ (Refusal.BadAmount, not (is_amount w.amount))
    ∷ (Refusal.BadPayee, not (is_payee w.payee))
    ∷ (Refusal.Short, ltb (balance s.balances w.member w.asset) w.amount)
    ∷ (Refusal.OutboxFull, leb outbox_rows (length (payments s.outside)))
    ∷ (Refusal.HistoryFull, leb history_rows (length s.history))
    ∷ []

pub withdraw_told : (w : WithdrawalFields) (s : State) (r : Result (Unit {0}) Refusal) → r ≡ chain (withdraw_entries s w)
    → told (plainly r) ≡ plain (smallest (table s (Call.Withdraw w)))
unfolding refusals fulls full told_refusal not_below all
withdraw_told w s r e = rw e (chain-told (withdraw_entries s w) refl)

abbrev pub send_entries : State → List Entry
send_entries s = (Refusal.NothingWaiting, eqb (length s.outside.waiting) 0) ∷ []

pub send_told : (s : State) (r : Result (Unit {0}) Refusal) → r ≡ chain (send_entries s) → told (plainly r) ≡ plain (smallest (table s Call.Send))
unfolding refusals fulls told_refusal not_below all
send_told s r e = rw e (chain-told (send_entries s) refl)

abbrev pub settle_entries : State → Nonce → List Entry
settle_entries s n = (Refusal.NotNext, eqb (length s.outside.inflight) 0 || not (eqb (oldest s.outside.inflight).nonce.0 n.0)) ∷ []

pub settle_told : (n : Nonce) (s : State) (r : Result (Unit {0}) Refusal) → r ≡ chain (settle_entries s n) → told (plainly r) ≡ plain (smallest (table s (Call.Settle n)))
unfolding refusals fulls told_refusal not_below all
settle_told n s r e = rw e (chain-told (settle_entries s n) refl)

-- ---- what they read, of any book
-- how many payments there are
pub payments-count : (b : Book) → length (payments (view b).outside) ≡ b.desk.counts.payments
unfolding view
payments-count b = rw (take-append-drop b.desk.counts.inflight (outbox_of b)) (length-rows payment_shape b.desk.counts.payments b.outbox)

-- and how many wait
pub waiting-count : (b : Book) → length (view b).outside.waiting ≡ b.desk.counts.payments - b.desk.counts.inflight
unfolding view
waiting-count b = length-drop b.desk.counts.inflight (outbox_of b) ∙ ap (λ (n : ℕ). n - b.desk.counts.inflight) (length-rows payment_shape b.desk.counts.payments b.outbox)

-- ---- of a book in frame a call's table tells what the rules answer
pub withdraw_met : (b : Book) (w : WithdrawalFields) (r : Result (Unit {0}) Refusal) → in_frame b ≡ true
    → ((s : State) → s.balances ≡ b.desk.balances → length (payments s.outside) ≡ b.desk.counts.payments → length s.history ≡ b.desk.counts.records → told (plainly r) ≡ plain (smallest (table s (Call.Withdraw w))))
    → told (plainly r) ≡ plain (reply_number b (Call.Withdraw w))
unfolding frame_test view
withdraw_met b w r f h = framed_reply b (Call.Withdraw w) r refl f (h (view b) refl (payments-count b) (length-rows record_shape b.desk.counts.records b.history))

pub withdraw_accepted : (b : Book) (w : WithdrawalFields) → in_frame b ≡ true
    → ((s : State) → s.balances ≡ b.desk.balances → length (payments s.outside) ≡ b.desk.counts.payments → length s.history ≡ b.desk.counts.records → told (Ok Done.Plain) ≡ plain (smallest (table s (Call.Withdraw w))))
    → Accepted b (Call.Withdraw w)
withdraw_accepted b w f h = accepts b (Call.Withdraw w) (withdraw_met b w (Ok tt) f h)

pub send_met : (b : Book) (r : Result (Unit {0}) Refusal) → in_frame b ≡ true
    → ((s : State) → length s.outside.waiting ≡ b.desk.counts.payments - b.desk.counts.inflight → told (plainly r) ≡ plain (smallest (table s Call.Send)))
    → told (plainly r) ≡ plain (reply_number b Call.Send)
unfolding frame_test
send_met b r f h = framed_reply b Call.Send r refl f (h (view b) (waiting-count b))

pub send_accepted : (b : Book) → in_frame b ≡ true
    → ((s : State) → length s.outside.waiting ≡ b.desk.counts.payments - b.desk.counts.inflight → told (Ok Done.Plain) ≡ plain (smallest (table s Call.Send)))
    → Accepted b Call.Send
send_accepted b f h = accepts b Call.Send (send_met b (Ok tt) f h)

-- and a send, which gives a payment, is refused with that number
pub send_refused : (b : Book) (why : Refusal) (r : Result Payment Refusal) → r ≡ Err why → in_frame b ≡ true
    → ((s : State) → length s.outside.waiting ≡ b.desk.counts.payments - b.desk.counts.inflight → told (Err why) ≡ plain (smallest (table s Call.Send)))
    → outcome_of (answered Done.Sent r) b ≡ answer b Call.Send
send_refused b why r e f h = rw e (refuses b Call.Send why (send_met b (Err why) f h))

pub settle_met : (b : Book) (n : Nonce) (r : Result (Unit {0}) Refusal) → in_frame b ≡ true
    → ((s : State) → length s.outside.inflight ≡ b.desk.counts.inflight → (1 ≤ b.desk.counts.inflight → (oldest s.outside.inflight).nonce ≡ (row_at payment_shape 0 b.outbox).nonce) → told (plainly r) ≡ plain (smallest (table s (Call.Settle n))))
    → told (plainly r) ≡ plain (reply_number b (Call.Settle n))
unfolding frame_test
settle_met b n r f h = framed_reply b (Call.Settle n) r refl f (h (view b) (flight_count b (framed b f)) (λ k. ap (λ (p : Payment). p.nonce) (flight_row b (framed b f) k)))

pub settle_accepted : (b : Book) (n : Nonce) → in_frame b ≡ true
    → ((s : State) → length s.outside.inflight ≡ b.desk.counts.inflight → (1 ≤ b.desk.counts.inflight → (oldest s.outside.inflight).nonce ≡ (row_at payment_shape 0 b.outbox).nonce) → told (Ok Done.Plain) ≡ plain (smallest (table s (Call.Settle n))))
    → Accepted b (Call.Settle n)
settle_accepted b n f h = accepts b (Call.Settle n) (settle_met b n (Ok tt) f h)

-- ---- what makes it safe
pub can_withdraw : (b : Book) (w : WithdrawalFields) → Accepted b (Call.Withdraw w) → CanWithdraw b.desk w
unfolding view
can_withdraw b w a =
    let f : Framed b = framed b (accepted-frame b (Call.Withdraw w) a) in
    let q : WithdrawalFit (view b) w = fit b (Call.Withdraw w) a in
    let l : length (history_of b) ≡ b.desk.counts.records = length-rows record_shape b.desk.counts.records b.history in
    record {
      member = q.member;
      asset = q.asset;
      enough = q.enough;
      next = f.next;
      payments = omega (arith, (roomy b (Call.Withdraw w) a).0.room, payments-count b);
      records = omega (arith, (roomy b (Call.Withdraw w) a).1.room);
    }

-- some payment waits
pub can_send : (b : Book) → Accepted b Call.Send → b.desk.counts.inflight < b.desk.counts.payments
can_send b a =
    let q : SendFit (view b) = fit b Call.Send a in
    omega (arith, q.some, waiting-count b)

-- in an outbox of 32 rows
pub send_fits : (b : Book) → Accepted b Call.Send → b.desk.counts.inflight < outbox_rows
send_fits b a = omega (arith, can_send b a, (framed b (accepted-frame b Call.Send a)).payments)

-- some payment is in flight
pub some_flies : (b : Book) (n : Nonce) → Accepted b (Call.Settle n) → 1 ≤ b.desk.counts.inflight
some_flies b n a =
    let f : Framed b = framed b (accepted-frame b (Call.Settle n) a) in
    let q : SettleFit (view b) n = fit b (Call.Settle n) a in
    omega (arith, q.some, flight_count b f)

-- the rows of an outbox in frame are within their limits
limits : (b : Book) → in_frame b ≡ true → all payment_in_limits (outbox_of b) ≡ true
unfolding in_frame
limits b h = ap (all payment_in_limits) (sym (payments_are b (framed b h))) ∙ ands-at _ 11 h

-- of some payments that all pass a test the oldest does
oldest-passes : (p : Payment → Bool) (ps : List Payment) → 1 ≤ length ps → all p ps ≡ true → p (oldest ps) ≡ true
unfolding oldest all
oldest-passes p [] h e = absurd (omega arith)
oldest-passes p (x ∷ ps) h e = (both (p x) (all p ps) e).0

-- so the first row is
row_limits : (b : Book) → in_frame b ≡ true → 1 ≤ b.desk.counts.payments → payment_in_limits (row_at payment_shape 0 b.outbox) ≡ true
row_limits b h s =
    ap payment_in_limits (sym (oldest-row b.desk.counts.payments 0 b.outbox s))
    ∙ oldest-passes payment_in_limits (outbox_of b) (rw (length-rows payment_shape b.desk.counts.payments b.outbox) s) (limits b h)

pub can_settle : (b : Book) (n : Nonce) → Accepted b (Call.Settle n) → CanSettle b.desk (row_at payment_shape 0 b.outbox)
can_settle b n a =
    let e : in_frame b ≡ true = accepted-frame b (Call.Settle n) a in
    let f : Framed b = framed b e in
    let s : 1 ≤ b.desk.counts.inflight = some_flies b n a in
    let p : Payment = row_at payment_shape 0 b.outbox in
    let (x, r) = both (is_asset p.asset) (is_amount p.amount && is_payee p.payee) (row_limits b e (omega arith)) in
    let (y, z) = both (is_amount p.amount) (is_payee p.payee) r in
    record {
      asset = within_true 1 8 p.asset x;
      amount = (within_true 1 ceiling p.amount y).high;
      settled = f.settled;
      payments = f.payments;
      inflight = f.inflight;
      some = s;
    }

-- ---- what is laid back into the outbox: with one row more, as it was, or with the first taken out
module _ (b : Book) (f : Framed b) where
  pub payment_added : (p : Payment) → b.desk.counts.payments < outbox_rows
      → lay payment_shape ((view b).outside.inflight ++ ((view b).outside.waiting ++ (p ∷ []))) b.desk.counts.payments b.outbox
      ≡ put_at (b.desk.counts.payments * payment_shape.width) (payment_shape.flat p) b.outbox
  payment_added p h =
      rw (← append_assoc (view b).outside.inflight (view b).outside.waiting (p ∷ []), payments_are b f)
      (row_added payment_shape payment_sound b.desk.counts.payments b.outbox p (omega arith))

  pub added_count : (p : Payment) → length ((view b).outside.inflight ++ ((view b).outside.waiting ++ (p ∷ []))) ≡ b.desk.counts.payments + 1
  added_count p =
      rw (← append_assoc (view b).outside.inflight (view b).outside.waiting (p ∷ []))
      (length-append (payments (view b).outside) (p ∷ []) ∙ ap (λ (n : ℕ). n + 1) (outbox-count b f))

  -- one more is in flight, and the rows are the same
  pub sent-same : ((view b).outside.inflight ++ take 1 (view b).outside.waiting) ++ drop 1 (view b).outside.waiting ≡ payments (view b).outside
  sent-same =
      append_assoc (view b).outside.inflight (take 1 (view b).outside.waiting) (drop 1 (view b).outside.waiting)
      ∙ ap (λ (r : List Payment). (view b).outside.inflight ++ r) (take-append-drop 1 (view b).outside.waiting)

  pub sent-count : b.desk.counts.inflight < b.desk.counts.payments → length ((view b).outside.inflight ++ take 1 (view b).outside.waiting) ≡ b.desk.counts.inflight + 1
  sent-count h =
      let w : length (view b).outside.waiting ≡ b.desk.counts.payments - b.desk.counts.inflight = waiting-count b in
      let l : length (take 1 (view b).outside.waiting) ≡ 1 = length-take-le 1 (view b).outside.waiting (omega arith) in
      length-append (view b).outside.inflight (take 1 (view b).outside.waiting) ∙ rw (flight_count b f, l)

  -- the first in flight is the first row
  rest_are : 1 ≤ b.desk.counts.inflight → drop 1 (view b).outside.inflight ++ (view b).outside.waiting ≡ drop 1 (outbox_of b)
  rest_are h =
      let l : length (view b).outside.inflight ≡ b.desk.counts.inflight = flight_count b f in
      sym (drop-append-le 1 (view b).outside.inflight (view b).outside.waiting (omega arith)) ∙ ap (drop 1) (payments_are b f)

  pub payment-taken : 1 ≤ b.desk.counts.inflight
      → lay payment_shape (drop 1 (view b).outside.inflight ++ (view b).outside.waiting) b.desk.counts.payments b.outbox ≡ taken_out payment_shape.width 0 b.desk.counts.payments b.outbox
  unfolding edited
  payment-taken h = rw (rest_are h) (row-taken payment_shape payment_sound b.desk.counts.payments b.outbox 0 (omega arith) (omega arith))

  pub taken-count : 1 ≤ b.desk.counts.inflight → length (drop 1 (view b).outside.inflight ++ (view b).outside.waiting) ≡ b.desk.counts.payments - 1
  taken-count h = rw (rest_are h) (length-drop 1 (outbox_of b) ∙ ap (λ (n : ℕ). n - 1) (length-rows payment_shape b.desk.counts.payments b.outbox))

  pub fewer_fly : length (drop 1 (view b).outside.inflight) ≡ b.desk.counts.inflight - 1
  fewer_fly = length-drop 1 (view b).outside.inflight ∙ ap (λ (n : ℕ). n - 1) (flight_count b f)

  -- a call that writes no record leaves as many
  pub no_record : length (history_of b ++ []) ≡ b.desk.counts.records
  no_record = history-count b f [] ∙ add-zero b.desk.counts.records

-- ---- what is laid
pub withdraw-laid : (b : Book) (w : WithdrawalFields) → Framed b → CanWithdraw b.desk w
    → book_of (withdrawn_desk b.desk w) b.inbox
    (put_at (b.desk.counts.payments * payment_shape.width) (payment_shape.flat (payment_of w b.desk.counts.next)) b.outbox)
    (put_at (b.desk.counts.records * record_shape.width) (record_shape.flat (withdrawal_record w)) b.history)
    ≡ done (Call.Withdraw w) b
unfolding laid desk_of effect balances_after holders_after inbox_edit edited outside_after withdrawn records_of withdrawn_desk view
withdraw-laid b w f h =
    rw (
      inbox-kept b f,
      payment_added b f (payment_of w b.desk.counts.next) h.payments,
      record_added b f (withdrawal_record w) h.records,
      inbox-count b f,
      added_count b f (payment_of w b.desk.counts.next),
      flight_count b f,
      history-count b f (withdrawal_record w ∷ []),
    )

pub send-laid : (b : Book) → Framed b → b.desk.counts.inflight < b.desk.counts.payments
    → book_of (sent_desk b.desk) b.inbox b.outbox b.history ≡ done Call.Send b
unfolding laid desk_of effect balances_after holders_after inbox_edit edited outside_after sent records_of view
send-laid b f h =
    rw (
      sent-same b f,
      inbox-kept b f,
      outbox-kept b f,
      history-kept b f,
      inbox-count b f,
      outbox-count b f,
      sent-count b f h,
      no_record b f,
    )

pub settle-laid : (b : Book) (n : Nonce) → Framed b → 1 ≤ b.desk.counts.inflight
    → book_of (settled_desk b.desk (row_at payment_shape 0 b.outbox)) b.inbox (taken_out payment_shape.width 0 b.desk.counts.payments b.outbox) b.history
    ≡ done (Call.Settle n) b
unfolding laid desk_of effect balances_after holders_after inbox_edit edited outside_after settled_one records_of settled_desk view
settle-laid b n f h =
    rw (
      flight_row b f h,
      inbox-kept b f,
      payment-taken b f h,
      history-kept b f,
      inbox-count b f,
      taken-count b f h,
      fewer_fly b f,
      no_record b f,
    )

-- ---- what a done call leaves
pub withdraw_lays : (b : Book) (w : WithdrawalFields) → Accepted b (Call.Withdraw w) → (desk : Desk) (outbox history : List ℕ) → desk ≡ withdrawn_desk b.desk w
    → outbox ≡ put_at (b.desk.counts.payments * payment_shape.width) (payment_shape.flat (payment_of w b.desk.counts.next)) b.outbox
    → history ≡ put_at (b.desk.counts.records * record_shape.width) (record_shape.flat (withdrawal_record w)) b.history
    → outcome_of (Ok Done.Plain) (book_of desk b.inbox outbox history) ≡ answer b (Call.Withdraw w)
unfolding done_answer pieces_of
withdraw_lays b w y desk outbox history p q r =
    lays b (Call.Withdraw w) y (Ok Done.Plain) (book_of desk b.inbox outbox history) refl refl
    (rw (p, q, r) (withdraw-laid b w (framed b (accepted-frame b (Call.Withdraw w) y)) (can_withdraw b w y)))

pub send_lays : (b : Book) → Accepted b Call.Send → (p : Payment) → p ≡ row_at payment_shape b.desk.counts.inflight b.outbox
    → outcome_of (Ok (Done.Sent p)) (book_of (sent_desk b.desk) b.inbox b.outbox b.history) ≡ answer b Call.Send
unfolding done_answer pieces_of
send_lays b y p e =
    let f : Framed b = framed b (accepted-frame b Call.Send y) in
    lays b Call.Send y (Ok (Done.Sent p)) (book_of (sent_desk b.desk) b.inbox b.outbox b.history)
    (ap (λ (x : Payment). told (Ok (Done.Sent x))) (e ∙ sym (waiting-row b f (can_send b y)))) refl (send-laid b f (can_send b y))

pub settle_lays : (b : Book) (n : Nonce) → Accepted b (Call.Settle n) → (desk : Desk) (outbox : List ℕ) → desk ≡ settled_desk b.desk (row_at payment_shape 0 b.outbox)
    → outbox ≡ taken_out payment_shape.width 0 b.desk.counts.payments b.outbox
    → outcome_of (Ok Done.Plain) (book_of desk b.inbox outbox b.history) ≡ answer b (Call.Settle n)
unfolding done_answer pieces_of
settle_lays b n y desk outbox p q =
    lays b (Call.Settle n) y (Ok Done.Plain) (book_of desk b.inbox outbox b.history) refl refl
    (rw (p, q) (settle-laid b n (framed b (accepted-frame b (Call.Settle n) y)) (can_settle b n y).some))

-- ---- what each function's proof looks in
pub ruleset withdraw_call = (refuses, unframed_reply, withdraw_met, withdraw_accepted)

pub ruleset send_call = (refuses, unframed_reply, send_refused, send_accepted)

pub ruleset settle_call = (refuses, unframed_reply, settle_met, settle_accepted)

pub ruleset withdraw_done = (can_withdraw, withdraw_lays)

pub ruleset send_done = (send_fits, send_lays)

pub ruleset settle_done = (can_settle, settle_lays)

pub ruleset balances = (balance-low, balance-set)

pub ruleset totals = (eight_low, eight_set_lem)
