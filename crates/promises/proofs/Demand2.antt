-- Demand 2, proved: after any calls from an empty book.
use Prim.Native.Nat.{ℕ, ◌+◌, ◌-◌, ◌<◌}
use mathlib.Core.Path.{◌≡◌, refl, sym, ap, ap₂, ◌∙◌}
use mathlib.Core.Bool.{true, not, ◌||◌}
use mathlib.Core.List.{List, [], ◌++◌, map, map-append}
use native.Mathlib.Omega.{arith}
use lib.ListN.{length, get_or, take, length-append, length-map}
use lib.Seq.{take_at}
use Rattle.promises.specs.Types.{Nonce, Deposit, Payment, Record, Call}
use Rattle.rules.specs.Lists.{all, any, joined, those}
use Rattle.rules.specs.State.{State, Book, view, empty_state, Empty}
use Rattle.rules.specs.Effects.{total, records_of}
use Rattle.rules.specs.History.{withdrawals}
use Rattle.rules.specs.Runs.{run, accepted, deposits, sends}
use Rattle.rules.specs.Sheet.{up_from, accepted_deposits, settled_sum, unclaimed_sum, balances_sum, outbox_sum, BalanceSheet, chain_total}
use Rattle.lots.specs.Traces.{is_named}
use Rattle.promises.specs.Demand2.{nonce_of, queued, no_payment, claims, is_claimed, claims_lot, made, record_of, payment_by, traced}
use Rattle.promises.specs.Started.{Balanced, Started, OrderSince, Since}
use Rattle.promises.specs.Promises.{Sheet, InOrder, PaymentTraced, Demand2}
use Rattle.promises.proofs.Base.{view_empty}
use Rattle.promises.proofs.Reached.{started_empty, total_zeros}
use Rattle.promises.proofs.UpFrom.{up-length, up_first}
use Rattle.promises.proofs.Queue.{in_line_lem, queue}
use Rattle.promises.proofs.Leaves.{leaves}
use Rattle.promises.proofs.Accepts.{accepts}
use Rattle.promises.proofs.StartedBooks.{in_frame_lem, by_history_lem}
use Rattle.promises.proofs.Traces.{payment-traced}
use Rattle.promises.proofs.Since.{since}

-- of all nonces from 0 on, those of the first payments are the first
first-nonces : (ss ws : List Payment) (n : ℕ) → map nonce_of (ss ++ ws) ≡ up_from 0 n → map nonce_of ss ≡ up_from 0 (length ss)
first-nonces ss ws n h =
    let p : map nonce_of ss ++ map nonce_of ws ≡ up_from 0 n = sym (map-append nonce_of ss ws) ∙ h in
    let l : length (map nonce_of ss) ≡ length ss = length-map ss nonce_of in
    let m : length (map nonce_of ss) + length (map nonce_of ws) ≡ n = sym (length-append (map nonce_of ss) (map nonce_of ws)) ∙ ap length p ∙ up-length 0 n in
    sym (take_at (map nonce_of ss) (map nonce_of ws) (length ss) l) ∙ ap (take (length ss)) p ∙ up_first 0 (length ss) n (omega arith)

module _ (b : Book) (cs : List Call) (e : Empty b) where
  -- what is so from any start on is so from an empty book on, and there nothing was before
  from_start : Since b cs
  from_start = since b cs (started_empty b e)

  no_row : (view b).inbox ≡ []
  no_row = ap (λ (s : State). s.inbox) (view_empty b e) ∙ unfold empty_state in refl

  no_record : (view b).history ≡ []
  no_record = ap (λ (s : State). s.history) (view_empty b e) ∙ unfold empty_state in refl

  none_flies : (view b).outside.inflight ≡ []
  none_flies = ap (λ (s : State). s.outside.inflight) (view_empty b e) ∙ unfold empty_state in refl

  none_waits : (view b).outside.waiting ≡ []
  none_waits = ap (λ (s : State). s.outside.waiting) (view_empty b e) ∙ unfold empty_state in refl

  last_is : (view b).outside.last.0 ≡ 0
  last_is = ap (λ (s : State). s.outside.last.0) (view_empty b e) ∙ unfold empty_state in refl

  next_is : (view b).outside.next.0 ≡ 0
  next_is = ap (λ (s : State). s.outside.next.0) (view_empty b e) ∙ unfold empty_state in refl

  -- the desk's totals are the sums over the accepted calls
  lifetime-sum : (a : ℕ) → total (view (run b cs)).outside.lifetime a ≡ accepted_deposits a b cs
  lifetime-sum a =
      let z : total (view b).outside.lifetime a ≡ 0 = ap (λ (s : State). total s.outside.lifetime a) (view_empty b e) ∙ unfold empty_state in total_zeros 8 a in
      omega (arith, (from_start.totals a).lifetime)

  settled-sum : (a : ℕ) → total (view (run b cs)).outside.settled a ≡ settled_sum a b cs
  settled-sum a =
      let z : total (view b).outside.settled a ≡ 0 = ap (λ (s : State). total s.outside.settled a) (view_empty b e) ∙ unfold empty_state in total_zeros 8 a in
      omega (arith, (from_start.totals a).settled)

  -- the five terms, from the state's sheet and the two sums
  sheet : (a : ℕ) → Sheet a b cs
  unfolding BalanceSheet chain_total unclaimed_sum balances_sum outbox_sum
  sheet a =
      let s : Balanced (view (run b cs)) a = from_start.started.agreed.sheet a in
      let l : total (view (run b cs)).outside.lifetime a ≡ accepted_deposits a b cs = lifetime-sum a in
      let t : total (view (run b cs)).outside.settled a ≡ settled_sum a b cs = settled-sum a in
      record { sheet = omega arith; lifetime = l; settled = t; less = omega arith; chain = omega arith }

  -- the payments made are those queued
  made-queued : made b cs ≡ queued b cs
  made-queued = in_line_lem b cs (started_empty b e) ∙ ap (λ (ps : List Payment). ps ++ queued b cs) none_waits

  next-length : (view (run b cs)).outside.next.0 ≡ length (queued b cs)
  next-length = omega (arith, from_start.order.next, next_is)

  made-nonces : map nonce_of (made b cs) ≡ up_from 0 (view (run b cs)).outside.next.0
  made-nonces = ap (map nonce_of) made-queued ∙ from_start.order.nonces ∙ rw (next_is, next-length)

  made-count : length (made b cs) ≡ withdrawals (view (run b cs)).history
  made-count = ap length made-queued ∙ sym next-length ∙ from_start.started.agreed.counts

  last-length : (view (run b cs)).outside.last.0 ≡ length (deposits b cs)
  last-length = omega (arith, from_start.order.last, last_is)

  -- numbers, nonces and order
  in_order : InOrder b cs
  in_order =
      let o : OrderSince b cs = from_start.order in
      record {
        numbers = o.numbers ∙ rw last_is;
        last = last-length;
        nonces = made-nonces;
        sent_nonces = first-nonces (sends b cs) (view (run b cs)).outside.waiting (view (run b cs)).outside.next.0 made-nonces;
        settled = sym (ap (λ (ps : List Payment). ps ++ sends b cs) none_flies) ∙ o.settled;
      }

  -- every payment has its trace
  traces : (n : Nonce) → n.0 < (view (run b cs)).outside.next.0 → PaymentTraced b cs n
  traces n i = payment-traced b cs from_start.started n (rw (← from_start.started.agreed.counts) i) payment sourced
    where
      same : n.0 ≡ n.0 - (view b).outside.next.0
      same = omega (arith, next_is)

      payment : get_or (made b cs) n.0 no_payment ≡ payment_by (record_of b cs n) n
      payment =
          ap (λ (ps : List Payment). get_or ps n.0 no_payment) made-queued
          ∙ ap (λ (k : ℕ). get_or (queued b cs) k no_payment) same
          ∙ from_start.payments n (omega (arith, next_is)) i

      sourced : all (λ l. any (claims_lot (deposits b cs) l) (claims b cs)) (traced b cs n) ≡ true
      sourced =
          sym (ap₂ (λ (h : List Record) (ds : List Deposit). all (λ l. is_named h l || any (claims_lot (ds ++ deposits b cs) l) (claims b cs)) (traced b cs n)) no_record no_row ∙ unfold any in refl)
          ∙ from_start.sourced n i

  -- the whole of demand 2, for any empty book and any calls
  pub demand2 : Demand2 b cs
  demand2 =
      let r : Started (run b cs) = from_start.started in
      record {
        frame = in_frame_lem (run b cs) r;
        accepting = λ c. accepts (run b cs) c r;
        leaves = leaves (run b cs);
        records = from_start.records ∙ ap (λ (h : List Record). h ++ joined records_of (accepted b cs)) no_record;
        inbox = from_start.inbox ∙ ap (λ (ds : List Deposit). those (λ d. not (is_claimed (claims b cs) d)) (ds ++ deposits b cs)) no_row;
        by_history = by_history_lem (run b cs) r;
        sheet = sheet;
        order = in_order;
        queue = λ further. queue (run b cs) further r;
        payments = made-count;
        traces = traces;
      }
