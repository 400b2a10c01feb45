-- Numbers, nonces and totals, from a start on, against the deposits, sends and settlements that were accepted.
use Prim.Native.Nat.{ℕ, ◌+◌, ◌≤◌}
use mathlib.Core.Path.{◌≡◌, refl, sym, ap, ◌∙◌}
use mathlib.Core.List.{List, [], ◌∷◌, ◌++◌, map, map-append, append_assoc, append-nil}
use native.Mathlib.Omega.{arith}
use lib.ListN.{length, take, drop, length-append}
use lib.Seq.{append_snoc}
use Rattle.promises.specs.Types.{Deposit, Payment, WithdrawalFields, Call}
use Rattle.rules.specs.Limits.{asset_count}
use Rattle.rules.specs.Lists.{sum_of}
use Rattle.rules.specs.State.{Outside, Book, view}
use Rattle.rules.specs.Effects.{effect, total, oldest, payment_of, deposited, withdrawn, sent, settled_one, outside_after}
use Rattle.rules.specs.Runs.{depositing, sending, settling}
use Rattle.rules.specs.Sheet.{up_from, deposited_in, paid_in}
use Rattle.rules.specs.Facts.{Accepted, Within, DepositFit, SendFit, SettleFit}
use Rattle.promises.specs.Demand2.{nonce_of, queueing}
use Rattle.rules.proofs.Accepts.{fit}
use Rattle.promises.proofs.Cells.{total-raised}
use Rattle.promises.proofs.Framed.{Framed, framed}
use Rattle.lots.proofs.ListLaws.{sum-append}
use Rattle.promises.proofs.Sums.{sum_one}
use Rattle.promises.proofs.Sheet.{first_rest, oldest_in}
use Rattle.promises.specs.Started.{Started}
use Rattle.promises.proofs.UpFrom.{up_next}

-- ---- deposits
abbrev pub number_in : Deposit → ℕ
number_in d = d.number.0

-- from a start on, the deposits so far are numbered from its last one on, the last as the desk has it, and raise the lifetime totals by their sums
pub record Deposited (from : Outside) (ds : List Deposit) (o : Outside) : Type 0 where
  pub numbers : map number_in ds ≡ up_from (from.last.0 + 1) (length ds)
  pub last : o.last.0 ≡ from.last.0 + length ds
  pub lifetime : (a : ℕ) → total o.lifetime a ≡ total from.lifetime a + sum_of (deposited_in a) ds

-- at the start there is none
pub none-deposited : (o : Outside) → Deposited o [] o
unfolding up_from sum_of
none-deposited o = record { numbers = refl; last = omega arith; lifetime = λ a. omega arith }

module _ (from : Outside) where
  -- an accepted deposit is one more
  one_more : (ds : List Deposit) (o : Outside) (d : Deposit) → length o.lifetime ≡ asset_count → Within 1 asset_count d.asset → d.number.0 ≡ o.last.0 + 1
      → Deposited from ds o → Deposited from (ds ++ (d ∷ [])) (deposited d o)
  unfolding deposited
  one_more ds o d l a n h =
      let e : length (ds ++ (d ∷ [])) ≡ length ds + 1 = length-append ds (d ∷ []) in
      let i : d.number.0 ≡ from.last.0 + 1 + length ds = omega (arith, h.last) in
      record {
        numbers = map-append number_in ds (d ∷ []) ∙ rw (e, up_next (from.last.0 + 1) (length ds), h.numbers, i);
        last = omega (arith, h.last);
        lifetime = λ x. omega (arith, total-raised o.lifetime d.asset d.amount l a x, h.lifetime x, sum-append (deposited_in x) ds (d ∷ []), sum_one (deposited_in x) d);
      }

  -- any other call brings none, and leaves the last number and the lifetime totals
  no_more : (ds : List Deposit) (o p : Outside) → o.last ≡ p.last → o.lifetime ≡ p.lifetime → Deposited from ds o → Deposited from (ds ++ []) p
  no_more ds o p e f h = rw (append-nil ds) record { numbers = h.numbers; last = rw (← e) h.last; lifetime = rw (← f) h.lifetime }

  -- every accepted call keeps it
  pub deposits_log : (ds : List Deposit) (ys : List ℕ) (b : Book) (c : Call) → Accepted b c → Started b → Deposited from ds (view b).outside
      → Deposited from (ds ++ depositing b c) (effect c (view b)).outside
  unfolding depositing effect outside_after withdrawn sent settled_one
  deposits_log ds ys b (Call.Deposit d) a r h =
      let k : DepositFit (view b) d = fit b (Call.Deposit d) a in
      one_more ds (view b).outside d r.agreed.lengths.lifetime k.asset k.next h
  deposits_log ds ys b (Call.Claim c) a r h = no_more ds (view b).outside (view b).outside refl refl h
  deposits_log ds ys b (Call.Transfer t) a r h = no_more ds (view b).outside (view b).outside refl refl h
  deposits_log ds ys b (Call.Withdraw w) a r h = no_more ds (view b).outside (withdrawn w (view b).outside) refl refl h
  deposits_log ds ys b Call.Send a r h = no_more ds (view b).outside (sent (view b).outside) refl refl h
  deposits_log ds ys b (Call.Settle n) a r h = no_more ds (view b).outside (settled_one (view b).outside) refl refl h
  deposits_log ds ys b (Call.Grant g) a r h = no_more ds (view b).outside (view b).outside refl refl h
  deposits_log ds ys b (Call.Sign g) a r h = no_more ds (view b).outside (view b).outside refl refl h
  deposits_log ds ys b (Call.Trace n) a r h = no_more ds (view b).outside (view b).outside refl refl h

-- ---- sends and settlements
-- the first of some payments moves to the end of what stands before them: the whole stays
pub moved : (ss ps : List Payment) → 1 ≤ length ps → ss ++ (oldest ps ∷ []) ++ drop 1 ps ≡ ss ++ ps
moved ss ps h = append_snoc ss (oldest ps) (drop 1 ps) ∙ ap (λ (qs : List Payment). ss ++ qs) (sym (first_rest ps h))

-- the first of some payments, alone
first_taken : (ps : List Payment) → 1 ≤ length ps → take 1 ps ≡ oldest ps ∷ []
unfolding oldest
first_taken [] h = absurd (omega arith)
first_taken (p ∷ ps) h = refl

-- from a start on, the payments that were in flight and those sent so far are those settled and those in flight; those settled raise the settled totals by their sums
pub record Paid (from : Outside) (ss ts : List Payment) (o : Outside) : Type 0 where
  pub order : from.inflight ++ ss ≡ ts ++ o.inflight
  pub settled : (a : ℕ) → total o.settled a ≡ total from.settled a + sum_of (paid_in a) ts

-- at the start there is none
pub none-paid : (o : Outside) → Paid o [] [] o
unfolding sum_of
none-paid o = record { order = append-nil o.inflight; settled = λ a. omega arith }

module _ (from : Outside) where
  -- a send: the oldest that waits is in flight
  paid-sent : (ss ts : List Payment) (o : Outside) → 1 ≤ length o.waiting → Paid from ss ts o → Paid from (ss ++ (oldest o.waiting ∷ [])) ts (sent o)
  unfolding sent
  paid-sent ss ts o some h =
      record {
        order = rw (first_taken o.waiting some, ← append_assoc ts o.inflight (oldest o.waiting ∷ []), ← append_assoc from.inflight ss (oldest o.waiting ∷ []), ← h.order);
        settled = h.settled;
      }

  -- a settlement: the oldest in flight has settled
  paid-settled : (ss ts : List Payment) (o : Outside) → 1 ≤ length o.inflight → length o.settled ≡ asset_count → Within 1 asset_count (oldest o.inflight).asset
      → Paid from ss ts o → Paid from ss (ts ++ (oldest o.inflight ∷ [])) (settled_one o)
  unfolding settled_one
  paid-settled ss ts o some l a h =
      let p : Payment = oldest o.inflight in
      record {
        order = h.order ∙ sym (moved ts o.inflight some);
        settled = λ x. omega (arith, total-raised o.settled p.asset p.amount l a x, h.settled x, sum-append (paid_in x) ts (p ∷ []), sum_one (paid_in x) p);
      }

  -- any other call sends none and settles none
  none-sent : (ss ts : List Payment) (o p : Outside) → o.inflight ≡ p.inflight → o.settled ≡ p.settled → Paid from ss ts o → Paid from (ss ++ []) (ts ++ []) p
  none-sent ss ts o p e f h = rw (append-nil ss, append-nil ts) record { order = rw (← e) h.order; settled = rw (← f) h.settled }

  -- every accepted call keeps it
  pub payments_log : (ss ts : List Payment) (b : Book) (c : Call) → Accepted b c → Started b → Paid from ss ts (view b).outside
      → Paid from (ss ++ sending b c) (ts ++ settling b c) (effect c (view b)).outside
  unfolding sending settling effect outside_after deposited withdrawn
  payments_log ss ts b (Call.Deposit d) a r h = none-sent ss ts (view b).outside (deposited d (view b).outside) refl refl h
  payments_log ss ts b (Call.Claim c) a r h = none-sent ss ts (view b).outside (view b).outside refl refl h
  payments_log ss ts b (Call.Transfer t) a r h = none-sent ss ts (view b).outside (view b).outside refl refl h
  payments_log ss ts b (Call.Withdraw w) a r h = none-sent ss ts (view b).outside (withdrawn w (view b).outside) refl refl h
  payments_log ss ts b Call.Send a r h =
      let k : SendFit (view b) = fit b Call.Send a in
      rw (append-nil ts) (paid-sent ss ts (view b).outside k.some h)
  payments_log ss ts b (Call.Settle n) a r h =
      let k : SettleFit (view b) n = fit b (Call.Settle n) a in
      let f : Framed (view b) = framed b r.frame in
      rw (append-nil ss)
      (paid-settled ss ts (view b).outside k.some r.agreed.lengths.settled (oldest_in (view b).outside.inflight (view b).outside.waiting k.some f.outbox_fields) h)
  payments_log ss ts b (Call.Grant g) a r h = none-sent ss ts (view b).outside (view b).outside refl refl h
  payments_log ss ts b (Call.Sign g) a r h = none-sent ss ts (view b).outside (view b).outside refl refl h
  payments_log ss ts b (Call.Trace n) a r h = none-sent ss ts (view b).outside (view b).outside refl refl h

-- ---- nonces
-- from a start on, the payments queued so far have the nonces from its next one on, up to the next
pub record Numbered (from : Outside) (qs : List Payment) (o : Outside) : Type 0 where
  pub nonces : map nonce_of qs ≡ up_from from.next.0 (length qs)
  pub next : o.next.0 ≡ from.next.0 + length qs

-- at the start there is none
pub none-numbered : (o : Outside) → Numbered o [] o
unfolding up_from
none-numbered o = record { nonces = refl; next = omega arith }

module _ (from : Outside) where
  -- a withdrawal queues one, with the next nonce
  one-numbered : (qs : List Payment) (o : Outside) (w : WithdrawalFields) → Numbered from qs o → Numbered from (qs ++ (payment_of w o.next ∷ [])) (withdrawn w o)
  unfolding withdrawn
  one-numbered qs o w h =
      let p : Payment = payment_of w o.next in
      let e : length (qs ++ (p ∷ [])) ≡ length qs + 1 = length-append qs (p ∷ []) in
      record {
        nonces = map-append nonce_of qs (p ∷ []) ∙ rw (e, up_next from.next.0 (length qs), h.nonces, h.next);
        next = omega (arith, h.next);
      }

  -- any other call queues none, and leaves the next nonce
  none-queued : (qs : List Payment) (o p : Outside) → o.next ≡ p.next → Numbered from qs o → Numbered from (qs ++ []) p
  none-queued qs o p e h = rw (append-nil qs) record { nonces = h.nonces; next = rw (← e) h.next }

  -- every accepted call keeps it
  pub nonces_log : (qs : List Payment) (ys : List ℕ) (b : Book) (c : Call) → Accepted b c → Started b → Numbered from qs (view b).outside
      → Numbered from (qs ++ queueing b c) (effect c (view b)).outside
  unfolding queueing effect outside_after deposited sent settled_one
  nonces_log qs ys b (Call.Deposit d) a r h = none-queued qs (view b).outside (deposited d (view b).outside) refl h
  nonces_log qs ys b (Call.Claim c) a r h = none-queued qs (view b).outside (view b).outside refl h
  nonces_log qs ys b (Call.Transfer t) a r h = none-queued qs (view b).outside (view b).outside refl h
  nonces_log qs ys b (Call.Withdraw w) a r h = one-numbered qs (view b).outside w h
  nonces_log qs ys b Call.Send a r h = none-queued qs (view b).outside (sent (view b).outside) refl h
  nonces_log qs ys b (Call.Settle n) a r h = none-queued qs (view b).outside (settled_one (view b).outside) refl h
  nonces_log qs ys b (Call.Grant g) a r h = none-queued qs (view b).outside (view b).outside refl h
  nonces_log qs ys b (Call.Sign g) a r h = none-queued qs (view b).outside (view b).outside refl h
  nonces_log qs ys b (Call.Trace n) a r h = none-queued qs (view b).outside (view b).outside refl h
