-- Records and payments, from a start on: the records of the accepted calls join the history, and the payments queued are its withdrawals, in order, with nonces from the next one on.
use Prim.Native.Nat.{ℕ, zero, suc, ◌+◌, ◌-◌, ◌≤◌, ◌<◌}
use mathlib.Core.Path.{◌≡◌, refl, sym, ap, ◌∙◌}
use mathlib.Core.List.{List, [], ◌∷◌, ◌++◌, append-nil, append_assoc}
use native.Mathlib.Nat.{add-zero, zero-add}
use native.Mathlib.Omega.{arith}
use lib.ListN.{length, get_or}
use lib.Seq.{get_or-append-add}
use Rattle.promises.specs.Types.{Nonce, Payment, Record, Call}
use Rattle.rules.specs.Lists.{those, joined}
use Rattle.rules.specs.Tables.{no_record}
use Rattle.rules.specs.State.{Book, view}
use Rattle.rules.specs.Effects.{effect, withdrawal_record, records_of}
use Rattle.rules.specs.History.{is_withdrawal, withdrawals}
use Rattle.rules.specs.Runs.{run, itself, accepted}
use Rattle.rules.proofs.Laying.{joined_append}
use Rattle.rules.specs.Facts.{Accepted}
use Rattle.lots.specs.Traces.{nth_withdrawal}
use Rattle.lots.proofs.ListLaws.{those-append}
use Rattle.promises.specs.Demand2.{queueing, queued, no_payment, payment_by}
use Rattle.promises.proofs.Base.{run_keeps}
use Rattle.promises.specs.Started.{Started}
use Rattle.promises.proofs.Reached.{started_keeps}

-- ---- records
-- the history is what was there, and then what the accepted calls wrote
pub records-run : (b : Book) (cs : List Call) → (view (run b cs)).history ≡ (view b).history ++ joined records_of (accepted b cs)
records-run b cs = run_keeps itself (λ b c. []) (λ xs (ys : List ℕ) s. s.history ≡ (view b).history ++ joined records_of xs) kept b cs (unfold joined in sym (append-nil (view b).history))
  where
    kept : (xs : List Call) (ys : List ℕ) (d : Book) (c : Call) → Accepted d c → (view d).history ≡ (view b).history ++ joined records_of xs
        → (effect c (view d)).history ≡ (view b).history ++ joined records_of (xs ++ (c ∷ []))
    kept xs ys d c a h =
        rw (joined_append records_of xs (c ∷ []), ← append_assoc (view b).history (joined records_of xs) (joined records_of (c ∷ [])), ← h) (unfold effect joined in rw (append-nil (records_of c)))

-- ---- payments
-- the payments that withdrawals' records stand for, with nonces from a first one on
unfoldable payments_from : ℕ → List Record → List Payment
payments_from n [] = []
payments_from n (r ∷ rs) = payment_by r (record { 0 = n }) ∷ payments_from (n + 1) rs

-- one record more is one payment more
payments-next : (n : ℕ) (rs : List Record) (r : Record) → payments_from n (rs ++ (r ∷ [])) ≡ payments_from n rs ++ (payment_by r (record { 0 = n + length rs }) ∷ [])
unfolding payments_from
payments-next n [] r = rw (add-zero n)
payments-next n (q ∷ rs) r =
    let e : n + 1 + length rs ≡ n + suc (length rs) = omega arith in
    rw (← e) (ap (λ (ps : List Payment). payment_by q (record { 0 = n }) ∷ ps) (payments-next (n + 1) rs r))

-- as many payments as records
payments-count : (n : ℕ) (rs : List Record) → length (payments_from n rs) ≡ length rs
unfolding payments_from
payments-count n [] = refl
payments-count n (r ∷ rs) = ap suc (payments-count (n + 1) rs)

-- and each at its place
payment_nth : (k : ℕ) (rs : List Record) (n : ℕ) (d : Record) → n < length rs → get_or (payments_from k rs) n no_payment ≡ payment_by (get_or rs n d) (record { 0 = k + n })
unfolding payments_from
payment_nth k [] n d h = absurd (omega arith)
payment_nth k (r ∷ rs) zero d h = rw (add-zero k)
payment_nth k (r ∷ rs) (suc n) d h =
    let e : k + 1 + n ≡ k + suc n = omega arith in
    rw (← e) (payment_nth (k + 1) rs n d (omega arith))

-- no withdrawal, no payment
no_payment_lem : (qs : List Payment) (h rs : List Record) → those is_withdrawal rs ≡ [] → qs ≡ payments_from 0 (those is_withdrawal h) → qs ++ [] ≡ payments_from 0 (those is_withdrawal (h ++ rs))
no_payment_lem qs h rs e p = rw (append-nil qs, those-append is_withdrawal h rs, e, append-nil (those is_withdrawal h)) p

-- a withdrawal, one payment with the next nonce
one-payment : (qs : List Payment) (h : List Record) (r : Record) (n : Nonce) → those is_withdrawal (r ∷ []) ≡ r ∷ [] → n.0 ≡ withdrawals h → qs ≡ payments_from 0 (those is_withdrawal h)
    → qs ++ (payment_by r n ∷ []) ≡ payments_from 0 (those is_withdrawal (h ++ (r ∷ [])))
unfolding withdrawals
one-payment qs h r n e i p =
    rw (those-append is_withdrawal h (r ∷ []), e, payments-next 0 (those is_withdrawal h) r, ← p, zero-add (length (those is_withdrawal h)))
    (ap (λ (k : ℕ). qs ++ (payment_by r (record { 0 = k }) ∷ [])) i)

-- the payments queued so far are those of the history's withdrawals: kept by every accepted call
queued-kept : (qs : List Payment) (ys : List ℕ) (b : Book) (c : Call) → Accepted b c → Started b → qs ≡ payments_from 0 (those is_withdrawal (view b).history)
    → qs ++ queueing b c ≡ payments_from 0 (those is_withdrawal (effect c (view b)).history)
unfolding queueing effect records_of those
queued-kept qs ys b (Call.Deposit d) a r h = no_payment_lem qs (view b).history [] refl h
queued-kept qs ys b (Call.Claim c) a r h = no_payment_lem qs (view b).history (records_of (Call.Claim c)) refl h
queued-kept qs ys b (Call.Transfer t) a r h = no_payment_lem qs (view b).history (records_of (Call.Transfer t)) refl h
queued-kept qs ys b (Call.Withdraw w) a r h =
    one-payment qs (view b).history (withdrawal_record w) (view b).outside.next refl r.agreed.counts h
queued-kept qs ys b Call.Send a r h = no_payment_lem qs (view b).history [] refl h
queued-kept qs ys b (Call.Settle n) a r h = no_payment_lem qs (view b).history [] refl h
queued-kept qs ys b (Call.Grant g) a r h = no_payment_lem qs (view b).history (records_of (Call.Grant g)) refl h
queued-kept qs ys b (Call.Sign g) a r h = no_payment_lem qs (view b).history [] refl h
queued-kept qs ys b (Call.Trace n) a r h = no_payment_lem qs (view b).history [] refl h

-- those of the withdrawals that were there, and then those queued since, are those of the history's withdrawals, in their order
queued-run : (b : Book) (cs : List Call) → Started b
    → payments_from 0 (those is_withdrawal (view b).history) ++ queued b cs ≡ payments_from 0 (those is_withdrawal (view (run b cs)).history)
queued-run b cs r =
    started_keeps queueing (λ b c. []) (λ qs (ys : List ℕ) s. first ++ qs ≡ payments_from 0 (those is_withdrawal s.history)) kept b cs r (append-nil first)
  where
    first : List Payment
    first = payments_from 0 (those is_withdrawal (view b).history)

    kept : (qs : List Payment) (ys : List ℕ) (d : Book) (c : Call) → Accepted d c → Started d → first ++ qs ≡ payments_from 0 (those is_withdrawal (view d).history)
        → first ++ (qs ++ queueing d c) ≡ payments_from 0 (those is_withdrawal (effect c (view d)).history)
    kept qs ys d c a r h = sym (append_assoc first qs (queueing d c)) ∙ queued-kept (first ++ qs) ys d c a r h

-- so payment n is the withdrawal with n before it
pub queued_nth : (b : Book) (cs : List Call) → Started b → (n : Nonce) → (view b).outside.next.0 ≤ n.0 → n.0 < withdrawals (view (run b cs)).history
    → get_or (queued b cs) (n.0 - (view b).outside.next.0) no_payment ≡ payment_by (nth_withdrawal n.0 (view (run b cs)).history) n
unfolding withdrawals
queued_nth b cs r n low i =
    let first : List Payment = payments_from 0 (those is_withdrawal (view b).history) in
    let k : ℕ = (view b).outside.next.0 in
    let l : length first ≡ k = payments-count 0 (those is_withdrawal (view b).history) ∙ sym r.agreed.counts in
    let e : length first + (n.0 - k) ≡ n.0 = omega arith in
    sym (get_or-append-add first (queued b cs) (n.0 - k) no_payment)
    ∙ ap (λ (j : ℕ). get_or (first ++ queued b cs) j no_payment) e
    ∙ ap (λ (ps : List Payment). get_or ps n.0 no_payment) (queued-run b cs r)
    ∙ payment_nth 0 (those is_withdrawal (view (run b cs)).history) n.0 no_record i
    ∙ rw (zero-add n.0)
