-- The trace of a payment: its pieces are what its withdrawal takes from the payer's line at that point of the history, and in a history in frame they are together the amount withdrawn.
use Prim.Native.Nat.{ℕ, zero, suc, ◌-◌, ◌≤◌, ◌<◌}
use mathlib.Core.Path.{◌≡◌, refl, sym, ap, ◌∙◌}
use mathlib.Core.Bool.{Bool, true, false, cond, and-eq-true_iff}
use mathlib.Core.List.{List, [], ◌∷◌, ◌++◌}
use native.Mathlib.Omega.{arith}
use lib.Dec.{eqb-suc-zero}
use lib.ListN.{length}
use borrow.Author.Tests.{lt-ltb, ne_eqb}
use Rattle.rules.specs.declared.rows.Record.{Record}
use Rattle.rules.specs.declared.rows.Nonce.{Nonce}
use Rattle.rules.specs.declared.rows.Lot.{Lot}
use Rattle.rules.specs.Lists.{those}
use Rattle.rules.specs.History.{is_withdrawal, withdrawals, Standing, standing_from, standing_after, fits, replays, passes_from}
use Rattle.rules.specs.Lots.{taken_by, lots_after, replay, trace_from, pieces}
use Rattle.lots.specs.Traces.{line_worth, is_positive, is_named, standing_through, nth_withdrawal, before_payment, after_payment, PaymentAt, Traced}
use Rattle.lots.proofs.Fits.{Pays, withdrawal-fits, withdrawal_kind}
use Rattle.lots.proofs.Taking.{takes, takes_owned}
use Rattle.lots.proofs.LotTests.{takes_all}
use Rattle.lots.proofs.LotWorth.{taken-worth}
use Rattle.lots.proofs.Agreement.{in_frame_agrees}

-- ---- where a payment stands
-- where there are more than n withdrawals, payment n is one of them, with n before it
pub payment-at : (n : ℕ) (h : List Record) → n < withdrawals h → PaymentAt n h
unfolding withdrawals those before_payment after_payment
payment-at n [] l = absurd (omega arith)
payment-at n (r ∷ rs) l = go n (is_withdrawal r) refl l (payment-at n rs) (payment-at (n - 1) rs)
  where
    go : (n : ℕ) (t : Bool) → is_withdrawal r ≡ t → n < length (cond t (r ∷ those is_withdrawal rs) (those is_withdrawal rs))
        → (n < withdrawals rs → PaymentAt n rs) → (n - 1 < withdrawals rs → PaymentAt (n - 1) rs) → PaymentAt n (r ∷ rs)
    go zero true e l here next = record { whole = rw e; paid = rw e e; earlier = rw e }
    go (suc k) true e l here next =
        let d : suc k - 1 ≡ k = omega arith in
        let p : PaymentAt k rs = rw d at (next (omega arith)) in
        record {
          whole = rw (e, eqb-suc-zero k, d) (ap (λ (u : List Record). r ∷ u) p.whole);
          paid = rw e p.paid;
          earlier = rw (e, eqb-suc-zero k, d, e) (ap suc p.earlier);
        }
    go n false e l here next =
        let p : PaymentAt n rs = here l in
        record {
          whole = rw e (ap (λ (u : List Record). r ∷ u) p.whole);
          paid = rw e p.paid;
          earlier = rw (e, e) p.earlier;
        }

-- the trace of a withdrawal with n before it is what it takes from the lots at that point
trace-at : (before after : List Record) (w : Record) (ls : List Lot) (n : ℕ) → is_withdrawal w ≡ true → withdrawals before ≡ n
    → trace_from ls n (before ++ (w ∷ after)) ≡ taken_by w (replay ls before)
unfolding withdrawals those trace_from replay
trace-at [] after w ls n p e = rw (p, ← e)
trace-at (r ∷ before) after w ls n p e = go (is_withdrawal r) refl e (trace-at before after w (lots_after ls r) n p) (trace-at before after w (lots_after ls r) (n - 1) p)
  where
    go : (t : Bool) → is_withdrawal r ≡ t → length (cond t (r ∷ those is_withdrawal before) (those is_withdrawal before)) ≡ n
        → (withdrawals before ≡ n → trace_from (lots_after ls r) n (before ++ (w ∷ after)) ≡ taken_by w (replay (lots_after ls r) before))
        → (withdrawals before ≡ n - 1 → trace_from (lots_after ls r) (n - 1) (before ++ (w ∷ after)) ≡ taken_by w (replay (lots_after ls r) before))
        → trace_from ls n (r ∷ (before ++ (w ∷ after))) ≡ taken_by w (replay (lots_after ls r) before)
    go true q e here next = rw (q, ne_eqb n 0 (λ z. omega arith)) (next (omega arith))
    go false q e here next = rw q (here e)

-- so the pieces of payment n are what its withdrawal takes of the lots, as the records before it left them
pub pieces-at : (h : List Record) (n : Nonce) → n.0 < withdrawals h → pieces h n ≡ taken_by (nth_withdrawal n.0 h) (replay [] (before_payment n.0 h))
pieces-at h n l =
    let p = payment-at n.0 h l in
    ap (trace_from [] n.0) p.whole
    ∙ trace-at (before_payment n.0 h) (after_payment n.0 h) (nth_withdrawal n.0 h) [] n.0 p.paid p.earlier

-- ---- in a history in frame
-- a history that the test passes, in two parts: it passes the first, and the second from there on
replays_parts : (before after : List Record) (s : Standing) → replays s (before ++ after) ≡ true → (replays s before ≡ true) × (replays (standing_through s before) after ≡ true)
unfolding replays standing_through
replays_parts [] after s f = (refl, f)
replays_parts (r ∷ before) after s f =
    let (u, v) = (and-eq-true_iff (fits s r) (replays (standing_after s r) (before ++ after))).0 f in
    let (p, q) = replays_parts before after (standing_after s r) v in
    (rw u p, q)

-- payment n finds the records before it in frame, and the payer with the amount
pub record Covered (holders : List ℕ) (n : ℕ) (h : List Record) : Type 0 where
  pub framed : passes_from holders (before_payment n h) ≡ true
  pub pays : Pays (standing_through (standing_from holders) (before_payment n h)) (nth_withdrawal n h)

module _ (holders : List ℕ) where
  pub payment_covered : (n : ℕ) (h : List Record) → passes_from holders h ≡ true → n < withdrawals h → Covered holders n h
  unfolding replays
  payment_covered n h f l =
      let p = payment-at n h l in
      let w = nth_withdrawal n h in
      let s = standing_through (standing_from holders) (before_payment n h) in
      let (u, v) = replays_parts (before_payment n h) (w ∷ after_payment n h) (standing_from holders) (sym (ap (replays (standing_from holders)) p.whole) ∙ f) in
      let k = ((and-eq-true_iff (fits s w) (replays (standing_after s w) (after_payment n h))).0 v).0 in
      record { framed = u; pays = withdrawal-fits s w (rw (withdrawal_kind w p.paid) at k) }

  -- so every withdrawal finds enough in its line
  pub line_covers : (n : ℕ) (h : List Record) → passes_from holders h ≡ true → n < withdrawals h
      → (nth_withdrawal n h).amount ≤ line_worth (nth_withdrawal n h).first (nth_withdrawal n h).asset (replay [] (before_payment n h))
  line_covers n h f l =
      let c = payment_covered n h f l in
      rw ((in_frame_agrees holders (before_payment n h) c.framed).balances (nth_withdrawal n h).first (nth_withdrawal n h).asset) c.pays.covered

  -- and its pieces are together the amount, of the payer and the asset, none of them nothing, each named by a claim before
  pub trace_sound : (h : List Record) (n : Nonce) → passes_from holders h ≡ true → n.0 < withdrawals h → Traced (before_payment n.0 h) (nth_withdrawal n.0 h) (pieces h n)
  trace_sound h n f l =
      let w = nth_withdrawal n.0 h in
      let before = before_payment n.0 h in
      let g = in_frame_agrees holders before (payment_covered n.0 h f l).framed in
      let t = takes w.first w.asset w.amount (replay [] before) in
      rw (pieces-at h n l)
      (record {
        amount = taken-worth w.first w.asset w.amount (replay [] before) (line_covers n.0 h f l);
        owned = takes_owned t;
        positive = takes_all is_positive (λ k x p c. lt-ltb 0 x p) t g.positive;
        named = takes_all (is_named before) (λ k x p c. c) t g.named;
      })
