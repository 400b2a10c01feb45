-- The outbox's clauses of the frame, kept by every accepted call.
use Prim.Native.Nat.{ℕ, suc, ◌+◌, ◌-◌, ◌≤◌}
use mathlib.Core.Path.{◌≡◌, refl}
use mathlib.Core.Bool.{true, ◌&&◌}
use mathlib.Core.List.{List, [], ◌∷◌, ◌++◌, append_assoc}
use native.Mathlib.Omega.{arith}
use lib.Dec.{leb, eqb}
use lib.ListN.{length, drop, length-append}
use borrow.Author.Tests.{leb-true, le-leb, eq-eqb}
use Rattle.promises.specs.Types.{Payment, Call}
use Rattle.rules.specs.Limits.{ceiling, asset_count}
use Rattle.rules.specs.Lists.{all}
use Rattle.rules.specs.State.{Outside, State, payments}
use Rattle.rules.specs.Effects.{effect, payment_of, deposited, withdrawn, sent, settled_one, outside_after}
use Rattle.rules.specs.Frame.{payment_in_limits, nonces_from, nonces_rise}
use Rattle.rules.specs.Facts.{Within, Fit}
use Rattle.rules.proofs.Tests.{both, true_within}
use Rattle.promises.proofs.Framed.{Framed}
use Rattle.promises.proofs.Sheet.{sent-payments}
use Rattle.promises.proofs.Lists.{all-add}

-- ---- the outbox
-- a payment with the nonce that is due joins at the end
nonces-add : (due : ℕ) (ps : List Payment) (p : Payment) → nonces_from due ps ≡ true → p.nonce.0 ≡ due + length ps → nonces_from due (ps ++ (p ∷ [])) ≡ true
unfolding nonces_from
nonces-add due [] p h e = rw (eq-eqb p.nonce.0 due (omega arith))
nonces-add due (q ∷ ps) p h e =
    let (a, r) = both (eqb q.nonce.0 due) (nonces_from (due + 1) ps) h in
    rw a (nonces-add (due + 1) ps p r (omega arith))

-- the nonces go on rising by 1 up to the next
rises_add : (next : ℕ) (ps : List Payment) (p : Payment) → nonces_rise next ps ≡ true → p.nonce.0 ≡ next → nonces_rise (next + 1) (ps ++ (p ∷ [])) ≡ true
unfolding nonces_rise
rises_add next ps p h e =
    let (a, r) = both (leb (length ps) next) (nonces_from (next - length ps) ps) h in
    let l : length ps ≤ next = leb-true (length ps) next a in
    let m : length (ps ++ (p ∷ [])) ≡ length ps + 1 = length-append ps (p ∷ []) in
    let d : next + 1 - length (ps ++ (p ∷ [])) ≡ next - length ps = omega arith in
    rw (le-leb (length (ps ++ (p ∷ []))) (next + 1) (omega arith), d) (nonces-add (next - length ps) ps p r (omega arith))

-- the oldest leaves
rises_first : (next : ℕ) (p : Payment) (ps : List Payment) → nonces_rise next (p ∷ ps) ≡ true → nonces_rise next ps ≡ true
unfolding nonces_rise nonces_from
rises_first next p ps h =
    let (a, r) = both (leb (suc (length ps)) next) (eqb p.nonce.0 (next - suc (length ps)) && nonces_from (next - suc (length ps) + 1) ps) h in
    let l : suc (length ps) ≤ next = leb-true (suc (length ps)) next a in
    let d : next - length ps ≡ next - suc (length ps) + 1 = omega arith in
    rw (le-leb (length ps) next (omega arith), d) (both (eqb p.nonce.0 (next - suc (length ps))) (nonces_from (next - suc (length ps) + 1) ps) r).1

-- the frame's clauses on the outbox
pub record OutboxFramed (next : ℕ) (ps : List Payment) : Type 0 where
  pub fields : all payment_in_limits ps ≡ true
  pub nonces : nonces_rise next ps ≡ true

-- they hold of a framed state
outbox-framed : (s : State) → Framed s → OutboxFramed s.outside.next.0 (payments s.outside)
outbox-framed s f = record { fields = f.outbox_fields; nonces = f.nonces }

-- a payment whose fields are within their limits
payment_in : (p : Payment) → Within 1 asset_count p.asset → Within 1 ceiling p.amount → Within 1 65_535 p.payee → payment_in_limits p ≡ true
payment_in p a x y = rw (true_within 1 8 p.asset a, true_within 1 ceiling p.amount x, true_within 1 65_535 p.payee y)

-- the first of a framed outbox leaves it framed
first-leaves : (next : ℕ) (flying waiting : List Payment) → 1 ≤ length flying → OutboxFramed next (flying ++ waiting) → OutboxFramed next (drop 1 flying ++ waiting)
unfolding all
first-leaves next [] waiting h f = absurd (omega arith)
first-leaves next (p ∷ ps) waiting h f =
    record {
      fields = (both (payment_in_limits p) (all payment_in_limits (ps ++ waiting)) f.fields).1;
      nonces = rises_first next p (ps ++ waiting) f.nonces;
    }

-- a withdrawal joins the outbox, a settled payment leaves it, a send changes no row
pub outbox-kept : (s : State) (c : Call) → Fit s c → Framed s → OutboxFramed (effect c s).outside.next.0 (payments (effect c s).outside)
unfolding effect outside_after deposited withdrawn settled_one
outbox-kept s (Call.Deposit d) k f = outbox-framed s f
outbox-kept s (Call.Claim c) k f = outbox-framed s f
outbox-kept s (Call.Transfer t) k f = outbox-framed s f
outbox-kept s (Call.Withdraw w) k f =
    let o : Outside = s.outside in
    let p : Payment = payment_of w o.next in
    rw (← append_assoc o.inflight o.waiting (p ∷ []))
    record {
      fields = all-add payment_in_limits (payments o) p f.outbox_fields (payment_in p k.asset k.amount k.payee);
      nonces = rises_add o.next.0 (payments o) p f.nonces refl;
    }
outbox-kept s Call.Send k f = rw (sent-payments s.outside) (unfold sent in outbox-framed s f)
outbox-kept s (Call.Settle n) k f = first-leaves s.outside.next.0 s.outside.inflight s.outside.waiting k.some (outbox-framed s f)
outbox-kept s (Call.Grant g) k f = outbox-framed s f
outbox-kept s (Call.Sign g) k f = outbox-framed s f
outbox-kept s (Call.Trace n) k f = outbox-framed s f
