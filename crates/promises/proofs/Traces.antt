-- Traces: every payment has one, which sums to its amount, of the payer and the asset, from deposits that were accepted and claimed.
use Prim.Native.Nat.{ℕ, ◌<◌}
use mathlib.Core.Path.{◌≡◌, ap, ◌∙◌}
use mathlib.Core.Bool.{true, ◌||◌}
use mathlib.Core.List.{List, [], ◌∷◌, ◌++◌}
use lib.ListN.{length, get_or}
use Rattle.promises.specs.Types.{Nonce, Record, Lot, Call}
use Rattle.rules.specs.Lists.{all, any}
use Rattle.rules.specs.State.{Book, view, first_holders}
use Rattle.rules.specs.Replies.{told}
use Rattle.rules.specs.History.{withdrawals}
use Rattle.rules.specs.Lots.{pieces}
use Rattle.rules.specs.Answer.{pieces_of, done_answer, answer}
use Rattle.rules.specs.Runs.{run, deposits}
use Rattle.rules.proofs.Digits.{all_imply}
use Rattle.rules.specs.Facts.{Accepted}
use Rattle.rules.proofs.Accepts.{accepted-number}
use Rattle.lots.specs.Traces.{coins, is_named, claims_deposit, nth_withdrawal, before_payment, after_payment, Traced}
use Rattle.lots.proofs.ListLaws.{any_append}
use Rattle.lots.proofs.TraceLaws.{payment-at, trace_sound}
use Rattle.lots.proofs.TraceJoin.{trace-lent}
use Rattle.promises.specs.Demand2.{no_payment, claims, claims_lot, made, record_of, payment_by, traced}
use Rattle.promises.specs.Promises.{PaymentTraced}
use Rattle.promises.specs.Started.{Started}
use Rattle.promises.proofs.Reached.{started-run}
use Rattle.promises.proofs.Accepts.{accepts}
use Rattle.promises.proofs.Sources.{claimed_lot}
use Rattle.promises.proofs.OldestFirst.{oldest-first}

-- a claim before a payment is a claim of the history
named_still : (n : ℕ) (h : List Record) → n < withdrawals h → (l : Lot) → is_named (before_payment n h) l ≡ true → is_named h l ≡ true
named_still n h i l e =
    ap (any (claims_deposit l.asset l.number.0)) (payment-at n h i).whole
    ∙ rw (any_append (claims_deposit l.asset l.number.0) (before_payment n h) (nth_withdrawal n h ∷ after_payment n h), e)

-- the trace of a payment is accepted
trace-accepted : (b : Book) (n : Nonce) → Started b → n.0 < withdrawals (view b).history → Accepted b (Call.Trace n)
trace-accepted b n r i = (accepts b (Call.Trace n) r).1 (record { replays = r.agreed.replayed.passes; paid = i }, record {})

-- and hands out the pieces that the rules give, with their count
trace-done : (b : Book) (n : Nonce) → Accepted b (Call.Trace n)
    → ((answer b (Call.Trace n)).pieces ≡ pieces (view b).history n) × ((answer b (Call.Trace n)).reply ≡ record { number = 0; values = length (answer b (Call.Trace n)).pieces ∷ [] })
unfolding answer done_answer pieces_of told
trace-done b n a = (rw (accepted-number b (Call.Trace n) a), rw (accepted-number b (Call.Trace n) a))

-- each of its pieces is named by a claim of the history
pub pieces-named : (b : Book) → Started b → (n : Nonce) → n.0 < withdrawals (view b).history → all (is_named (view b).history) (answer b (Call.Trace n)).pieces ≡ true
pieces-named b r n i =
    let h : List Record = (view b).history in
    let t : Traced (before_payment n.0 h) (nth_withdrawal n.0 h) (pieces h n) = trace_sound first_holders h n r.agreed.replayed.passes i in
    rw (trace-done b n (trace-accepted b n r i)).0 (all_imply (is_named (before_payment n.0 h)) (is_named h) (named_still n.0 h i) (pieces h n) t.named)

-- so each was claimed before the start, or since, of a deposit that lay in the inbox then or was accepted since
pub pieces-sourced : (b : Book) (cs : List Call) → Started b → (n : Nonce) → n.0 < withdrawals (view (run b cs)).history
    → all (λ l. is_named (view b).history l || any (claims_lot ((view b).inbox ++ deposits b cs) l) (claims b cs)) (traced b cs n) ≡ true
pieces-sourced b cs r n i =
    all_imply (is_named (view (run b cs)).history) (λ l. is_named (view b).history l || any (claims_lot ((view b).inbox ++ deposits b cs) l) (claims b cs)) (claimed_lot b cs r) (traced b cs n)
    (pieces-named (run b cs) (started-run b cs r) n i)

-- every payment has its trace, once it is known which payment it is and where its pieces come from
pub payment-traced : (b : Book) (cs : List Call) → Started (run b cs) → (n : Nonce) → n.0 < withdrawals (view (run b cs)).history
    → get_or (made b cs) n.0 no_payment ≡ payment_by (record_of b cs n) n → all (λ l. any (claims_lot (deposits b cs) l) (claims b cs)) (traced b cs n) ≡ true → PaymentTraced b cs n
unfolding view
payment-traced b cs r n i payment sourced =
    let h : List Record = (view (run b cs)).history in
    let (p, d) = trace-done (run b cs) n (trace-accepted (run b cs) n r i) in
    let t : Traced (before_payment n.0 h) (nth_withdrawal n.0 h) (traced b cs n) = rw p (trace_sound first_holders h n r.agreed.replayed.passes i) in
    record {
      payment = payment;
      done = d;
      amount = t.amount;
      owned = t.owned;
      positive = t.positive;
      sourced = sourced;
      lent = λ work out w o. trace-lent (run b cs) work out n (λ h. w) (λ h. o) (trace-accepted (run b cs) n r i);
      oldest_first = ap coins p ∙ oldest-first first_holders h n r.agreed.replayed.passes i;
    }
