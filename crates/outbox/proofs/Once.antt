-- Any two results that a public function's contract allows coincide (`Coincide` of `rules`). A table of refusals is said of every state of which its arguments are what it reads; there is such a state for all arguments.
use Rattle.std.specs.Prelude.{Result, Ok, Err}
use Prim.Native.Nat.{ℕ, zero, suc, ◌≤◌}
use mathlib.Core.Path.{◌≡◌, refl, sym, ap, ◌∙◌}
use mathlib.Core.List.{List, []}
use native.Mathlib.Omega.{arith}
use lib.ListN.{length, replicate, length-replicate}
use Rattle.rules.specs.declared.rows.Nonce.{Nonce}
use Rattle.rules.specs.declared.rows.Payment.{Payment}
use Rattle.rules.specs.declared.answers.Done.{Done}
use Rattle.rules.specs.declared.answers.Refusal.{Refusal}
use Rattle.rules.specs.Types.{Answer}
use Rattle.rules.specs.Tables.{no_payment}
use Rattle.rules.specs.Replies.{answered}
use Rattle.rules.specs.State.{State, payments}
use Rattle.rules.specs.Effects.{oldest}
use Rattle.rules.specs.Coincide.{Coincide}
use Rattle.rules.proofs.Told.{told_once, plainly_once, answered_once, outcome_once}
use Rattle.rules.proofs.Coincide.{both, value, some_state, some_outside}
use Rattle.outbox.specs.contracts.withdraw as withdraw
use Rattle.outbox.specs.contracts.withdraw_done as withdraw-done
use Rattle.outbox.specs.contracts.withdraw_reply as withdraw-reply
use Rattle.outbox.specs.contracts.send as send
use Rattle.outbox.specs.contracts.send_done as send-done
use Rattle.outbox.specs.contracts.count_waiting as count-waiting
use Rattle.outbox.specs.contracts.send_reply as send-reply
use Rattle.outbox.specs.contracts.settle as settle
use Rattle.outbox.specs.contracts.settle_done as settle-done
use Rattle.outbox.specs.contracts.first_nonce as first-nonce
use Rattle.outbox.specs.contracts.settle_reply as settle-reply

-- so many payments with this nonce
abbrev some : ℕ → Nonce → List Payment
some n nonce = replicate n (record { asset = 0; amount = 0; payee = 0; nonce = nonce })

pub withdraw_once : Coincide withdraw.ended (λ M 𝓤 𝓛. withdraw.clauses 𝓛)
withdraw_once w x g = both w (λ p q. let o = outcome_once _ p q in (plainly_once o.0, λ j. ((o.1 j).desk, (tt, ((o.1 j).outbox, ((o.1 j).history, (tt, tt)))))))

pub withdraw_done_once : Coincide withdraw-done.ended (λ M 𝓤 𝓛. withdraw-done.clauses 𝓛)
withdraw_done_once w x g = both w (λ p q. let o = outcome_once _ p q in (refl, λ j. ((o.1 j).desk, (tt, ((o.1 j).outbox, ((o.1 j).history, (tt, tt)))))))

pub withdraw_reply_once : Coincide withdraw-reply.ended (λ M 𝓤 𝓛. withdraw-reply.clauses 𝓛)
withdraw_reply_once w x g =
    let used : ℕ = x.args.1.0 in
    let records : ℕ = x.args.1.1.0 in
    let s : State = some_state x.args.0.now [] [] (some_outside [] (record { 0 = 0 }) [] (some used (record { 0 = 0 }))) records in
    let u : length (payments s.outside) ≡ used = length-replicate used _ in
    let h : length s.history ≡ records = length-replicate records _ in
    both w (λ p q. (plainly_once (told_once _ _ (p s refl u h ∙ sym (q s refl u h))), refl))

-- the payment that a send gives
payment_in : Done → Payment
payment_in (Done.Sent p) = p
payment_in Done.Plain = no_payment
payment_in (Done.Traced n) = no_payment

same_payment : {r r' : Result Payment Refusal} → answered Done.Sent r ≡ answered Done.Sent r' → r ≡ r'
unfolding payment_in
same_payment = answered_once no_payment Done.Sent payment_in (λ p. refl)

pub send_once : Coincide send.ended (λ M 𝓤 𝓛. send.clauses 𝓛)
send_once w x g = both w (λ p q. let o = outcome_once _ p q in (same_payment o.0, λ j. ((o.1 j).desk, (tt, (tt, (tt, tt))))))

payment_of : Answer → Payment
payment_of (Ok d) = payment_in d
payment_of (Err why) = no_payment

pub send_done_once : Coincide send-done.ended (λ M 𝓤 𝓛. send-done.clauses 𝓛)
unfolding payment_in payment_of
send_done_once w x g = both w (λ p q. let o = outcome_once _ p q in (ap payment_of o.0, λ j. ((o.1 j).desk, (tt, (tt, (tt, tt))))))

pub count_waiting_once : Coincide count-waiting.ended (λ M 𝓤 𝓛. count-waiting.clauses 𝓛)
count_waiting_once w x g = value w

pub send_reply_once : Coincide send-reply.ended (λ M 𝓤 𝓛. send-reply.clauses 𝓛)
send_reply_once w x g =
    let s : State = some_state [] [] [] (some_outside [] (record { 0 = 0 }) [] (some x.args.0 (record { 0 = 0 }))) 0 in
    let n : length s.outside.waiting ≡ x.args.0 = length-replicate x.args.0 _ in
    both w (λ p q. (plainly_once (told_once _ _ (p s n ∙ sym (q s n))), refl))

pub settle_once : Coincide settle.ended (λ M 𝓤 𝓛. settle.clauses 𝓛)
settle_once w x g = both w (λ p q. let o = outcome_once _ p q in (plainly_once o.0, λ j. ((o.1 j).desk, (tt, ((o.1 j).outbox, (tt, (tt, tt)))))))

pub settle_done_once : Coincide settle-done.ended (λ M 𝓤 𝓛. settle-done.clauses 𝓛)
settle_done_once w x g = both w (λ p q. let o = outcome_once _ p q in (refl, λ j. ((o.1 j).desk, (tt, ((o.1 j).outbox, (tt, (tt, tt)))))))

pub first_nonce_once : Coincide first-nonce.ended (λ M 𝓤 𝓛. first-nonce.clauses 𝓛)
first_nonce_once w x g = value w

-- the oldest of them, where there is one
oldest_of : (n : ℕ) (due : Nonce) → 1 ≤ n → (oldest (some n due)).nonce ≡ due
oldest_of zero due h = absurd (omega arith)
oldest_of (suc n) due h = unfold oldest in refl

pub settle_reply_once : Coincide settle-reply.ended (λ M 𝓤 𝓛. settle-reply.clauses 𝓛)
settle_reply_once w x g =
    let flying : ℕ = x.args.0 in
    let s : State = some_state [] [] [] (some_outside [] (record { 0 = 0 }) (some flying x.args.1.0) []) 0 in
    let f : length s.outside.inflight ≡ flying = length-replicate flying _ in
    both w (λ p q. (plainly_once (told_once _ _ (p s f (oldest_of flying x.args.1.0) ∙ sym (q s f (oldest_of flying x.args.1.0)))), refl))
