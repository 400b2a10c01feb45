-- The queue of payments: what waits is sent in its order, and a send is accepted whenever something waits.
use Rattle.std.specs.Prelude.{Ok}
use Prim.Native.Nat.{ℕ, zero, suc, ◌+◌, ◌-◌, ◌≤◌, ◌<◌}
use mathlib.Core.Path.{◌≡◌, refl, sym, ap, ◌∙◌}
use mathlib.Core.Bool.{Bool, true, false}
use mathlib.Core.List.{List, [], ◌∷◌, ◌++◌, append_assoc, append-nil}
use native.Mathlib.Omega.{arith}
use lib.Dec.{ltb}
use lib.ListN.{length, get_or, length-append, get_or-append}
use lib.Seq.{drop-cons}
use borrow.Author.Tests.{ltb-true, ltb-false}
use Rattle.promises.specs.Types.{Payment, Call, Done}
use Rattle.rules.specs.State.{Book, view}
use Rattle.rules.specs.Replies.{told, if_done}
use Rattle.rules.specs.Effects.{effect, oldest, payment_of, deposited, withdrawn, sent, settled_one, outside_after}
use Rattle.rules.specs.Answer.{reply_number, done_answer, answer}
use Rattle.rules.specs.Runs.{book_after, run, gather, sending, sends, sent_after}
use Rattle.rules.specs.Facts.{Accepted, SendFit}
use Rattle.promises.specs.Demand2.{queueing, queued, is_send, send_calls, waiting_in, no_payment}
use Rattle.promises.specs.Promises.{Queue}
use Rattle.rules.proofs.Accepts.{accepted-number, fit}
use Rattle.promises.specs.Started.{Started}
use Rattle.promises.proofs.Reached.{started-run, started_keeps}
use Rattle.promises.proofs.Accepts.{accepts}
use Rattle.promises.proofs.Order.{moved}

-- ---- a send is accepted whenever something waits
pub send-accepted : (b : Book) → Started b → 1 ≤ length (waiting_in b) → Accepted b Call.Send
send-accepted b r h = (accepts b Call.Send r).1 (record { some = h }, record {})

-- and it answers the oldest
send-answers : (b : Book) → Started b → 1 ≤ length (waiting_in b) → (answer b Call.Send).reply ≡ told (Ok (Done.Sent (oldest (waiting_in b))))
unfolding answer done_answer
send-answers b r h = rw (accepted-number b Call.Send (send-accepted b r h))

-- ---- the order
-- what was sent and then waits is what waited and then was queued: kept by every accepted call
module _ (first : List Payment) where
  -- the payment that a send takes from the front, and the one that a withdrawal puts at the end
  line_kept : (ss qs : List Payment) (b : Book) (c : Call) → Accepted b c → Started b → ss ++ waiting_in b ≡ first ++ qs
      → ss ++ sending b c ++ (effect c (view b)).outside.waiting ≡ first ++ (qs ++ queueing b c)
  unfolding sending queueing effect outside_after deposited withdrawn sent settled_one
  line_kept ss qs b (Call.Deposit d) a r h = rw (append-nil ss, append-nil qs) h
  line_kept ss qs b (Call.Claim c) a r h = rw (append-nil ss, append-nil qs) h
  line_kept ss qs b (Call.Transfer t) a r h = rw (append-nil ss, append-nil qs) h
  line_kept ss qs b (Call.Withdraw w) a r h =
      let p : Payment = payment_of w (view b).outside.next in
      rw (append-nil ss, ← append_assoc ss (waiting_in b) (p ∷ []), ← append_assoc first qs (p ∷ []), h)
  line_kept ss qs b Call.Send a r h =
      let k : SendFit (view b) = fit b Call.Send a in
      rw (append-nil qs) (moved ss (waiting_in b) k.some ∙ h)
  line_kept ss qs b (Call.Settle n) a r h = rw (append-nil ss, append-nil qs) h
  line_kept ss qs b (Call.Grant g) a r h = rw (append-nil ss, append-nil qs) h
  line_kept ss qs b (Call.Sign g) a r h = rw (append-nil ss, append-nil qs) h
  line_kept ss qs b (Call.Trace n) a r h = rw (append-nil ss, append-nil qs) h

-- so it holds after any further calls
pub in_line_lem : (b : Book) (further : List Call) → Started b → sends b further ++ waiting_in (run b further) ≡ waiting_in b ++ queued b further
in_line_lem b further r =
    started_keeps sending queueing (λ ss qs s. ss ++ s.outside.waiting ≡ waiting_in b ++ qs) (line_kept (waiting_in b)) b further r (sym (append-nil (waiting_in b)))

-- ---- enough sends
-- nothing sent is nothing sent, accepted or not
nothing : (n : ℕ) → length (if_done {A = List Payment} n [] []) ≡ 0
nothing zero = refl
nothing (suc n) = refl

-- what one call sends: one payment if it is a send and something waits, else none
sent-count : (b : Book) (c : Call) → Started b → 1 ≤ length (waiting_in b) → length (if_done (reply_number b c) (sending b c) []) ≡ is_send c
unfolding sending is_send
sent-count b (Call.Deposit d) r h = nothing (reply_number b (Call.Deposit d))
sent-count b (Call.Claim c) r h = nothing (reply_number b (Call.Claim c))
sent-count b (Call.Transfer t) r h = nothing (reply_number b (Call.Transfer t))
sent-count b (Call.Withdraw w) r h = nothing (reply_number b (Call.Withdraw w))
sent-count b Call.Send r h = rw (accepted-number b Call.Send (send-accepted b r h))
sent-count b (Call.Settle n) r h = nothing (reply_number b (Call.Settle n))
sent-count b (Call.Grant g) r h = nothing (reply_number b (Call.Grant g))
sent-count b (Call.Sign g) r h = nothing (reply_number b (Call.Sign g))
sent-count b (Call.Trace n) r h = nothing (reply_number b (Call.Trace n))

-- a call takes from those that wait at most what it sends
waits_on : (b : Book) (c : Call) → Started b → length (waiting_in b) ≤ length (if_done (reply_number b c) (sending b c) []) + length (waiting_in (book_after b c))
unfolding gather run
waits_on b c r =
    let x : List Payment = if_done (reply_number b c) (sending b c) [] in
    let e : x ++ [] ++ waiting_in (book_after b c) ≡ waiting_in b ++ queued b (c ∷ []) = in_line_lem b (c ∷ []) r in
    omega (arith, simp length-append at (ap length e))

-- of send calls, accepted or not, that are more than stand before a waiting payment, more than that are accepted
pub sends-suffice : (b : Book) (further : List Call) → Started b → (k : ℕ) → k < length (waiting_in b) → k < send_calls further → k < length (sends b further)
unfolding send_calls gather run
sends-suffice b [] r k h n = absurd (omega arith)
sends-suffice b (c ∷ cs) r k h n =
    rw (length-append (if_done (reply_number b c) (sending b c) []) (sends (book_after b c) cs))
    (go (ltb k x) refl (sends-suffice (book_after b c) cs (started-run b (c ∷ []) r) (k - x)))
  where
    x : ℕ
    x = length (if_done (reply_number b c) (sending b c) [])

    go : (t : Bool) → ltb k x ≡ t
        → (k - x < length (waiting_in (book_after b c)) → k - x < send_calls cs → k - x < length (sends (book_after b c) cs))
        → k < x + length (sends (book_after b c) cs)
    go true e ih = omega (arith, ltb-true k x e)
    go false e ih =
        let l : x ≤ k = ltb-false k x e in
        let i : x ≡ is_send c = sent-count b c r (omega arith) in
        omega (arith, ih (omega (arith, waits_on b c r)) (omega arith))

-- the payment at a place of what waits is the one that the send of that place sends
pub sent-at : (b : Book) (further : List Call) → Started b → (k : ℕ) → k < length (waiting_in b) → k < length (sends b further)
    → sent_after k b further ≡ get_or (waiting_in b) k no_payment ∷ []
sent-at b further r k h n =
    let e : get_or (sends b further) k no_payment ≡ get_or (waiting_in b) k no_payment =
    sym (get_or-append (sends b further) (waiting_in (run b further)) no_payment k n)
    ∙ ap (λ (ps : List Payment). get_or ps k no_payment) (in_line_lem b further r)
    ∙ get_or-append (waiting_in b) (queued b further) no_payment k h in
    rw (drop-cons (sends b further) k no_payment n, e)

-- all that is promised of the queue
pub queue : (b : Book) (further : List Call) → Started b → Queue b further
queue b further r =
    record {
      accepted = send-accepted b r;
      answers = send-answers b r;
      order = in_line_lem b further r;
      sent = sent-at b further r;
      suffice = sends-suffice b further r;
    }
