-- What acceptance gives, and what a call leaves: shared by the proofs of the code and by the promises.
use Rattle.std.specs.Prelude.{Ok}
use Prim.Native.Nat.{ℕ, zero, suc, ◌+◌, ◌≤◌, ◌<◌}
use mathlib.Core.Path.{◌≡◌, refl, sym, ◌∙◌}
use mathlib.Core.Logic.{◌≢◌}
use mathlib.Core.Bool.{true, false, not, ◌&&◌, ◌||◌}
use mathlib.Core.List.{List, ◌∷◌}
use native.Mathlib.Omega.{arith}
use lib.Dec.{leb, ltb, eqb}
use lib.ListN.{length, get_or}
use borrow.Author.Tests.{leb-false, ltb-false, eqb-true, eqb-false}
use Rattle.rules.specs.Types.{Nonce, Deposit, ClaimFields, TransferFields, WithdrawalFields, GrantFields, SignFields, Call, Payment}
use Rattle.rules.specs.Limits.{ceiling, highest_number, inbox_rows, outbox_rows, history_rows}
use Rattle.rules.specs.Lists.{all, any}
use Rattle.rules.specs.State.{State, Book, view, history_of, payments}
use Rattle.rules.specs.Replies.{Reply, told_refusal, told, smaller, smallest, if_done}
use Rattle.rules.specs.Refusals.{table, refusals, fulls, trace_refusals, full}
use Rattle.rules.specs.Effects.{effect, balance, holder, matches, total, oldest}
use Rattle.rules.specs.Frame.{in_frame}
use Rattle.rules.specs.History.{withdrawals, history_in_frame}
use Rattle.rules.specs.Answer.{asked, done, frame_test, reply_number, reply_with, done_answer, answer}
use Rattle.rules.proofs.Shapes.{view-laid}
use Rattle.rules.specs.Facts.{Accepted, Within, DepositFit, ClaimFit, TransferFit, WithdrawalFit, SendFit, SettleFit, GrantFit, SignFit, TraceFit, Fit, RoomIn, Room}
use Rattle.rules.proofs.Tests.{twice_not, not-holds, neither, within_true, all-at, all-last, numbered, none-applies, smallest-from}

-- ---- the number in a reply
-- what a done call tells has the number 0
done-told : (s : State) (c : Call) → (told (Ok (done_answer s c))).number ≡ 0
unfolding told done_answer
done-told s (Call.Deposit d) = refl
done-told s (Call.Claim c) = refl
done-told s (Call.Transfer t) = refl
done-told s (Call.Withdraw w) = refl
done-told s Call.Send = refl
done-told s (Call.Settle n) = refl
done-told s (Call.Grant g) = refl
done-told s (Call.Sign g) = refl
done-told s (Call.Trace n) = refl

-- a reply with a number has that number
pub reply-with : (n : ℕ) (r : Reply) → r.number ≡ 0 → (reply_with n r).number ≡ n
reply-with zero r h = h
reply-with (suc n) r h = refl

-- the number in the reply is the number that the rules give
pub reply-number : (b : Book) (c : Call) → (answer b c).reply.number ≡ reply_number b c
unfolding answer
reply-number b c = reply-with (reply_number b c) (told (Ok (done_answer (view b) c))) (done-told (view b) c)

-- a call is accepted where that number is 0, and only there
pub accepted-number : (b : Book) (c : Call) → Accepted b c → reply_number b c ≡ 0
accepted-number b c a = sym (reply-number b c) ∙ a.done

pub by_number : (b : Book) (c : Call) → reply_number b c ≡ 0 → Accepted b c
by_number b c e = record { done = reply-number b c ∙ e }

-- ---- what acceptance gives
-- every number in a call's table, BadBook's too, is a refusal's
pub table-numbered : (b : Book) (c : Call) → numbered (asked b c) ≡ true
unfolding all frame_test refusals fulls trace_refusals told_refusal
table-numbered b (Call.Deposit d) = refl
table-numbered b (Call.Claim c) = refl
table-numbered b (Call.Transfer t) = refl
table-numbered b (Call.Withdraw w) = refl
table-numbered b Call.Send = refl
table-numbered b (Call.Settle n) = refl
table-numbered b (Call.Grant g) = refl
table-numbered b (Call.Sign g) = refl
table-numbered b (Call.Trace n) = refl

pub refusals-numbered : (s : State) (c : Call) → numbered (refusals s c) ≡ true
unfolding all refusals trace_refusals told_refusal
refusals-numbered s (Call.Deposit d) = refl
refusals-numbered s (Call.Claim c) = refl
refusals-numbered s (Call.Transfer t) = refl
refusals-numbered s (Call.Withdraw w) = refl
refusals-numbered s Call.Send = refl
refusals-numbered s (Call.Settle n) = refl
refusals-numbered s (Call.Grant g) = refl
refusals-numbered s (Call.Sign g) = refl
refusals-numbered s (Call.Trace n) = refl

-- of an accepted call no refusal applies: the one at place k does not
refused-not : (b : Book) (c : Call) → Accepted b c → (k : ℕ) → not (get_or (asked b c) k (1, false)).1 ≡ true
unfolding reply_number
refused-not b c a k =
    all-at (λ r. not r.1) (asked b c) k (1, false) refl (none-applies (asked b c) (table-numbered b c) (accepted-number b c a))

-- the book is in frame
pub accepted-frame : (b : Book) (c : Call) → Accepted b c → in_frame b ≡ true
unfolding frame_test
accepted-frame b (Call.Deposit d) a = twice_not (in_frame b) (refused-not b (Call.Deposit d) a 0)
accepted-frame b (Call.Claim c) a = twice_not (in_frame b) (refused-not b (Call.Claim c) a 0)
accepted-frame b (Call.Transfer t) a = twice_not (in_frame b) (refused-not b (Call.Transfer t) a 0)
accepted-frame b (Call.Withdraw w) a = twice_not (in_frame b) (refused-not b (Call.Withdraw w) a 0)
accepted-frame b Call.Send a = twice_not (in_frame b) (refused-not b Call.Send a 0)
accepted-frame b (Call.Settle n) a = twice_not (in_frame b) (refused-not b (Call.Settle n) a 0)
accepted-frame b (Call.Grant g) a = twice_not (in_frame b) (refused-not b (Call.Grant g) a 0)
accepted-frame b (Call.Sign g) a = twice_not (in_frame b) (refused-not b (Call.Sign g) a 0)
accepted-frame b (Call.Trace n) a = twice_not (in_frame b) (neither (not (in_frame b)) (not (history_in_frame (history_of b))) (refused-not b (Call.Trace n) a 0)).0

-- a field's refusal does not apply: the field is within its limits
field_in : (hi x : ℕ) → not (not (leb 1 x && leb x hi)) ≡ true → Within 1 hi x
field_in hi x h = within_true 1 hi x (twice_not (leb 1 x && leb x hi) h)

-- and so for two members at once
fields_in : (hi x y : ℕ) → not (not (leb 1 x && leb x hi) || not (leb 1 y && leb y hi)) ≡ true → Within 1 hi x × Within 1 hi y
fields_in hi x y h =
    let (p, q) = neither (not (leb 1 x && leb x hi)) (not (leb 1 y && leb y hi)) h in
    (field_in hi x p, field_in hi y q)

-- a test "below" that does not hold; a test of equality that does not; one that does
not-below : (x y : ℕ) → not (ltb x y) ≡ true → y ≤ x
not-below x y h = ltb-false x y (not-holds (ltb x y) h)

differ : (x y : ℕ) → not (eqb x y) ≡ true → x ≢ y
differ x y h = eqb-false x y (not-holds (eqb x y) h)

equal : (x y : ℕ) → not (not (eqb x y)) ≡ true → x ≡ y
equal x y h = eqb-true x y (twice_not (eqb x y) h)

-- each call's facts, its table's entries one by one
deposit_fit : (b : Book) (d : Deposit) → Accepted b (Call.Deposit d) → DepositFit (view b) d
unfolding refusals
deposit_fit b d a =
    let last : ℕ = (view b).outside.last.0 in
    let no : (k : ℕ) → not (get_or (asked b (Call.Deposit d)) k (1, false)).1 ≡ true = refused-not b (Call.Deposit d) a in
    let old : last < d.number.0 = leb-false d.number.0 last (not-holds (leb d.number.0 last) (no 4)) in
    let (gap, high) = neither (ltb (last + 1) d.number.0) (ltb highest_number d.number.0) (no 5) in
    let low : d.number.0 ≤ last + 1 = not-below (last + 1) d.number.0 gap in
    record {
      member = field_in 16 d.member (no 1);
      asset = field_in 8 d.asset (no 2);
      amount = field_in ceiling d.amount (no 3);
      next = omega arith;
      numbered = not-below highest_number d.number.0 high;
      below = not-below ceiling (total (view b).outside.lifetime d.asset + d.amount) (no 6);
    }

claim_fit : (b : Book) (c : ClaimFields) → Accepted b (Call.Claim c) → ClaimFit (view b) c
unfolding refusals
claim_fit b c a =
    let no : (k : ℕ) → not (get_or (asked b (Call.Claim c)) k (1, false)).1 ≡ true = refused-not b (Call.Claim c) a in
    record {
      member = field_in 16 c.member (no 1);
      asset = field_in 8 c.asset (no 2);
      amount = field_in ceiling c.amount (no 3);
      found = twice_not (any (matches c) (view b).inbox) (no 4);
    }

transfer_fit : (b : Book) (t : TransferFields) → Accepted b (Call.Transfer t) → TransferFit (view b) t
unfolding refusals
transfer_fit b t a =
    let no : (k : ℕ) → not (get_or (asked b (Call.Transfer t)) k (1, false)).1 ≡ true = refused-not b (Call.Transfer t) a in
    let (from, to) = fields_in 16 t.from t.to (no 1) in
    record {
      from = from;
      to = to;
      asset = field_in 8 t.asset (no 2);
      amount = field_in ceiling t.amount (no 3);
      others = differ t.from t.to (no 4);
      enough = not-below (balance (view b).balances t.from t.asset) t.amount (no 5);
    }

withdrawal_fit : (b : Book) (w : WithdrawalFields) → Accepted b (Call.Withdraw w) → WithdrawalFit (view b) w
unfolding refusals
withdrawal_fit b w a =
    let no : (k : ℕ) → not (get_or (asked b (Call.Withdraw w)) k (1, false)).1 ≡ true = refused-not b (Call.Withdraw w) a in
    record {
      member = field_in 16 w.member (no 1);
      asset = field_in 8 w.asset (no 2);
      amount = field_in ceiling w.amount (no 3);
      payee = field_in 65_535 w.payee (no 4);
      enough = not-below (balance (view b).balances w.member w.asset) w.amount (no 5);
    }

send_fit : (b : Book) → Accepted b Call.Send → SendFit (view b)
unfolding refusals
send_fit b a =
    let some : length (view b).outside.waiting ≢ 0 = differ (length (view b).outside.waiting) 0 (refused-not b Call.Send a 1) in
    record { some = omega arith }

settle_fit : (b : Book) (n : Nonce) → Accepted b (Call.Settle n) → SettleFit (view b) n
unfolding refusals
settle_fit b n a =
    let flying : List Payment = (view b).outside.inflight in
    let (p, q) = neither (eqb (length flying) 0) (not (eqb (oldest flying).nonce.0 n.0)) (refused-not b (Call.Settle n) a 1) in
    let some : length flying ≢ 0 = differ (length flying) 0 p in
    record { some = omega arith; due = equal (oldest flying).nonce.0 n.0 q }

grant_fit : (b : Book) (g : GrantFields) → Accepted b (Call.Grant g) → GrantFit (view b) g
unfolding refusals
grant_fit b g a =
    let no : (k : ℕ) → not (get_or (asked b (Call.Grant g)) k (1, false)).1 ≡ true = refused-not b (Call.Grant g) a in
    let (from, to) = fields_in 16 g.from g.to (no 1) in
    record {
      from = from;
      to = to;
      domain = field_in 8 g.domain (no 2);
      others = differ g.from g.to (no 3);
      holds = equal (holder (view b).holders g.domain) g.from (no 4);
    }

sign_fit : (b : Book) (g : SignFields) → Accepted b (Call.Sign g) → SignFit (view b) g
unfolding refusals
sign_fit b g a =
    record {
      member = field_in 16 g.member (refused-not b (Call.Sign g) a 1);
      domain = field_in 8 g.domain (refused-not b (Call.Sign g) a 2);
      holds = equal (holder (view b).holders g.domain) g.member (refused-not b (Call.Sign g) a 3);
    }

trace_fit : (b : Book) (n : Nonce) → Accepted b (Call.Trace n) → TraceFit (view b) n
unfolding refusals trace_refusals frame_test view
trace_fit b n a =
    let h : ℕ = withdrawals (history_of b) in
    record {
      replays = twice_not (history_in_frame (history_of b)) (neither (not (in_frame b)) (not (history_in_frame (history_of b))) (refused-not b (Call.Trace n) a 0)).1;
      paid = leb-false h n.0 (not-holds (leb h n.0) (refused-not b (Call.Trace n) a 2));
    }

-- the nine as one
pub fit : (b : Book) (c : Call) → Accepted b c → Fit (view b) c
fit b (Call.Deposit d) a = deposit_fit b d a
fit b (Call.Claim c) a = claim_fit b c a
fit b (Call.Transfer t) a = transfer_fit b t a
fit b (Call.Withdraw w) a = withdrawal_fit b w a
fit b Call.Send a = send_fit b a
fit b (Call.Settle n) a = settle_fit b n a
fit b (Call.Grant g) a = grant_fit b g a
fit b (Call.Sign g) a = sign_fit b g a
fit b (Call.Trace n) a = trace_fit b n a

-- ---- room
-- a table is not full: there is a row for one more
has_room : {A : Type 0} (rows : ℕ) (used : List A) → not (full rows used) ≡ true → RoomIn rows used
unfolding full
has_room rows used h = record { room = leb-false rows (length used) (not-holds (leb rows (length used)) h) }

-- of an accepted call no table that it needs a row of is full: the one at place k is not
full-not : (b : Book) (c : Call) → Accepted b c → (k : ℕ) → not (get_or (fulls (view b) c) k (1, false)).1 ≡ true
unfolding reply_number
full-not b c a k =
    let none : all (λ r. not r.1) (asked b c) ≡ true = none-applies (asked b c) (table-numbered b c) (accepted-number b c a) in
    all-at (λ r. not r.1) (fulls (view b) c) k (1, false) refl (all-last (λ r. not r.1) (frame_test b c ∷ refusals (view b) c) (fulls (view b) c) none)

pub roomy : (b : Book) (c : Call) → Accepted b c → Room (view b) c
unfolding fulls
roomy b (Call.Deposit d) a = has_room inbox_rows (view b).inbox (full-not b (Call.Deposit d) a 0)
roomy b (Call.Claim c) a = has_room history_rows (view b).history (full-not b (Call.Claim c) a 0)
roomy b (Call.Transfer t) a = has_room history_rows (view b).history (full-not b (Call.Transfer t) a 0)
roomy b (Call.Withdraw w) a =
    (has_room outbox_rows (payments (view b).outside) (full-not b (Call.Withdraw w) a 0), has_room history_rows (view b).history (full-not b (Call.Withdraw w) a 1))
roomy b Call.Send a = record {}
roomy b (Call.Settle n) a = record {}
roomy b (Call.Grant g) a = has_room history_rows (view b).history (full-not b (Call.Grant g) a 0)
roomy b (Call.Sign g) a = record {}
roomy b (Call.Trace n) a = record {}

-- ---- what a call leaves
-- this or that by the number
pub not_done : {A : Type 0} (n : ℕ) (x y : A) → n ≢ 0 → if_done n x y ≡ y
not_done zero x y h = absurd (h refl)
not_done (suc n) x y h = refl

-- a function of this or that
if_done_of : {A B : Type 0} (f : A → B) (n : ℕ) (x y : A) → f (if_done n x y) ≡ if_done n (f x) (f y)
if_done_of f zero x y = refl
if_done_of f (suc n) x y = refl

-- the state of the book that a done call leaves is its effect
pub view-done : (b : Book) (c : Call) → view (done c b) ≡ effect c (view b)
view-done b c = view-laid (effect c (view b)) b

-- the state after a call: the effect where it is accepted, and the state as it was where it is refused
pub state-after : (b : Book) (c : Call) → view (answer b c).book ≡ if_done (reply_number b c) (effect c (view b)) (view b)
unfolding answer
state-after b c = rw (if_done_of view (reply_number b c) (done c b) b, view-done b c)

-- the book that an accepted call leaves
pub book-accepted : (b : Book) (c : Call) → Accepted b c → (answer b c).book ≡ done c b
unfolding answer
book-accepted b c a = rw (accepted-number b c a)

-- its state is the effect
pub state-accepted : (b : Book) (c : Call) → Accepted b c → view (answer b c).book ≡ effect c (view b)
state-accepted b c a = state-after b c ∙ rw (accepted-number b c a)

-- ---- the frame comes first
-- every other number is above BadBook's
table_above : (s : State) (c : Call) → all (λ r. leb 3 r.0) (table s c) ≡ true
unfolding all refusals fulls trace_refusals told_refusal
table_above s (Call.Deposit d) = refl
table_above s (Call.Claim c) = refl
table_above s (Call.Transfer t) = refl
table_above s (Call.Withdraw w) = refl
table_above s Call.Send = refl
table_above s (Call.Settle n) = refl
table_above s (Call.Grant g) = refl
table_above s (Call.Sign g) = refl
table_above s (Call.Trace n) = refl

-- so the number is 2 where the frame's test applies
pub unframed_number : (b : Book) (c : Call) → frame_test b c ≡ (2, true) → reply_number b c ≡ 2
unfolding reply_number smallest
unframed_number b c e = rw e (first (smallest (table (view b) c)) (smallest-from 3 (table (view b) c) (table_above (view b) c)))
  where
    first : (m : ℕ) → (m ≢ 0 → 3 ≤ m) → smaller 2 m ≡ 2
    first zero h = refl
    first (suc m) h = omega (arith, h (λ z. omega arith))

-- and its table's where it does not
pub framed-number : (b : Book) (c : Call) → (frame_test b c).1 ≡ false → reply_number b c ≡ smallest (table (view b) c)
unfolding reply_number smallest
framed-number b c e = rw e
