-- The frame, and then a call's table of refusals: out of frame the number is 2; in frame it is the table's.
use Rattle.std.specs.Prelude.{Result, Err}
use mathlib.Core.Path.{◌≡◌, refl}
use mathlib.Core.Bool.{true, false}
use Rattle.rules.specs.declared.rows.Nonce.{Nonce}
use Rattle.rules.specs.declared.calls.Call.{Call}
use Rattle.rules.specs.declared.calls.SignFields.{SignFields}
use Rattle.rules.specs.declared.answers.Refusal.{Refusal}
use Rattle.rules.specs.Limits.{history_rows}
use Rattle.rules.specs.Tables.{rows_of, record_shape}
use Rattle.rules.specs.State.{State, Book, view}
use Rattle.rules.specs.Replies.{told_refusal, told, plainly, plain, smallest}
use Rattle.rules.specs.Refusals.{table, refusals, fulls, trace_refusals}
use Rattle.rules.specs.Frame.{in_frame}
use Rattle.rules.specs.Answer.{frame_test, reply_number}
use Rattle.rules.proofs.Accepts.{unframed_number}
use Rattle.desk.proofs.Books.{framed_reply}
use Rattle.history.specs.Tracing.{history_refusals}
use Rattle.records.proofs.Counting.{history-whole}
use Rattle.inbox.proofs.Laws.{deposit_met, claim_met}
use Rattle.ledger.proofs.Laws.{transfer_met, grant_met}
use Rattle.outbox.proofs.Laws.{withdraw_met, send_met, settle_met}

-- out of frame, whatever the call
bad_book_lem : (b : Book) (c : Call) → in_frame b ≡ false → frame_test b c ≡ (2, true)
unfolding frame_test told_refusal
bad_book_lem b (Call.Deposit d) f = rw f
bad_book_lem b (Call.Claim c) f = rw f
bad_book_lem b (Call.Transfer t) f = rw f
bad_book_lem b (Call.Withdraw w) f = rw f
bad_book_lem b Call.Send f = rw f
bad_book_lem b (Call.Settle n) f = rw f
bad_book_lem b (Call.Grant g) f = rw f
bad_book_lem b (Call.Sign g) f = rw f
bad_book_lem b (Call.Trace n) f = rw f

pub unframed_call : (b : Book) (c : Call) → in_frame b ≡ false → told (Err Refusal.BadBook) ≡ plain (reply_number b c)
unfolding told told_refusal
unframed_call b c f = rw (unframed_number b c (bad_book_lem b c f))

-- in frame, a sign
pub sign_met : (b : Book) (g : SignFields) (r : Result (Unit {0}) Refusal) → in_frame b ≡ true
    → ((s : State) → s.holders ≡ b.desk.holders → told (plainly r) ≡ plain (smallest (table s (Call.Sign g)))) → told (plainly r) ≡ plain (reply_number b (Call.Sign g))
unfolding frame_test view
sign_met b g r f h = framed_reply b (Call.Sign g) r refl f (h (view b) refl)

-- and a trace, whose table has the history's test too
pub trace_met : (b : Book) (n : Nonce) (r : Result (Unit {0}) Refusal) → in_frame b ≡ true
    → ((s : State) → s.history ≡ rows_of record_shape b.desk.counts.records b.history → told (plainly r) ≡ plain (smallest (history_refusals b.history b.desk.counts.records history_rows history_rows s n)))
    → told (plainly r) ≡ plain (reply_number b (Call.Trace n))
unfolding reply_number frame_test refusals fulls trace_refusals view
trace_met b n r f h = rw (f, ← history-whole b f) (h (view b) refl)

-- every call's table
pub ruleset tables = (deposit_met, claim_met, transfer_met, withdraw_met, send_met, settle_met, grant_met, sign_met, trace_met)
