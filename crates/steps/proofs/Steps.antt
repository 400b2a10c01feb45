-- What a call's own function gives is what the step leaves: only a trace hands out pieces, and a trace leaves the book as it was.
use Rattle.std.specs.Prelude.{Ok, Err}
use Prim.Native.Nat.{ℕ, zero, suc}
use mathlib.Core.Path.{◌≡◌, refl, sym, ap, ◌∙◌}
use mathlib.Core.List.{List, []}
use mathlib.Core.Bool.{false}
use native.Mathlib.Omega.{arith}
use lib.ListN.{length, get_or, take}
use Rattle.rules.specs.declared.rows.Nonce.{Nonce}
use Rattle.rules.specs.declared.rows.Lot.{Lot}
use Rattle.rules.specs.declared.calls.Call.{Call}
use Rattle.rules.specs.declared.calls.SignFields.{SignFields}
use Rattle.rules.specs.Types.{Answer}
use Rattle.rules.specs.Tables.{record_shape}
use Rattle.rules.specs.State.{Book, view, history_of}
use Rattle.rules.specs.Replies.{Reply, number_of, told, if_done}
use Rattle.rules.proofs.Told.{refusal_number}
use Rattle.rules.specs.Effects.{changes_nothing}
use Rattle.rules.specs.Answer.{answer, outcome_of, reply_number, reply_with, done_answer, pieces_of, trace_answer, TraceOutcome}
use Rattle.rules.specs.Facts.{Accepted}
use Rattle.rules.proofs.Accepts.{accepted-frame}
use Rattle.rules.proofs.Laying.{length-rows}
use Rattle.rules.proofs.Books.{framed, nothing-laid, nothing_changed}
use Rattle.desk.proofs.Books.{lays}
use Rattle.history.specs.Tracing.{trace_outcome_of}
use Rattle.lots.proofs.TraceJoin.{Enough, trace-reply, trace-pieces}
use Rattle.pages.specs.Writing.{Page, put}
use Rattle.replies.specs.Writing.{reply_line}
use Rattle.rules.specs.Transcript.{reply_text}
use Rattle.replies.proofs.ReplyLaws.{reply-line, reply-text}
use Rattle.rules.specs.declared.answers.Done.{Done}
use Rattle.steps.specs.Step.{Replied, HasTables, is_trace, handed, answer_text, replied_of, replied}

abbrev pub value_count : Reply → ℕ
value_count r = length r.values

-- ---- a call that hands out no pieces
pub plain-replied : (a : Answer) (left : Book) (k n : ℕ) (p : Page) {q : Page} → k ≡ (told a).number → q ≡ put p (reply_line n (told a)) → replied_of k left q ≡ replied n p (outcome_of a left)
plain-replied a left k n p e f = rw (e, f, reply-line n (outcome_of a left) refl)

-- a sign changes nothing
pub signed : (b : Book) (s : SignFields) → Accepted b (Call.Sign s) → outcome_of (Ok Done.Plain) b ≡ answer b (Call.Sign s)
unfolding told done_answer pieces_of
signed b s y =
    lays b (Call.Sign s) y (Ok Done.Plain) b refl refl
    (sym (nothing-laid b (Call.Sign s) (unfold changes_nothing in refl) (framed b (accepted-frame b (Call.Sign s) y))))

-- what is none of the traces
pub no-trace : (c : Call) → ((n : Nonce) → c ≡ Call.Trace n → ⊥) → is_trace c ≡ false
no-trace (Call.Deposit d) h = refl
no-trace (Call.Claim c) h = refl
no-trace (Call.Transfer t) h = refl
no-trace (Call.Withdraw w) h = refl
no-trace Call.Send h = refl
no-trace (Call.Settle n) h = refl
no-trace (Call.Grant g) h = refl
no-trace (Call.Sign g) h = refl
no-trace (Call.Trace n) h = absurd (h n refl)

-- ---- a trace
-- a done trace hands out as many rows as there are pieces
handed-traced : (a : Answer) (k : ℕ) (ps t : List Lot) → told a ≡ reply_with k (told (Ok (Done.Traced (length ps))))
    → take (length (if_done k ps [])) t ≡ if_done k ps [] → handed a t ≡ if_done k ps []
unfolding handed told
handed-traced (Ok Done.Plain) zero ps t e f = absurd (let z : ◌≡◌ {A = ℕ} 0 1 = ap value_count e in omega arith)
handed-traced (Ok Done.Plain) (suc k) ps t e f = refl
handed-traced (Ok (Done.Sent x)) zero ps t e f = absurd (let z : ◌≡◌ {A = ℕ} 4 1 = ap value_count e in omega arith)
handed-traced (Ok (Done.Sent x)) (suc k) ps t e f = refl
handed-traced (Ok (Done.Traced m)) zero ps t e f = let q : m ≡ length ps = ap (λ (r : Reply). get_or r.values 0 0) e in rw q f
handed-traced (Ok (Done.Traced m)) (suc k) ps t e f = absurd (let z : ◌≡◌ {A = ℕ} 1 0 = ap value_count e in omega arith)
handed-traced (Err why) zero ps t e f = absurd (let z : number_of why ≡ 0 = ap (λ (r : Reply). r.number) e in omega (arith, refusal_number why))
handed-traced (Err why) (suc k) ps t e f = refl

abbrev reply_found : TraceOutcome → Reply
reply_found o = o.reply

abbrev pieces_found : TraceOutcome → List Lot
pieces_found o = o.pieces

module _ (b : Book) (work out : List Lot) (n : Nonce) (a : Answer) (work' out' : List Lot) (has : HasTables b.desk.counts.records work out) (e : trace_outcome_of a work' out' ≡ trace_answer b work out n) where
  count : length (history_of b) ≡ b.desk.counts.records
  count = length-rows record_shape b.desk.counts.records b.history

  rows : Enough b (length work)
  rows = rw count has.rows

  places : Enough b (length out)
  places = rw count has.places

  reply_is : told a ≡ (answer b (Call.Trace n)).reply
  reply_is = ap reply_found e ∙ sym (trace-reply b work out n rows places)

  rows_are : take (length (answer b (Call.Trace n)).pieces) out' ≡ (answer b (Call.Trace n)).pieces
  rows_are = ap (λ (t : List Lot). take (length (answer b (Call.Trace n)).pieces) t) (ap pieces_found e) ∙ trace-pieces b work out n rows places

  pieces_are : handed a out' ≡ (answer b (Call.Trace n)).pieces
  unfolding answer pieces_of done_answer
  pieces_are = handed-traced a (reply_number b (Call.Trace n)) (pieces_of (view b) (Call.Trace n)) out' reply_is rows_are

  pub trace_replied : (k : ℕ) (p q : Page) (m : ℕ) → m ≡ (told a).number → q ≡ put p (answer_text k a out')
      → ◌≡◌ {A = Replied} (record { book = b; number = m; text = q }) (replied k p (answer b (Call.Trace n)))
  unfolding answer_text
  trace_replied k p q m c f =
      rw (f, c, reply_is, pieces_are, ← reply-text k (answer b (Call.Trace n)))
      (ap (λ (x : Book). record { book = x; number = (answer b (Call.Trace n)).reply.number; text = put p (reply_text k (answer b (Call.Trace n))) }) (sym (nothing_changed b (Call.Trace n) (unfold changes_nothing in refl))))
