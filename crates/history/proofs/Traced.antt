-- The two ends of a trace: the number that it gives, and what it hands out and leaves where nothing is refused.
use Rattle.std.specs.Prelude.{Result, Ok, Err}
use Prim.Native.Nat.{ℕ, ◌≤◌}
use mathlib.Core.Path.{◌≡◌, refl, sym, ap, ◌∙◌}
use mathlib.Core.Logic.{◌≢◌}
use mathlib.Core.Bool.{Bool, true, false, not, ◌||◌}
use mathlib.Core.List.{List, [], ◌∷◌}
use native.Mathlib.Omega.{arith}
use lib.Dec.{leb, ltb}
use lib.ListN.{length, replicate, length-append, length-replicate}
use borrow.Author.Tests.{leb-false, ltb-false}
use Rattle.rules.specs.declared.rows.Nonce.{Nonce}
use Rattle.rules.specs.declared.rows.Lot.{Lot}
use Rattle.rules.specs.declared.answers.Refusal.{Refusal}
use Rattle.rules.specs.declared.answers.Done.{Done}
use Rattle.rules.specs.Limits.{history_rows}
use Rattle.rules.specs.Lists.{all}
use Rattle.rules.specs.Tables.{rows_of, record_shape}
use Rattle.rules.specs.State.{State, Book, view, history_of}
use Rattle.rules.specs.Replies.{Reply, told_refusal, told, plainly, plain, smallest}
use Rattle.rules.specs.Refusals.{trace_refusals}
use Rattle.rules.specs.Frame.{in_frame}
use Rattle.rules.specs.History.{history_in_frame, withdrawals}
use Rattle.rules.specs.Lots.{no_lot, pieces}
use Rattle.rules.specs.Answer.{bad_history, in_front, trace_number, trace_answer}
use Rattle.rules.proofs.Laying.{length-rows}
use Rattle.rules.proofs.Tests.{neither, not-holds, twice_not, all-at, none-applies}
use Rattle.rules.proofs.Told.{refusal_number}
use Rattle.rules.proofs.Accepts.{not_done}
use Rattle.rules.proofs.Books.{Framed, framed}
use Rattle.desk.proofs.Chains.{Entry, chain, not_below, chain-told}
use Rattle.lots.specs.Traces.{before_payment}
use Rattle.records.specs.Test.{history_frame}
use Rattle.records.proofs.Counting.{history-whole}
use Rattle.replays.specs.Replaying.{CanTrace, Traces}
use Rattle.replays.proofs.Payments.{no_payment_lem}
use Rattle.history.specs.Tracing.{trace_outcome_of, history_refusals, trace_number_for}

-- ---- the table of refusals
abbrev pub trace_entries : Bool → ℕ → ℕ → ℕ → ℕ → List Entry
trace_entries isHistory records rows places at =
    (Refusal.BadBook, not isHistory)
    ∷ (Refusal.TableSmall, ltb rows records || ltb places records)
    ∷ (Refusal.NoSuchPayment, leb records at)
    ∷ []

pub history_told : (history : List ℕ) (records rows places : ℕ) (n : Nonce) (s : State) (r : Result (Unit {0}) Refusal) → s.history ≡ rows_of record_shape records history
    → r ≡ chain (trace_entries (history_frame history records) records rows places (length (before_payment n.0 (rows_of record_shape records history))))
    → told (plainly r) ≡ plain (smallest (history_refusals history records rows places s n))
unfolding trace_refusals told_refusal not_below all
history_told history records rows places n s r e p =
    rw (p, e, ← no_payment_lem n.0 (rows_of record_shape records history), length-rows record_shape records history)
    (chain-told (trace_entries (history_frame history records) records rows places (length (before_payment n.0 (rows_of record_shape records history)))) refl)

-- behind the frame's test it tells the number that the rules give
pub trace_met : (b : Book) (rows places : ℕ) (n : Nonce) (r : Result (Unit {0}) Refusal) → in_frame b ≡ true
    → ((s : State) → s.history ≡ rows_of record_shape b.desk.counts.records b.history → told (plainly r) ≡ plain (smallest (history_refusals b.history b.desk.counts.records rows places s n)))
    → told (plainly r) ≡ plain (trace_number_for b rows places n)
unfolding trace_number_for trace_refusals view
trace_met b rows places n r f h = h (view b) refl ∙ rw (f, history-whole b f)

pub trace_unmet : (b : Book) (rows places : ℕ) (n : Nonce) → in_frame b ≡ false → told (Err Refusal.BadBook) ≡ plain (trace_number_for b rows places n)
unfolding trace_number_for trace_refusals told_refusal told not_below all
trace_unmet b rows places n f = rw f (chain-told ((Refusal.BadBook, true) ∷ (Refusal.TableSmall, _) ∷ (Refusal.NoSuchPayment, _) ∷ []) refl)

-- ---- the two ends
module _ (b : Book) (work out : List Lot) (n : Nonce) where
  -- the same number
  number_is : trace_number_for b (length work) (length out) n ≡ trace_number b work out n
  unfolding trace_number_for trace_number
  number_is = refl

  -- refused: both tables as they came
  pub trace_refused : (why : Refusal) → told (Err why) ≡ plain (trace_number_for b (length work) (length out) n)
      → trace_outcome_of (Err why) work out ≡ trace_answer b work out n
  unfolding trace_answer told
  trace_refused why tells =
      let k : ℕ = trace_number b work out n in
      let same : told (Err why) ≡ plain k = tells ∙ ap plain number_is in
      let no : k ≢ 0 = λ z. omega (arith, refusal_number why, ap (λ (x : Reply). x.number) same) in
      rw (
        not_done k (told (Ok (Done.Traced (length (pieces (history_of b) n))))) (plain k) no,
        not_done k (replicate (length work) no_lot) work no,
        not_done k (in_front (pieces (history_of b) n) out) out no,
        same,
      )

  module _ (tells : told (Ok Done.Plain) ≡ plain (trace_number_for b (length work) (length out) n)) where
    done : trace_number_for b (length work) (length out) n ≡ 0
    unfolding told
    done = sym (ap (λ (x : Reply). x.number) tells)

    -- not refused: the history is one, and it can be traced
    pub few_records : b.desk.counts.records ≤ history_rows
    unfolding trace_number_for trace_refusals view told_refusal all
    few_records =
        let rs : List (ℕ × Bool) = bad_history b ∷ trace_refusals (length work) (length out) (view b) n in
        let none = none-applies rs refl done in
        let (u, v) = neither (not (in_frame b)) (not (history_in_frame (history_of b))) (all-at (λ r. not r.1) rs 0 (1, false) refl none) in
        let f : Framed b = framed b (twice_not (in_frame b) u) in
        f.records

    pub can_trace : (rows : ℕ) → b.desk.counts.records ≤ rows → CanTrace b.history b.desk.counts.records n.0 work (replicate rows no_lot) out
    unfolding trace_number_for trace_refusals view told_refusal all
    can_trace rows e =
        let rs : List (ℕ × Bool) = bad_history b ∷ trace_refusals (length work) (length out) (view b) n in
        let none = none-applies rs refl done in
        let no : (k : ℕ) → not (lib.ListN.get_or rs k (1, false)).1 ≡ true = λ k. all-at (λ r. not r.1) rs k (1, false) refl none in
        let (u, v) = neither (not (in_frame b)) (not (history_in_frame (history_of b))) (no 0) in
        let f : Framed b = framed b (twice_not (in_frame b) u) in
        let count : length (history_of b) ≡ b.desk.counts.records = length-rows record_shape b.desk.counts.records b.history in
        let (w, p) = neither (ltb (length work) (length (history_of b))) (ltb (length out) (length (history_of b))) (no 1) in
        record {
          few = f.records;
          room = omega (arith, count, ltb-false (length work) (length (history_of b)) (not-holds (ltb (length work) (length (history_of b))) w));
          places = omega (arith, count, ltb-false (length out) (length (history_of b)) (not-holds (ltb (length out) (length (history_of b))) p));
          scratch = rw length-replicate e;
          paid = leb-false (withdrawals (history_of b)) n.0 (not-holds (leb (withdrawals (history_of b)) n.0) (no 2));
        }

    -- done: what was handed out and left
    pub trace_done : (count : ℕ) (cleared laid : List Lot) → Traces b.history b.desk.counts.records n.0 work out count cleared laid
        → trace_outcome_of (Ok (Done.Traced count)) cleared laid ≡ trace_answer b work out n
    unfolding trace_answer
    trace_done count cleared laid t = rw (sym number_is ∙ done, t.counts, t.clears, t.lays)
