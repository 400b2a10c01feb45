-- The two ways in which a trace is said are one: what a line of calls gets, and what the lent tables get, where both tables have a row for each record, if there are no more than a history can have.
use Prim.Native.Nat.{ℕ, zero, suc, ◌≤◌}
use mathlib.Core.Path.{◌≡◌, refl, sym, ◌∙◌}
use mathlib.Core.Bool.{Bool, true, false, not, ◌||◌}
use mathlib.Core.List.{List, [], ◌∷◌}
use native.Mathlib.Omega.{arith}
use lib.Dec.{leb, ltb}
use lib.ListN.{length, take, drop, replicate}
use lib.Seq.{take-append_seam}
use borrow.Author.Tests.{leb-true, le-ltb}
use Rattle.rules.specs.declared.rows.Nonce.{Nonce}
use Rattle.rules.specs.declared.rows.Lot.{Lot}
use Rattle.rules.specs.declared.calls.Call.{Call}
use Rattle.rules.specs.Limits.{history_rows}
use Rattle.rules.specs.Tables.{record_shape}
use Rattle.rules.specs.State.{Book, view, history_of}
use Rattle.rules.specs.Replies.{told_refusal, smallest, if_done}
use Rattle.rules.specs.Refusals.{refusals, fulls, trace_refusals}
use Rattle.rules.specs.Frame.{in_frame}
use Rattle.rules.specs.History.{withdrawals, history_in_frame}
use Rattle.rules.specs.Lots.{no_lot, pieces}
use Rattle.rules.specs.Answer.{frame_test, reply_number, pieces_of, done_answer, answer, in_front, trace_number, trace_answer}
use Rattle.rules.specs.Facts.{Accepted}
use Rattle.rules.proofs.Accepts.{accepted-number}
use Rattle.rules.proofs.Laying.{length-rows}
use Rattle.rules.proofs.Tests.{ands-at}

-- a book in frame has at most as many records as the table has rows
pub records_fit : (b : Book) → in_frame b ≡ true → length (history_of b) ≤ history_rows
unfolding in_frame
records_fit b h = rw (length-rows record_shape b.desk.counts.records b.history) (leb-true b.desk.counts.records history_rows (ands-at _ 5 h))

-- out of frame comes first
frame-first : (t u : Bool) → smallest ((2, true) ∷ (20, t) ∷ (21, u) ∷ []) ≡ 2
unfolding smallest
frame-first true true = refl
frame-first true false = refl
frame-first false true = refl
frame-first false false = refl

-- a table has a row for each record, if there are no more than a history can have
abbrev pub Enough : Book → ℕ → Type 0
Enough b rows = length (history_of b) ≤ history_rows → length (history_of b) ≤ rows

pub enough : (b : Book) (rows : ℕ) → history_rows ≤ rows → Enough b rows
enough b rows l h = omega arith

-- no such table is too small for a book in frame
no_table_small : (b : Book) (rows : ℕ) → in_frame b ≡ true → Enough b rows → ltb rows (length (history_of b)) ≡ false
no_table_small b rows h l = le-ltb rows (length (history_of b)) (l (records_fit b h))

module _ (b : Book) (work out : List Lot) (n : Nonce) (w : Enough b (length work)) (o : Enough b (length out)) where
  -- the two give the same number
  pub trace-number : reply_number b (Call.Trace n) ≡ trace_number b work out n
  unfolding reply_number trace_number frame_test refusals fulls trace_refusals view told_refusal
  trace-number = go (in_frame b) refl (history_in_frame (history_of b))
    where
      small : ℕ → ℕ → Bool
      small p q = ltb p (length (history_of b)) || ltb q (length (history_of b))

      missing : Bool
      missing = leb (withdrawals (history_of b)) n.0

      go : (t : Bool) → in_frame b ≡ t → (u : Bool)
          → smallest ((2, not t || not u) ∷ (20, small history_rows history_rows) ∷ (21, missing) ∷ [])
          ≡ smallest ((2, not t || not u) ∷ (20, small (length work) (length out)) ∷ (21, missing) ∷ [])
      go true e u = rw (no_table_small b history_rows e (enough b history_rows (omega arith)), no_table_small b (length work) e w, no_table_small b (length out) e o)
      go false e u = frame-first (small history_rows history_rows) missing ∙ sym (frame-first (small (length work) (length out)) missing)

  -- so the reply is the same
  pub trace-reply : (answer b (Call.Trace n)).reply ≡ (trace_answer b work out n).reply
  unfolding answer trace_answer done_answer pieces_of view
  trace-reply = rw trace-number

  -- and the first rows of the pieces' table, as many as there are pieces, are the pieces; where the reply is a refusal there are none
  pub trace-pieces : take (length (answer b (Call.Trace n)).pieces) (trace_answer b work out n).pieces ≡ (answer b (Call.Trace n)).pieces
  unfolding answer trace_answer pieces_of view
  trace-pieces = rw (← trace-number) (go (reply_number b (Call.Trace n)))
    where
      ps : List Lot
      ps = pieces (history_of b) n

      go : (k : ℕ) → take (length (if_done k ps [])) (if_done k (in_front ps out) out) ≡ if_done k ps []
      go zero = take-append_seam ps (drop (length ps) out)
      go (suc k) = refl

  -- where the trace is done, all that it leaves: zeros in every row of the work table, the pieces in front of theirs, the rest as it was
  pub trace-lent : Accepted b (Call.Trace n)
      → trace_answer b work out n
      ≡ record { reply = (answer b (Call.Trace n)).reply; work = replicate (length work) no_lot; pieces = in_front (answer b (Call.Trace n)).pieces out }
  unfolding answer trace_answer done_answer pieces_of view
  trace-lent a = rw (← trace-number, accepted-number b (Call.Trace n) a)
