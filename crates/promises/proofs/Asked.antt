-- The library's trace on lent tables, and its question for a provenance: every number is one of its own, and a refused trace leaves its tables as found.
use Rattle.std.specs.Prelude.{Ok}
use Prim.Native.Nat.{ℕ, zero, suc}
use mathlib.Core.Path.{◌≡◌, refl, sym, subst, ◌∙◌}
use mathlib.Core.Logic.{◌≢◌}
use mathlib.Core.Bool.{Bool, true, false, not, ◌||◌, false≢true}
use native.Mathlib.Omega.{arith}
use lib.ListN.{length}
use borrow.Author.Tests.{le-ltb}
use mathlib.Core.List.{List, [], ◌∷◌}
use Rattle.promises.specs.Types.{Nonce, Lot, Call}
use Rattle.rules.specs.State.{Book, view, history_of}
use Rattle.rules.specs.Replies.{Reply, told_refusal, told, told_origin, smallest, if_done}
use Rattle.rules.specs.Limits.{history_rows}
use Rattle.rules.specs.Frame.{in_frame}
use Rattle.rules.specs.History.{history_in_frame}
use Rattle.rules.specs.Refusals.{refusals, fulls, trace_refusals}
use Rattle.lots.proofs.TraceJoin.{records_fit}
use Rattle.rules.specs.Answer.{answer, reply_number, frame_test, done_answer, bad_history, reply_with, trace_number, trace_answer, provenance_number, provenance_answer}
use Rattle.promises.specs.Demand1.{is_one_of}
use Rattle.promises.specs.Promises.{LentTrace}
use Rattle.rules.proofs.Accepts.{reply-with}
use Rattle.promises.proofs.Replies.{smallest_own}

-- the number of a reply is the one that it was given with, so what is one of some numbers stays so
given : (k : ℕ) (done : Reply) (ns : List ℕ) → done.number ≡ 0 → is_one_of k ns ≡ true → is_one_of (reply_with k done).number ns ≡ true
given k done ns e h = subst (λ (j : ℕ). is_one_of j ns ≡ true) (sym (reply-with k done e)) h

-- a refusal tells nothing
no_values_lem : (k : ℕ) (done : Reply) → done.number ≡ 0 → (reply_with k done).number ≢ 0 → (reply_with k done).values ≡ []
no_values_lem zero done e h = absurd (h e)
no_values_lem (suc k) done e h = refl

-- and leaves what was found
kept : (k : ℕ) (done : Reply) → done.number ≡ 0 → (reply_with k done).number ≢ 0 → (this that : List Lot) → if_done k this that ≡ that
kept zero done e h this that = absurd (h e)
kept (suc k) done e h this that = refl

trace_own : (b : Book) (work out : List Lot) (n : Nonce) → is_one_of (trace_number b work out n) (0 ∷ 2 ∷ 20 ∷ 21 ∷ []) ≡ true
unfolding trace_number trace_refusals told_refusal
trace_own b work out n = smallest_own _

question_own : (b : Book) (m a : ℕ) → is_one_of (provenance_number b m a) (0 ∷ 2 ∷ 3 ∷ 4 ∷ []) ≡ true
unfolding provenance_number told_refusal
question_own b m a = smallest_own _

pub lent-trace : (b : Book) (work out : List Lot) (n : Nonce) → LentTrace b work out n
unfolding trace_answer told
lent-trace b work out n =
    record {
      one_of_its_own = given (trace_number b work out n) _ (0 ∷ 2 ∷ 20 ∷ 21 ∷ []) refl (trace_own b work out n);
      no_values = λ h. no_values_lem (trace_number b work out n) _ refl h;
      work_kept = λ h. kept (trace_number b work out n) _ refl h _ work;
      pieces_kept = λ h. kept (trace_number b work out n) _ refl h _ out;
    }

pub question : (b : Book) (m a : ℕ) → is_one_of (provenance_answer b m a).number (0 ∷ 2 ∷ 3 ∷ 4 ∷ []) ≡ true
unfolding provenance_answer told_origin
question b m a = given (provenance_number b m a) _ (0 ∷ 2 ∷ 3 ∷ 4 ∷ []) refl (question_own b m a)

-- ---- a call to trace is never answered 20 TableSmall: its tables have a row for every record that a book in frame can have
never_twenty : (bad small none : Bool) → (bad ≡ false → small ≡ false) → smallest ((2, bad) ∷ (20, small) ∷ (21, none) ∷ []) ≢ 20
unfolding smallest
never_twenty true true true h e = omega arith
never_twenty true true false h e = omega arith
never_twenty true false true h e = omega arith
never_twenty true false false h e = omega arith
never_twenty false true true h e = absurd (false≢true (sym (h refl)))
never_twenty false true false h e = absurd (false≢true (sym (h refl)))
never_twenty false false true h e = omega arith
never_twenty false false false h e = omega arith

framed_by : (x y : Bool) → not x || not y ≡ false → x ≡ true
framed_by true y e = refl
framed_by false y e = absurd (false≢true (sym e))

pub never_small_lem : (b : Book) (n : Nonce) → (answer b (Call.Trace n)).reply.number ≢ 20
unfolding answer reply_number frame_test refusals fulls trace_refusals told_refusal told done_answer view
never_small_lem b n e =
    never_twenty (bad_history b).1 _ _ (λ f.
    let r = records_fit b (framed_by (in_frame b) (history_in_frame (history_of b)) f) in
    rw (le-ltb history_rows (length (history_of b)) r))
    (sym (reply-with (reply_number b (Call.Trace n)) (told (Ok (done_answer (view b) (Call.Trace n)))) refl) ∙ e)
