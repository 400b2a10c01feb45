-- What a started book answers: never 2 BadBook; and what it keeps, by its history.
use Rattle.std.specs.Prelude.{Ok}
use Prim.Native.Nat.{ℕ}
use mathlib.Core.Path.{◌≡◌, refl, sym}
use mathlib.Core.Logic.{◌≢◌}
use mathlib.Core.Bool.{Bool, true, false, not}
use mathlib.Core.List.{List, [], ◌∷◌, map}
use lib.Dec.{eqb}
use lib.ListN.{length}
use borrow.Author.Tests.{eqb-false}
use Rattle.promises.specs.Types.{Call, Done}
use Rattle.rules.specs.Lists.{all}
use Rattle.rules.specs.State.{State, Book, view, history_of}
use Rattle.rules.specs.Limits.{member_count, asset_count}
use Rattle.rules.specs.Replies.{told_origin, told_refusal, told, smallest}
use Rattle.rules.specs.Refusals.{table, refusals, fulls, trace_refusals, bad_member, bad_asset}
use Rattle.rules.specs.Effects.{balance}
use Rattle.rules.specs.Frame.{in_frame}
use Rattle.rules.specs.History.{history_in_frame, provenance_of}
use Rattle.rules.specs.Lots.{pieces}
use Rattle.rules.specs.Answer.{bad_history, frame_test, reply_number, trace_number, trace_answer, provenance_number, provenance_answer}
use Rattle.rules.specs.Facts.{Within}
use Rattle.rules.proofs.Tests.{true_within, not-holds, none_applies, nothing-smallest}
use Rattle.promises.specs.Promises.{InFrame, ByHistory}
use Rattle.promises.proofs.Replies.{smallest_own, one_passes}
use Rattle.rules.proofs.Accepts.{reply-with, reply-number}
use Rattle.promises.proofs.Grants.{granted}
use Rattle.promises.proofs.History.{provenanced}
use Rattle.promises.specs.Started.{Started}

-- ---- the frame
-- no call's own table has the number 2
no_two : (s : State) (c : Call) → all (λ n. not (eqb n 2)) (0 ∷ map (λ (r : ℕ × Bool). r.0) (table s c)) ≡ true
unfolding all refusals fulls trace_refusals told_refusal
no_two s (Call.Deposit d) = refl
no_two s (Call.Claim c) = refl
no_two s (Call.Transfer t) = refl
no_two s (Call.Withdraw w) = refl
no_two s Call.Send = refl
no_two s (Call.Settle n) = refl
no_two s (Call.Grant g) = refl
no_two s (Call.Sign g) = refl
no_two s (Call.Trace n) = refl

-- in frame, the frame's test does not apply
frame-passes : (b : Book) (c : Call) → in_frame b ≡ true → history_in_frame (history_of b) ≡ true → (frame_test b c).1 ≡ false
unfolding frame_test
frame-passes b (Call.Deposit d) f h = rw f
frame-passes b (Call.Claim c) f h = rw f
frame-passes b (Call.Transfer t) f h = rw f
frame-passes b (Call.Withdraw w) f h = rw f
frame-passes b Call.Send f h = rw f
frame-passes b (Call.Settle n) f h = rw f
frame-passes b (Call.Grant g) f h = rw f
frame-passes b (Call.Sign g) f h = rw f
frame-passes b (Call.Trace n) f h = rw (f, h)

-- a table that has no 2 but for a test that does not apply gives no 2
never_two : (t : ℕ × Bool) (rs : List (ℕ × Bool)) → t.1 ≡ false → all (λ n. not (eqb n 2)) (0 ∷ map (λ (r : ℕ × Bool). r.0) rs) ≡ true → smallest (t ∷ rs) ≢ 2
unfolding smallest
never_two t rs e h =
    rw e
    (eqb-false (smallest rs) 2 (not-holds (eqb (smallest rs) 2) (one_passes (λ n. not (eqb n 2)) (smallest rs) (0 ∷ map (λ (r : ℕ × Bool). r.0) rs) (smallest_own rs) h)))

-- the history of a started book passes its test
history-passes : (b : Book) → Started b → history_in_frame (history_of b) ≡ true
unfolding view
history-passes b r = r.agreed.replayed.passes

-- a started book is in frame and never answers 2
pub in_frame_lem : (b : Book) → Started b → InFrame b
unfolding reply_number trace_answer trace_number provenance_answer provenance_number trace_refusals told told_origin told_refusal all
in_frame_lem b r =
    let h : history_in_frame (history_of b) ≡ true = history-passes b r in
    let tested : (bad_history b).1 ≡ false = rw (r.frame, h) in
    record {
      book = r.frame;
      history = r.agreed.replayed.passes;
      no_bad_call = λ c. rw (reply-number b c) (never_two (frame_test b c) (table (view b) c) (frame-passes b c r.frame h) (no_two (view b) c));
      no_bad_trace = λ work out n.
          rw (reply-with (trace_number b work out n) (told (Ok (Done.Traced (length (pieces (history_of b) n))))) refl)
          (never_two (bad_history b) (trace_refusals (length work) (length out) (view b) n) tested refl);
      no_bad_question = λ m a.
          rw (reply-with (provenance_number b m a) (told_origin (Ok (provenance_of m a (history_of b)))) refl) (never_two (bad_history b) (bad_member m ∷ bad_asset a ∷ []) tested refl);
    }

-- the question for a provenance is answered with the balance
asked : (b : Book) → Started b → (m a : ℕ) → Within 1 member_count m → Within 1 asset_count a
    → provenance_answer b m a ≡ record { number = 0; values = balance b.desk.balances m a ∷ [] }
unfolding provenance_answer told_origin
asked b r m a hm ha = rw (done, provenance_is)
  where
    none : none_applies (bad_history b ∷ bad_member m ∷ bad_asset a ∷ []) ≡ true
    none = unfold all in rw (r.frame, history-passes b r, true_within 1 16 m hm, true_within 1 8 a ha)

    done : provenance_number b m a ≡ 0
    done = unfold provenance_number in nothing-smallest (bad_history b ∷ bad_member m ∷ bad_asset a ∷ []) none

    provenance_is : provenance_of m a (history_of b) ≡ balance b.desk.balances m a
    provenance_is = unfold view in sym (provenanced (view b) r.agreed.replayed m a)

-- what a started book keeps is what its history says
pub by_history_lem : (b : Book) → Started b → ByHistory b
unfolding view
by_history_lem b r = record { balances = provenanced (view b) r.agreed.replayed; asked = asked b r; holders = granted (view b) r.agreed.replayed; next = r.agreed.counts }
