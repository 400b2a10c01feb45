-- What every call answers and leaves, on every book: out of frame comes first, a refusal leaves everything as found, and what is done is laid back into the tables.
use Rattle.std.specs.Prelude.{Ok, ℕ, Bool, not, ◌||◌, List, [], ◌∷◌, ◌++◌, length, drop, replicate}
use Rattle.rules.specs.Types.{Nonce, Lot, Refusal, Call, Done, Answer, Desk}
use Rattle.rules.specs.State.{State, Book, view, laid, history_of}
use Rattle.rules.specs.Replies.{Reply, told, told_origin, refuse, smallest, if_done, plain}
use Rattle.rules.specs.Refusals.{table, trace_refusals, bad_member, bad_asset}
use Rattle.rules.specs.Effects.{effect, oldest}
use Rattle.rules.specs.Frame.{in_frame}
use Rattle.rules.specs.History.{history_in_frame, provenance_of}
use Rattle.rules.specs.Lots.{no_lot, pieces}

-- 2 BadBook: the book is out of frame; "for provenance and trace also" its history
abbrev pub bad_book : Book → ℕ × Bool
bad_book b = refuse Refusal.BadBook (not (in_frame b))

abbrev pub bad_history : Book → ℕ × Bool
bad_history b = refuse Refusal.BadBook (not (in_frame b) || not (history_in_frame (history_of b)))

unfoldable pub frame_test : Book → Call → ℕ × Bool
frame_test b (Call.Deposit d) = bad_book b
frame_test b (Call.Claim c) = bad_book b
frame_test b (Call.Transfer t) = bad_book b
frame_test b (Call.Withdraw w) = bad_book b
frame_test b Call.Send = bad_book b
frame_test b (Call.Settle n) = bad_book b
frame_test b (Call.Grant g) = bad_book b
frame_test b (Call.Sign g) = bad_book b
frame_test b (Call.Trace n) = bad_history b

-- the refusals that a call can get, each with whether it applies
abbrev pub asked : Book → Call → List (ℕ × Bool)
asked b c = frame_test b c ∷ table (view b) c

-- the number that a call gets
unfoldable pub reply_number : Book → Call → ℕ
reply_number b c = smallest (asked b c)

-- the book that a done call leaves: its effect, laid back into the tables
abbrev pub done : Call → Book → Book
done c b = laid (effect c (view b)) b

-- a reply with this number: what a done call tells, or the number alone
abbrev pub reply_with : ℕ → Reply → Reply
reply_with n done = if_done n done (plain n)

-- the pieces that a done call hands out: a trace's, and no other's
unfoldable pub pieces_of : State → Call → List Lot
pieces_of s (Call.Deposit d) = []
pieces_of s (Call.Claim c) = []
pieces_of s (Call.Transfer t) = []
pieces_of s (Call.Withdraw w) = []
pieces_of s Call.Send = []
pieces_of s (Call.Settle n) = []
pieces_of s (Call.Grant g) = []
pieces_of s (Call.Sign g) = []
pieces_of s (Call.Trace n) = pieces s.history n

-- what a done call gives: a send the payment, a trace the piece count
unfoldable pub done_answer : State → Call → Done
done_answer s (Call.Deposit d) = Done.Plain
done_answer s (Call.Claim c) = Done.Plain
done_answer s (Call.Transfer t) = Done.Plain
done_answer s (Call.Withdraw w) = Done.Plain
done_answer s Call.Send = Done.Sent (oldest s.outside.waiting)
done_answer s (Call.Settle n) = Done.Plain
done_answer s (Call.Grant g) = Done.Plain
done_answer s (Call.Sign g) = Done.Plain
done_answer s (Call.Trace n) = Done.Traced (length (pieces_of s (Call.Trace n)))

-- what a call gives, and the book as it leaves it
pub record Outcome : Type 0 where
  pub reply : Reply
  pub pieces : List Lot
  pub book : Book

-- a desk with three tables as a book, and what a call answers with the book as it leaves it as an outcome
abbrev pub book_of : Desk → List ℕ → List ℕ → List ℕ → Book
book_of d inbox outbox history = record { desk = d; inbox = inbox; outbox = outbox; history = history }

abbrev pub outcome_of : Answer → Book → Outcome
outcome_of a b = record { reply = told a; pieces = []; book = b }

unfoldable pub answer : Book → Call → Outcome
answer b c =
    record {
      reply = reply_with (reply_number b c) (told (Ok (done_answer (view b) c)));
      pieces = if_done (reply_number b c) (pieces_of (view b) c) [];
      book = if_done (reply_number b c) (done c b) b;
    }

-- ---- trace, lent its two tables: the pieces fill the first rows of theirs, "the rest keep what they had, and every row of the work table ends as zeros"
pub record TraceOutcome : Type 0 where
  pub reply : Reply
  pub work : List Lot
  pub pieces : List Lot

-- rows in front of a table, in place of its own first ones
abbrev pub in_front : List Lot → List Lot → List Lot
in_front ps out = ps ++ drop (length ps) out

unfoldable pub trace_number : Book → List Lot → List Lot → Nonce → ℕ
trace_number b work out n = smallest (bad_history b ∷ trace_refusals (length work) (length out) (view b) n)

unfoldable pub trace_answer : Book → List Lot → List Lot → Nonce → TraceOutcome
trace_answer b work out n =
    record {
      reply = reply_with (trace_number b work out n) (told (Ok (Done.Traced (length (pieces (history_of b) n)))));
      work = if_done (trace_number b work out n) (replicate (length work) no_lot) work;
      pieces = if_done (trace_number b work out n) (in_front (pieces (history_of b) n) out) out;
    }

-- ---- provenance, a library question: replies 0 with the number, 2, 3, 4
unfoldable pub provenance_number : Book → ℕ → ℕ → ℕ
provenance_number b m a = smallest (bad_history b ∷ bad_member m ∷ bad_asset a ∷ [])

unfoldable pub provenance_answer : Book → ℕ → ℕ → Reply
provenance_answer b m a = reply_with (provenance_number b m a) (told_origin (Ok (provenance_of m a (history_of b))))
