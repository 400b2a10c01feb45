-- What trace answers and leaves, and the number that it gives.
use Rattle.std.specs.Prelude.{ℕ, Bool, not, List, ◌∷◌}
use Rattle.rules.specs.declared.rows.Nonce.{Nonce}
use Rattle.rules.specs.declared.rows.Lot.{Lot}
use Rattle.rules.specs.Types.{Answer}
use Rattle.rules.specs.declared.answers.Refusal.{Refusal}
use Rattle.rules.specs.State.{State, Book, view}
use Rattle.rules.specs.Replies.{told, refuse, smallest}
use Rattle.rules.specs.Refusals.{trace_refusals}
use Rattle.rules.specs.Answer.{bad_history, TraceOutcome}
use Rattle.records.specs.Test.{history_frame}

-- what trace answers and leaves of its two tables
abbrev pub trace_outcome_of : Answer → List Lot → List Lot → TraceOutcome
trace_outcome_of r work pieces = record { reply = told r; work = work; pieces = pieces }

-- the refusals of a trace of a book in frame, whose history is so many rows of a table: BadBook is said of the history alone
abbrev pub history_refusals : List ℕ → ℕ → ℕ → ℕ → State → Nonce → List (ℕ × Bool)
history_refusals history records workRows pieceRows s n = refuse Refusal.BadBook (not (history_frame history records)) ∷ trace_refusals workRows pieceRows s n

-- the number that a trace gets with tables of these many rows
unfoldable pub trace_number_for : Book → ℕ → ℕ → Nonce → ℕ
trace_number_for b workRows pieceRows n = smallest (bad_history b ∷ trace_refusals workRows pieceRows (view b) n)
