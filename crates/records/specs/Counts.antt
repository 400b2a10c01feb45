-- What keeps the working out of a provenance within the numbers: a history in frame.
use Rattle.std.specs.Prelude.{ℕ, ◌+◌, ◌≤◌, ◌<◌, ◌≡◌, true, List}
use Rattle.std.specs.Prelude.{Ok}
use Rattle.rules.specs.declared.rows.Record.{Record}
use Rattle.rules.specs.declared.rows.Kind.{Kind}
use Rattle.rules.specs.Limits.{history_rows}
use Rattle.rules.specs.Tables.{rows_of, record_shape}
use Rattle.rules.specs.History.{kind_of, by_first, history_in_frame}

-- so many rows of the table are a history in frame
pub record CanWork (t : List ℕ) (left : ℕ) : Type 0 where
  pub few : left ≤ history_rows
  pub framed : history_in_frame (rows_of record_shape left t) ≡ true

-- the record counts on n without passing either end of the numbers
pub record CanCount (r : Record) (m a n : ℕ) : Type 0 where
  pub room : n + r.amount < 18446744073709551616
  pub sent : kind_of r ≡ Ok Kind.Transfer → by_first m a r ≡ true → r.amount ≤ n
  pub paid : kind_of r ≡ Ok Kind.Withdrawal → by_first m a r ≡ true → r.amount ≤ n
