-- The test of a history as the code carries it out: what it carries, what makes one record safe to follow, and the test on any table and any count.
use Rattle.std.specs.Prelude.{ℕ, ◌*◌, ◌≡◌, Bool, true, ◌&&◌, List, leb}
use Rattle.rules.specs.declared.rows.Record.{Record}
use Rattle.rules.specs.Limits.{ceiling, history_rows}
use Rattle.rules.specs.Lists.{all}
use Rattle.rules.specs.Tables.{rows_of, record_shape}
use Rattle.rules.specs.History.{Standing as Replayed, fits, history_in_frame}
use Rattle.rules.specs.Facts.{Within}
use Rattle.tables.specs.Rows.{lie_within}

-- every one of these is at most so much
abbrev pub all_up_to : ℕ → List ℕ → Bool
all_up_to most xs = all (λ x. leb x most) xs

-- what 1,023 claims can have brought together: one more fits in a number
abbrev pub most_before : ℕ
most_before = 1023 * ceiling

-- a member and an asset within their limits have a balance
pub record Cell (m a : ℕ) : Type 0 where
  pub member : Within 1 16 m
  pub asset : Within 1 8 a

-- what makes it safe to go on after a record: it fits, and no balance is near the largest number
pub record CanFollow (s : Replayed) (r : Record) : Type 0 where
  pub fits : fits s r ≡ true
  pub low : all_up_to most_before s.balances ≡ true

-- the first n rows of a table are a history in frame; no more than a history can have, and no more than the table has
unfoldable pub history_frame : List ℕ → ℕ → Bool
history_frame t n = leb n history_rows && (lie_within record_shape.width n t && history_in_frame (rows_of record_shape n t))
