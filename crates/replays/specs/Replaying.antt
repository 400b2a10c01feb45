-- What the replay of one record and of those before a payment rest on and come to, and the pieces handed out.
use Rattle.std.specs.Prelude.{ℕ, ◌≤◌, ◌<◌, ◌≡◌, List, [], length, take, replicate}
use Rattle.rules.specs.declared.rows.Record.{Record}
use Rattle.rules.specs.declared.rows.Lot.{Lot}
use Rattle.rules.specs.Tables.{rows_of, record_shape}
use Rattle.rules.specs.History.{withdrawals}
use Rattle.rules.specs.Lots.{no_lot, lots_after, replay, trace_from}
use Rattle.rules.specs.Answer.{in_front}

-- ---- one record
-- there is a row for one lot more, and the held table has one for each that a taking can take
pub record CanReplay (used : ℕ) (work held : List Lot) : Type 0 where
  pub few : used < 1024
  pub room : used < length work
  pub scratch : used ≤ length held

-- the lots are what the rules make of those in the used rows, and so many
pub record Replays (r : Record) (used : ℕ) (work : List Lot) (n : ℕ) (left : List Lot) : Type 0 where
  pub lots : take n left ≡ lots_after (take used work) r
  pub count : n ≡ length (lots_after (take used work) r)

-- ---- the records before a payment, and what it takes
-- so many records can be replayed: each table has a row for a lot of each
pub record CanReplayAll (at : ℕ) (work held : List Lot) : Type 0 where
  pub few : at ≤ 1024
  pub room : at ≤ length work
  pub scratch : at ≤ length held

-- the lots after them, and how many
pub record ReplaysAll (at : ℕ) (history : List ℕ) (n : ℕ) (work : List Lot) : Type 0 where
  pub lots : take n work ≡ replay [] (rows_of record_shape at history)
  pub count : n ≡ length (replay [] (rows_of record_shape at history))

-- payment n can be traced: it is there, and every table has a row for each record
pub record CanTrace (history : List ℕ) (records n : ℕ) (work held pieces : List Lot) : Type 0 where
  pub few : records ≤ 1024
  pub room : records ≤ length work
  pub places : records ≤ length pieces
  pub scratch : records ≤ length held
  pub paid : n < withdrawals (rows_of record_shape records history)

-- the piece count, the work table all zeros, and the pieces in front of theirs
pub record Traces (history : List ℕ) (records n : ℕ) (work pieces : List Lot) (count : ℕ) (cleared laid : List Lot) : Type 0 where
  pub counts : count ≡ length (trace_from [] n (rows_of record_shape records history))
  pub clears : cleared ≡ replicate (length work) no_lot
  pub lays : laid ≡ in_front (trace_from [] n (rows_of record_shape records history)) pieces
