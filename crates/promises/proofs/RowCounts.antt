-- How many rows a call leaves in each table: where it has room, no more than the table has.
use Prim.Native.Nat.{ℕ, ◌+◌, ◌≤◌}
use mathlib.Core.List.{List, [], ◌∷◌}
use native.Mathlib.Omega.{arith}
use lib.ListN.{length, length-append, length-set}
use Rattle.promises.specs.Types.{Call}
use Rattle.rules.specs.Limits.{inbox_rows, outbox_rows, history_rows}
use Rattle.rules.specs.Tables.{Edit, edited, appended}
use Rattle.rules.specs.State.{State, payments}
use Rattle.rules.specs.Effects.{effect, inbox_edit, outbox_edit, records_of}
use Rattle.rules.specs.Facts.{Fit, Room}
use Rattle.rules.proofs.Books.{payments-after, records-after}
use Rattle.promises.proofs.Lists.{length_without}

-- how many rows an edit adds
unfoldable grows : {A : Type 0} → Edit A → ℕ
grows Edit.keep = 0
grows (Edit.add a) = 1
grows (Edit.take_out i) = 0
grows (Edit.change i a) = 0

count-edited : {A : Type 0} (e : Edit A) (rows : List A) → length (edited e rows) ≤ length rows + grows e
unfolding edited grows
count-edited Edit.keep rows = omega arith
count-edited (Edit.add a) rows = rw (length-append rows (a ∷ [])) (omega arith)
count-edited (Edit.take_out i) rows = omega (arith, length_without rows i)
count-edited (Edit.change i a) rows = rw (length-set rows i a) (omega arith)

-- what each call adds to each table, it has room for
module _ (s : State) where
  inbox_grows : (c : Call) → Room s c → length s.inbox ≤ inbox_rows → length s.inbox + grows (inbox_edit c s.inbox) ≤ inbox_rows
  unfolding grows inbox_edit
  inbox_grows (Call.Deposit d) r h = omega (arith, r.room)
  inbox_grows (Call.Claim c) r h = omega arith
  inbox_grows (Call.Transfer t) r h = omega arith
  inbox_grows (Call.Withdraw w) r h = omega arith
  inbox_grows Call.Send r h = omega arith
  inbox_grows (Call.Settle n) r h = omega arith
  inbox_grows (Call.Grant g) r h = omega arith
  inbox_grows (Call.Sign g) r h = omega arith
  inbox_grows (Call.Trace n) r h = omega arith

  outbox_grows : (c : Call) → Room s c → length (payments s.outside) ≤ outbox_rows → length (payments s.outside) + grows (outbox_edit c s.outside) ≤ outbox_rows
  unfolding grows outbox_edit
  outbox_grows (Call.Deposit d) r h = omega arith
  outbox_grows (Call.Claim c) r h = omega arith
  outbox_grows (Call.Transfer t) r h = omega arith
  outbox_grows (Call.Withdraw w) r h = omega (arith, r.0.room)
  outbox_grows Call.Send r h = omega arith
  outbox_grows (Call.Settle n) r h = omega arith
  outbox_grows (Call.Grant g) r h = omega arith
  outbox_grows (Call.Sign g) r h = omega arith
  outbox_grows (Call.Trace n) r h = omega arith

  history_grows : (c : Call) → Room s c → length s.history ≤ history_rows → length s.history + grows (appended (records_of c)) ≤ history_rows
  unfolding grows appended records_of
  history_grows (Call.Deposit d) r h = omega arith
  history_grows (Call.Claim c) r h = omega (arith, r.room)
  history_grows (Call.Transfer t) r h = omega (arith, r.room)
  history_grows (Call.Withdraw w) r h = omega (arith, r.1.room)
  history_grows Call.Send r h = omega arith
  history_grows (Call.Settle n) r h = omega arith
  history_grows (Call.Grant g) r h = omega (arith, r.room)
  history_grows (Call.Sign g) r h = omega arith
  history_grows (Call.Trace n) r h = omega arith

  -- so no table has more rows used than it has
  pub inbox-few : (c : Call) → Room s c → length s.inbox ≤ inbox_rows → length (effect c s).inbox ≤ inbox_rows
  unfolding effect
  inbox-few c r h = omega (arith, count-edited (inbox_edit c s.inbox) s.inbox, inbox_grows c r h)

  pub outbox-few : (c : Call) → Fit s c → Room s c → length (payments s.outside) ≤ outbox_rows → length (payments (effect c s).outside) ≤ outbox_rows
  unfolding effect
  outbox-few c k r h = rw (payments-after s c k) (omega (arith, count-edited (outbox_edit c s.outside) (payments s.outside), outbox_grows c r h))

  pub history-few : (c : Call) → Room s c → length s.history ≤ history_rows → length (effect c s).history ≤ history_rows
  unfolding effect
  history-few c r h = rw (records-after s c) (omega (arith, count-edited (appended (records_of c)) s.history, history_grows c r h))
