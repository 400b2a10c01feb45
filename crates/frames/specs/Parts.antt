-- The frame test in the parts that the code tests together: the inbox with its count, the outbox with its count, and the desk's own numbers.
use Rattle.std.specs.Prelude.{ℕ, ◌*◌, Bool, ◌&&◌, List, leb, eqb}
use Rattle.rules.specs.declared.desk.Counts.{Counts}
use Rattle.rules.specs.Limits.{inbox_rows, outbox_rows, history_rows, highest_number, highest_next, is_member}
use Rattle.rules.specs.Lists.{all}
use Rattle.rules.specs.Tables.{rows_of, deposit_shape, payment_shape, record_shape}
use Rattle.rules.specs.Frame.{has_rows, up_to_ceiling, deposit_in_limits, payment_in_limits, numbers_rise, nonces_rise}

unfoldable pub inbox_frame : List ℕ → ℕ → ℕ → Bool
inbox_frame t n last =
    has_rows deposit_shape inbox_rows t
    && (leb n inbox_rows && (all deposit_in_limits (rows_of deposit_shape n t) && numbers_rise 0 last (rows_of deposit_shape n t)))

unfoldable pub outbox_frame : List ℕ → ℕ → ℕ → Bool
outbox_frame t n next =
    has_rows payment_shape outbox_rows t
    && (leb n outbox_rows && (all payment_in_limits (rows_of payment_shape n t) && nonces_rise next (rows_of payment_shape n t)))

-- the desk's lists: balances and totals up to the ceiling, and holders that are members
unfoldable pub lists_frame : List ℕ → List ℕ → List ℕ → List ℕ → Bool
lists_frame balances holders lifetime settled =
    all up_to_ceiling balances && (all up_to_ceiling lifetime && (all up_to_ceiling settled && all is_member holders))

-- the counts and the counters, with how many numbers the history's table has
unfoldable pub counts_frame : Counts → ℕ → Bool
counts_frame c size =
    eqb size (history_rows * record_shape.width)
    && (leb c.records history_rows && (leb c.inflight c.payments && (leb c.last.0 highest_number && leb c.next.0 highest_next)))
