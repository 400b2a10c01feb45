-- Document 01, "Out of frame", every clause but the history's: each line is a clause of that paragraph, or a part of one, and says the opposite.
use Rattle.std.specs.Prelude.{ℕ, ◌+◌, ◌-◌, ◌*◌, Bool, true, ◌&&◌, List, [], ◌∷◌, leb, ltb, eqb, length}
use Rattle.rules.specs.Types.{Deposit, Payment}
use Rattle.rules.specs.Limits.{ceiling, inbox_rows, outbox_rows, history_rows, highest_number, highest_next, is_member, is_asset, is_amount, is_payee}
use Rattle.rules.specs.Lists.{all, ands}
use Rattle.rules.specs.Tables.{Shape, deposit_shape, payment_shape, record_shape}
use Rattle.rules.specs.State.{Book, view, payments}

-- a table of the right size
abbrev pub has_rows : {A : Type 0} → Shape A → ℕ → List ℕ → Bool
has_rows shape rows t = eqb (length t) (rows * shape.width)

abbrev pub up_to_ceiling : ℕ → Bool
up_to_ceiling x = leb x ceiling

abbrev pub deposit_in_limits : Deposit → Bool
deposit_in_limits d = is_member d.member && (is_asset d.asset && is_amount d.amount)

abbrev pub payment_in_limits : Payment → Bool
payment_in_limits p = is_asset p.asset && (is_amount p.amount && is_payee p.payee)

-- deposit numbers strictly rising above the one before, and at most the last accepted
unfoldable pub numbers_rise : ℕ → ℕ → List Deposit → Bool
numbers_rise before last [] = true
numbers_rise before last (d ∷ ds) = ltb before d.number.0 && (leb d.number.0 last && numbers_rise d.number.0 last ds)

-- nonces rising by 1, from the one that is due on
unfoldable pub nonces_from : ℕ → List Payment → Bool
nonces_from due [] = true
nonces_from due (p ∷ ps) = eqb p.nonce.0 due && nonces_from (due + 1) ps

-- nonces rising by 1 up to the next nonce less 1
unfoldable pub nonces_rise : ℕ → List Payment → Bool
nonces_rise next ps = leb (length ps) next && nonces_from (next - length ps) ps

-- the sizes of the tables and the counts are of the book, all else of its state
unfoldable pub in_frame : Book → Bool
in_frame b =
    ands
    (has_rows deposit_shape inbox_rows b.inbox
    ∷ has_rows payment_shape outbox_rows b.outbox
    ∷ has_rows record_shape history_rows b.history
    ∷ leb b.desk.counts.unclaimed inbox_rows
    ∷ leb b.desk.counts.payments outbox_rows
    ∷ leb b.desk.counts.records history_rows
    ∷ leb b.desk.counts.inflight b.desk.counts.payments
    ∷ all up_to_ceiling (view b).balances
    ∷ all up_to_ceiling (view b).outside.lifetime
    ∷ all up_to_ceiling (view b).outside.settled
    ∷ all deposit_in_limits (view b).inbox
    ∷ all payment_in_limits (payments (view b).outside)
    ∷ numbers_rise 0 (view b).outside.last.0 (view b).inbox
    ∷ nonces_rise (view b).outside.next.0 (payments (view b).outside)
    ∷ leb (view b).outside.last.0 highest_number
    ∷ leb (view b).outside.next.0 highest_next
    ∷ all is_member (view b).holders
    ∷ [])
