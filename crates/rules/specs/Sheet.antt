-- Document 01, "Balance sheet": its five terms for an asset, each summed from accepted calls or from rows, and the chain total.
use Rattle.std.specs.Prelude.{ℕ, zero, suc, ◌+◌, ◌-◌, cond, List, [], ◌∷◌, ◌≡◌, eqb}
use Rattle.rules.specs.Types.{Deposit, Payment, Call}
use Rattle.rules.specs.Limits.{member_count}
use Rattle.rules.specs.Lists.{sum_of}
use Rattle.rules.specs.State.{Book, view, payments}
use Rattle.rules.specs.Effects.{balance}
use Rattle.rules.specs.Runs.{run, deposits, settlements}

-- the numbers from a first one on, so many of them
unfoldable pub up_from : ℕ → ℕ → List ℕ
up_from first zero = []
up_from first (suc n) = first ∷ up_from (first + 1) n

abbrev pub deposited_in : ℕ → Deposit → ℕ
deposited_in a d = cond (eqb d.asset a) d.amount 0

abbrev pub paid_in : ℕ → Payment → ℕ
paid_in a p = cond (eqb p.asset a) p.amount 0

-- of the calls from a book on
unfoldable pub accepted_deposits : ℕ → Book → List Call → ℕ
accepted_deposits a b cs = sum_of (deposited_in a) (deposits b cs)

unfoldable pub settled_sum : ℕ → Book → List Call → ℕ
settled_sum a b cs = sum_of (paid_in a) (settlements b cs)

-- of a book
unfoldable pub unclaimed_sum : ℕ → Book → ℕ
unclaimed_sum a b = sum_of (deposited_in a) (view b).inbox

unfoldable pub balances_sum : ℕ → Book → ℕ
balances_sum a b = sum_of (λ m. balance (view b).balances m a) (up_from 1 member_count)

unfoldable pub outbox_sum : ℕ → Book → ℕ
outbox_sum a b = sum_of (paid_in a) (payments (view b).outside)

-- "accepted deposits = unclaimed + balances + outbox + settled", after the calls from an empty book on
unfoldable pub BalanceSheet : ℕ → Book → List Call → Type 0
BalanceSheet a b cs =
    accepted_deposits a b cs ≡ unclaimed_sum a (run b cs) + balances_sum a (run b cs) + outbox_sum a (run b cs) + settled_sum a b cs

-- "Chain total = accepted deposits less settled."
unfoldable pub chain_total : ℕ → Book → List Call → ℕ
chain_total a b cs = accepted_deposits a b cs - settled_sum a b cs
