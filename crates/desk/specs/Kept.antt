-- A list of the desk with one number kept anew, where there is such a number. A desk of its lists and its counts, and the counts with some kept anew and all else as it was.
use Rattle.std.specs.Prelude.{ℕ, ◌-◌, ◌&&◌, cond, List, set}
use Rattle.rules.specs.declared.desk.Desk.{Desk}
use Rattle.rules.specs.declared.desk.Counts.{Counts}
use Rattle.rules.specs.declared.rows.DepositNumber.{DepositNumber}
use Rattle.rules.specs.declared.rows.Nonce.{Nonce}
use Rattle.rules.specs.Limits.{within, is_member, is_asset}
use Rattle.rules.specs.Effects.{cell}

-- of eight numbers the one for number i set
abbrev pub eight_set : List ℕ → ℕ → ℕ → List ℕ
eight_set xs i x = cond (within 1 8 i) (set xs (i - 1) x) xs

-- of the balances a member's in an asset set
abbrev pub balance_set : List ℕ → ℕ → ℕ → ℕ → List ℕ
balance_set xs m a x = cond (is_member m && is_asset a) (set xs (cell m a) x) xs

-- a desk of four lists and counts
abbrev pub desk_with : List ℕ → List ℕ → List ℕ → List ℕ → Counts → Desk
desk_with balances holders lifetime settled counts = record { balances = balances; holders = holders; lifetime = lifetime; settled = settled; counts = counts }

-- the counts with another last number, with another next nonce, and with these counts of used rows: unclaimed deposits, payments, those in flight, records
abbrev pub with_last : Counts → DepositNumber → Counts
with_last c last = record { last = last; next = c.next; unclaimed = c.unclaimed; payments = c.payments; inflight = c.inflight; records = c.records }

abbrev pub with_next : Counts → Nonce → Counts
with_next c next = record { last = c.last; next = next; unclaimed = c.unclaimed; payments = c.payments; inflight = c.inflight; records = c.records }

abbrev pub with_rows : Counts → ℕ → ℕ → ℕ → ℕ → Counts
with_rows c unclaimed payments inflight records = record { last = c.last; next = c.next; unclaimed = unclaimed; payments = payments; inflight = inflight; records = records }
