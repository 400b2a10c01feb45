-- The desk after a deposit and after a claim: what the rules do to its numbers, and the counts.
use Rattle.std.specs.Prelude.{ℕ, ◌+◌, ◌-◌, ◌≤◌, ◌<◌, ◌≡◌, Bool, true, not, ◌||◌, List, ltb, eqb}
use Rattle.rules.specs.declared.rows.Deposit.{Deposit}
use Rattle.rules.specs.declared.desk.Desk.{Desk}
use Rattle.rules.specs.declared.calls.ClaimFields.{ClaimFields}
use Rattle.rules.specs.Limits.{ceiling, highest_number}
use Rattle.rules.specs.Lists.{all}
use Rattle.rules.specs.Tables.{deposit_shape}
use Rattle.rules.specs.Frame.{up_to_ceiling}
use Rattle.rules.specs.Effects.{raised, credit}
use Rattle.rules.specs.Facts.{Within}
use Rattle.tables.specs.Rows.{place_of}
use Rattle.desk.specs.Kept.{desk_with, with_last, with_rows}

-- the asset's lifetime deposits grow, the number is the last accepted, and there is one unclaimed deposit more
unfoldable pub deposited_desk : Desk → Deposit → Desk
deposited_desk d x =
    desk_with d.balances d.holders (raised d.lifetime x.asset x.amount) d.settled
    (with_last (with_rows d.counts (d.counts.unclaimed + 1) d.counts.payments d.counts.inflight d.counts.records) x.number)

-- the balance grows, there is one unclaimed deposit fewer and one record more
unfoldable pub claimed_desk : Desk → ClaimFields → Desk
claimed_desk d c =
    desk_with (credit d.balances c.member c.asset c.amount) d.holders d.lifetime d.settled
    (with_rows d.counts (d.counts.unclaimed - 1) d.counts.payments d.counts.inflight (d.counts.records + 1))

-- the deposit that a claim looks for, and how it lies in the inbox
abbrev pub deposit_of : ClaimFields → Deposit
deposit_of c = record { number = c.number; asset = c.asset; amount = c.amount; member = c.member }

abbrev pub row_of : ClaimFields → List ℕ
row_of c = deposit_shape.flat (deposit_of c)

-- one of the first n rows is that
abbrev pub is_unclaimed : ClaimFields → ℕ → List ℕ → Bool
is_unclaimed c n inbox = not (eqb (place_of (row_of c) n inbox) n)

-- 10 Gap: above last + 1, or above 4,294,967,295
abbrev pub is_gap : ℕ → ℕ → Bool
is_gap last number = ltb (last + 1) number || ltb highest_number number

-- 11 Ceiling: the lifetime deposits would pass the ceiling
abbrev pub passes_ceiling : ℕ → ℕ → Bool
passes_ceiling lifetime amount = ltb ceiling (lifetime + amount)

-- what makes each safe to do: it was not refused
pub record CanDeposit (d : Desk) (x : Deposit) : Type 0 where
  pub asset : Within 1 8 x.asset
  pub amount : x.amount ≤ ceiling
  pub lifetime : all up_to_ceiling d.lifetime ≡ true
  pub unclaimed : d.counts.unclaimed < 64

pub record CanClaim (d : Desk) (c : ClaimFields) : Type 0 where
  pub member : Within 1 16 c.member
  pub asset : Within 1 8 c.asset
  pub amount : c.amount ≤ ceiling
  pub balances : all up_to_ceiling d.balances ≡ true
  pub unclaimed : 1 ≤ d.counts.unclaimed
  pub records : d.counts.records < 1024
