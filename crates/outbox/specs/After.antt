-- The desk after a withdrawal, a send and a settlement: what the rules do to its lists, and the counts of the tables' rows after it.
use Rattle.std.specs.Prelude.{◌+◌, ◌-◌, ◌≤◌, ◌<◌, ◌≡◌, true}
use Rattle.rules.specs.declared.desk.Desk.{Desk}
use Rattle.rules.specs.declared.rows.Payment.{Payment}
use Rattle.rules.specs.declared.calls.WithdrawalFields.{WithdrawalFields}
use Rattle.rules.specs.Limits.{ceiling}
use Rattle.rules.specs.Lists.{all}
use Rattle.rules.specs.Frame.{up_to_ceiling}
use Rattle.rules.specs.Effects.{balance, debit, raised}
use Rattle.rules.specs.Facts.{Within}
use Rattle.desk.specs.Kept.{desk_with, with_next, with_rows}

unfoldable pub withdrawn_desk : Desk → WithdrawalFields → Desk
withdrawn_desk d w =
    desk_with (debit d.balances w.member w.asset w.amount) d.holders d.lifetime d.settled
    (with_next (with_rows d.counts d.counts.unclaimed (d.counts.payments + 1) d.counts.inflight (d.counts.records + 1)) (record { 0 = d.counts.next.0 + 1 }))

abbrev pub sent_desk : Desk → Desk
sent_desk d =
    desk_with d.balances d.holders d.lifetime d.settled
    (with_rows d.counts d.counts.unclaimed d.counts.payments (d.counts.inflight + 1) d.counts.records)

unfoldable pub settled_desk : Desk → Payment → Desk
settled_desk d p =
    desk_with d.balances d.holders d.lifetime (raised d.settled p.asset p.amount)
    (with_rows d.counts d.counts.unclaimed (d.counts.payments - 1) (d.counts.inflight - 1) d.counts.records)

-- what makes a withdrawal safe to do: it was not refused
pub record CanWithdraw (d : Desk) (w : WithdrawalFields) : Type 0 where
  pub member : Within 1 16 w.member
  pub asset : Within 1 8 w.asset
  pub enough : w.amount ≤ balance d.balances w.member w.asset
  pub next : d.counts.next.0 ≤ 1024
  pub payments : d.counts.payments < 32
  pub records : d.counts.records < 1024

-- what makes a settlement of this payment safe to do
pub record CanSettle (d : Desk) (p : Payment) : Type 0 where
  pub asset : Within 1 8 p.asset
  pub amount : p.amount ≤ ceiling
  pub settled : all up_to_ceiling d.settled ≡ true
  pub payments : d.counts.payments ≤ 32
  pub inflight : d.counts.inflight ≤ d.counts.payments
  pub some : 1 ≤ d.counts.inflight
