-- The desk after a transfer and after a grant: what the rules do to its lists, and one record more.
use Rattle.std.specs.Prelude.{◌+◌, ◌-◌, ◌≤◌, ◌<◌, ◌≡◌, true, set}
use Rattle.rules.specs.declared.desk.Desk.{Desk}
use Rattle.rules.specs.declared.desk.Counts.{Counts}
use Rattle.rules.specs.declared.calls.TransferFields.{TransferFields}
use Rattle.rules.specs.declared.calls.GrantFields.{GrantFields}
use Rattle.rules.specs.Limits.{ceiling}
use Rattle.rules.specs.Lists.{all}
use Rattle.rules.specs.Frame.{up_to_ceiling}
use Rattle.rules.specs.Effects.{balance, credit, debit}
use Rattle.rules.specs.Facts.{Within}
use Rattle.desk.specs.Kept.{desk_with, with_rows}

-- the counts with one record more
abbrev pub one_record_more : Counts → Counts
one_record_more c = with_rows c c.unclaimed c.payments c.inflight (c.records + 1)

unfoldable pub transferred_desk : Desk → TransferFields → Desk
transferred_desk d t =
    desk_with (credit (debit d.balances t.from t.asset t.amount) t.to t.asset t.amount) d.holders d.lifetime d.settled
    (one_record_more d.counts)

unfoldable pub granted_desk : Desk → GrantFields → Desk
granted_desk d g = desk_with d.balances (set d.holders (g.domain - 1) g.to) d.lifetime d.settled (one_record_more d.counts)

-- what makes a transfer safe to do: it was not refused
pub record CanTransfer (d : Desk) (t : TransferFields) : Type 0 where
  pub from : Within 1 16 t.from
  pub to : Within 1 16 t.to
  pub asset : Within 1 8 t.asset
  pub amount : t.amount ≤ ceiling
  pub enough : t.amount ≤ balance d.balances t.from t.asset
  pub balances : all up_to_ceiling d.balances ≡ true
  pub records : d.counts.records < 1024

pub record CanGrant (d : Desk) (g : GrantFields) : Type 0 where
  pub domain : Within 1 8 g.domain
  pub records : d.counts.records < 1024
