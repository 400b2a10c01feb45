-- What the definitions of a history say of a record of each kind: an arm of a match on the kind knows the kind.
use Rattle.std.specs.Prelude.{Ok, Err}
use Prim.Native.Nat.{ℕ, ◌+◌, ◌-◌}
use mathlib.Core.Path.{◌≡◌}
use mathlib.Core.Bool.{false, ◌&&◌, cond}
use lib.Dec.{eqb}
use Rattle.rules.specs.declared.rows.Record.{Record}
use Rattle.rules.specs.declared.rows.Kind.{Kind}
use Rattle.rules.specs.declared.rows.BadKind.{BadKind}
use Rattle.rules.specs.Limits.{is_member, is_asset, is_domain, is_amount, is_payee, is_deposit_number}
use Rattle.rules.specs.Effects.{holder}
use Rattle.desk.specs.Parts.{of_eight}
use Rattle.rules.specs.History.{kind_of, by_first, by_second, counted_as, counted, Standing as Replayed, fits_as, fits, enough, differ}

module _ (s : Replayed) (r : Record) where
  pub fits_claim : kind_of r ≡ (Ok Kind.Claim) → fits s r ≡ (is_asset r.asset && (is_amount r.amount && (is_member r.first && is_deposit_number r.second)))
  unfolding fits_as
  fits_claim e = rw e

  pub fits_transfer : kind_of r ≡ (Ok Kind.Transfer)
      → fits s r ≡ (is_asset r.asset && (is_amount r.amount && (is_member r.first && (is_member r.second && (differ r && enough s r)))))
  unfolding fits_as
  fits_transfer e = rw e

  pub fits_withdrawal : kind_of r ≡ (Ok Kind.Withdrawal)
      → fits s r ≡ (is_asset r.asset && (is_amount r.amount && (is_member r.first && (is_payee r.second && enough s r))))
  unfolding fits_as
  fits_withdrawal e = rw e

  pub fits_grant : kind_of r ≡ (Ok Kind.Grant)
      → fits s r ≡ (is_domain r.asset && (eqb r.amount 1 && (is_member r.first && (is_member r.second && (differ r && eqb (of_eight s.holders r.asset) r.first)))))
  unfolding fits_as holder
  fits_grant e = rw e

  pub fits_none : (why : BadKind) → kind_of r ≡ (Err why) → fits s r ≡ false
  unfolding fits_as
  fits_none why e = rw e

module _ (m a : ℕ) (r : Record) (n : ℕ) where
  pub counted_claim : kind_of r ≡ (Ok Kind.Claim) → counted m a r n ≡ cond (by_first m a r) (n + r.amount) n
  unfolding counted_as
  counted_claim e = rw e

  pub counted_transfer : kind_of r ≡ (Ok Kind.Transfer) → counted m a r n ≡ cond (by_second m a r) (n + r.amount) (cond (by_first m a r) (n - r.amount) n)
  unfolding counted_as
  counted_transfer e = rw e

  pub counted_withdrawal : kind_of r ≡ (Ok Kind.Withdrawal) → counted m a r n ≡ cond (by_first m a r) (n - r.amount) n
  unfolding counted_as
  counted_withdrawal e = rw e

  pub counted_grant : kind_of r ≡ (Ok Kind.Grant) → counted m a r n ≡ n
  unfolding counted_as
  counted_grant e = rw e

  pub counted_none : (why : BadKind) → kind_of r ≡ (Err why) → counted m a r n ≡ n
  unfolding counted_as
  counted_none why e = rw e

-- for the functions that match on a kind, every kind of each
pub ruleset fits_by_kind = (fits_claim, fits_transfer, fits_withdrawal, fits_grant, fits_none)

pub ruleset counted_by_kind = (counted_claim, counted_transfer, counted_withdrawal, counted_grant, counted_none)
