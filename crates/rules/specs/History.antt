-- Document 01 on the history: what a record does by its kind, provenance, the statement, and the test of a history that was not kept by us.
use Rattle.std.specs.Prelude.{ℕ, zero, suc, ◌+◌, ◌-◌, Bool, true, false, not, ◌&&◌, ◌||◌, cond, List, [], ◌∷◌, Ok, Err, leb, eqb, length, get_or, set}
use Rattle.rules.specs.Types.{Record, Kind}
use Rattle.rules.specs.Kinds.{AnyKind, numbered_kind}
use Rattle.rules.specs.Limits.{is_member, is_asset, is_domain, is_amount, is_payee, is_deposit_number}
use Rattle.rules.specs.Lists.{those}
use Rattle.rules.specs.Tables.{no_record}
use Rattle.rules.specs.State.{first_holders, empty_state}
use Rattle.rules.specs.Effects.{balance, credit, debit, holder}

abbrev pub kind_of : Record → AnyKind
kind_of r = numbered_kind r.kind

-- ---- provenance
-- it is of this asset, and the member stands first, or second
abbrev pub by_first : ℕ → ℕ → Record → Bool
by_first m a r = eqb r.first m && eqb r.asset a

abbrev pub by_second : ℕ → ℕ → Record → Bool
by_second m a r = eqb r.second m && eqb r.asset a

-- "claims plus transfers in, less transfers out and withdrawals": what a record of this kind makes of the sum so far
unfoldable pub counted_as : AnyKind → ℕ → ℕ → Record → ℕ → ℕ
counted_as (Ok Kind.Claim) m a r n = cond (by_first m a r) (n + r.amount) n
counted_as (Ok Kind.Transfer) m a r n = cond (by_second m a r) (n + r.amount) (cond (by_first m a r) (n - r.amount) n)
counted_as (Ok Kind.Withdrawal) m a r n = cond (by_first m a r) (n - r.amount) n
counted_as (Ok Kind.Grant) m a r n = n
counted_as (Err e) m a r n = n

abbrev pub counted : ℕ → ℕ → Record → ℕ → ℕ
counted m a r n = counted_as (kind_of r) m a r n

-- "going back through the history, one record fewer each time": of the first n records
unfoldable pub provenance : ℕ → ℕ → ℕ → List Record → ℕ
provenance m a zero h = 0
provenance m a (suc n) h = counted m a (get_or h n no_record) (provenance m a n h)

abbrev pub provenance_of : ℕ → ℕ → List Record → ℕ
provenance_of m a h = provenance m a (length h) h

-- ---- statement
-- the record names the member: "A payee or deposit number never counts as naming a member."
unfoldable pub names_as : AnyKind → ℕ → Record → Bool
names_as (Ok Kind.Claim) m r = eqb r.first m
names_as (Ok Kind.Transfer) m r = eqb r.first m || eqb r.second m
names_as (Ok Kind.Withdrawal) m r = eqb r.first m
names_as (Ok Kind.Grant) m r = eqb r.first m || eqb r.second m
names_as (Err e) m r = false

abbrev pub names : ℕ → Record → Bool
names m r = names_as (kind_of r) m r

-- "the history records of kinds 1 to 4 that name the member, in order"
unfoldable pub statement : ℕ → List Record → List Record
statement m h = those (names m) h

-- ---- payments
abbrev pub is_withdrawal : Record → Bool
is_withdrawal r = eqb r.kind 3

-- how many withdrawals there are
unfoldable pub withdrawals : List Record → ℕ
withdrawals h = length (those is_withdrawal h)

-- ---- the test
-- what the replay carries from record to record: balances and holders
pub record Standing : Type 0 where
  pub balances : List ℕ
  pub holders : List ℕ

-- it starts from the balances of an empty book, and from these holders
unfoldable pub standing_from : List ℕ → Standing
standing_from holders = record { balances = empty_state.balances; holders = holders }

unfoldable pub standing_as : AnyKind → Standing → Record → Standing
standing_as (Ok Kind.Claim) s r = record { balances = credit s.balances r.first r.asset r.amount; holders = s.holders }
standing_as (Ok Kind.Transfer) s r =
    record { balances = credit (debit s.balances r.first r.asset r.amount) r.second r.asset r.amount; holders = s.holders }
standing_as (Ok Kind.Withdrawal) s r = record { balances = debit s.balances r.first r.asset r.amount; holders = s.holders }
standing_as (Ok Kind.Grant) s r = record { balances = s.balances; holders = set s.holders (r.asset - 1) r.second }
standing_as (Err e) s r = s

abbrev pub standing_after : Standing → Record → Standing
standing_after s r = standing_as (kind_of r) s r

-- the sender has not less than the amount
abbrev pub enough : Standing → Record → Bool
enough s r = leb r.amount (balance s.balances r.first r.asset)

-- equal members in a transfer or grant
abbrev pub differ : Record → Bool
differ r = not (eqb r.first r.second)

-- no field outside its limit, no equal members, a sender with the amount or the domain; a bad kind never fits
unfoldable pub fits_as : AnyKind → Standing → Record → Bool
fits_as (Ok Kind.Claim) s r = is_asset r.asset && (is_amount r.amount && (is_member r.first && is_deposit_number r.second))
fits_as (Ok Kind.Transfer) s r =
    is_asset r.asset && (is_amount r.amount && (is_member r.first && (is_member r.second && (differ r && enough s r))))
fits_as (Ok Kind.Withdrawal) s r = is_asset r.asset && (is_amount r.amount && (is_member r.first && (is_payee r.second && enough s r)))
fits_as (Ok Kind.Grant) s r =
    is_domain r.asset
    && (eqb r.amount 1 && (is_member r.first && (is_member r.second && (differ r && eqb (holder s.holders r.asset) r.first))))
fits_as (Err e) s r = false

abbrev pub fits : Standing → Record → Bool
fits s r = fits_as (kind_of r) s r

-- "The whole used history is tested", each record at its point of the replay
unfoldable pub replays : Standing → List Record → Bool
replays s [] = true
replays s (r ∷ rs) = fits s r && replays (standing_after s r) rs

-- from these holders on
abbrev pub passes_from : List ℕ → List Record → Bool
passes_from holders h = replays (standing_from holders) h

abbrev pub history_in_frame : List Record → Bool
history_in_frame h = passes_from first_holders h
