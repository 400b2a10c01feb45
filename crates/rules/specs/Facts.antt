-- What an accepted call rests on, in plain numbers: one record of facts for each call, read off its table of refusals; and room in the tables, read off its table of full replies.
use Rattle.std.specs.Prelude.{ℕ, ◌+◌, ◌≤◌, ◌<◌, ◌≡◌, ◌≢◌, true, List, length}
use Rattle.rules.specs.Types.{Nonce, Deposit, ClaimFields, TransferFields, WithdrawalFields, GrantFields, SignFields, Call}
use Rattle.rules.specs.Limits.{ceiling, inbox_rows, outbox_rows, history_rows, member_count, asset_count, domain_count, highest_number}
use Rattle.rules.specs.Lists.{any}
use Rattle.rules.specs.State.{State, Book, payments}
use Rattle.rules.specs.Effects.{balance, holder, matches, total, oldest}
use Rattle.rules.specs.History.{withdrawals, history_in_frame}
use Rattle.rules.specs.Answer.{answer}

-- a call that the book accepts: it is answered 0 Done
pub record Accepted (b : Book) (c : Call) : Type 0 where
  pub done : (answer b c).reply.number ≡ 0

-- a number that lies within its limits
pub record Within (lo hi x : ℕ) : Type 0 where
  pub low : lo ≤ x
  pub high : x ≤ hi

pub record DepositFit (s : State) (d : Deposit) : Type 0 where
  pub member : Within 1 member_count d.member
  pub asset : Within 1 asset_count d.asset
  pub amount : Within 1 ceiling d.amount
  pub next : d.number.0 ≡ s.outside.last.0 + 1
  pub numbered : d.number.0 ≤ highest_number
  pub below : total s.outside.lifetime d.asset + d.amount ≤ ceiling

pub record ClaimFit (s : State) (c : ClaimFields) : Type 0 where
  pub member : Within 1 member_count c.member
  pub asset : Within 1 asset_count c.asset
  pub amount : Within 1 ceiling c.amount
  pub found : any (matches c) s.inbox ≡ true

pub record TransferFit (s : State) (t : TransferFields) : Type 0 where
  pub from : Within 1 member_count t.from
  pub to : Within 1 member_count t.to
  pub asset : Within 1 asset_count t.asset
  pub amount : Within 1 ceiling t.amount
  pub others : t.from ≢ t.to
  pub enough : t.amount ≤ balance s.balances t.from t.asset

pub record WithdrawalFit (s : State) (w : WithdrawalFields) : Type 0 where
  pub member : Within 1 member_count w.member
  pub asset : Within 1 asset_count w.asset
  pub amount : Within 1 ceiling w.amount
  pub payee : Within 1 65_535 w.payee
  pub enough : w.amount ≤ balance s.balances w.member w.asset

pub record SendFit (s : State) : Type 0 where
  pub some : 1 ≤ length s.outside.waiting

pub record SettleFit (s : State) (n : Nonce) : Type 0 where
  pub some : 1 ≤ length s.outside.inflight
  pub due : (oldest s.outside.inflight).nonce.0 ≡ n.0

pub record GrantFit (s : State) (g : GrantFields) : Type 0 where
  pub from : Within 1 member_count g.from
  pub to : Within 1 member_count g.to
  pub domain : Within 1 domain_count g.domain
  pub others : g.from ≢ g.to
  pub holds : holder s.holders g.domain ≡ g.from

pub record SignFit (s : State) (g : SignFields) : Type 0 where
  pub member : Within 1 member_count g.member
  pub domain : Within 1 domain_count g.domain
  pub holds : holder s.holders g.domain ≡ g.member

pub record TraceFit (s : State) (n : Nonce) : Type 0 where
  pub replays : history_in_frame s.history ≡ true
  pub paid : n.0 < withdrawals s.history

-- the facts of each call
abbrev pub Fit : State → Call → Type 0
Fit s (Call.Deposit d) = DepositFit s d
Fit s (Call.Claim c) = ClaimFit s c
Fit s (Call.Transfer t) = TransferFit s t
Fit s (Call.Withdraw w) = WithdrawalFit s w
Fit s Call.Send = SendFit s
Fit s (Call.Settle n) = SettleFit s n
Fit s (Call.Grant g) = GrantFit s g
Fit s (Call.Sign g) = SignFit s g
Fit s (Call.Trace n) = TraceFit s n

-- a table with a row for one more
pub record RoomIn {A : Type 0} (rows : ℕ) (used : List A) : Type 0 where
  pub room : length used < rows

-- no row is asked for
pub record Roomless : Type 0 where

-- the tables that a call needs a row of have one
abbrev pub Room : State → Call → Type 0
Room s (Call.Deposit d) = RoomIn inbox_rows s.inbox
Room s (Call.Claim c) = RoomIn history_rows s.history
Room s (Call.Transfer t) = RoomIn history_rows s.history
Room s (Call.Withdraw w) = RoomIn outbox_rows (payments s.outside) × RoomIn history_rows s.history
Room s Call.Send = Roomless
Room s (Call.Settle n) = Roomless
Room s (Call.Grant g) = RoomIn history_rows s.history
Room s (Call.Sign g) = Roomless
Room s (Call.Trace n) = Roomless
