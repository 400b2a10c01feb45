-- The types that src/ declares, under one roof: the rows, the desk, the calls and the answers.
use Rattle.std.specs.Prelude.{ℕ, Result}
pub use Rattle.rules.specs.declared.rows.DepositNumber.{DepositNumber}
pub use Rattle.rules.specs.declared.rows.Nonce.{Nonce}
pub use Rattle.rules.specs.declared.rows.Deposit.{Deposit}
pub use Rattle.rules.specs.declared.rows.Payment.{Payment}
pub use Rattle.rules.specs.declared.rows.Kind.{Kind}
pub use Rattle.rules.specs.declared.rows.BadKind.{BadKind}
pub use Rattle.rules.specs.declared.rows.Record.{Record}
pub use Rattle.rules.specs.declared.rows.Lot.{Lot}
pub use Rattle.rules.specs.declared.desk.Desk.{Desk}
pub use Rattle.rules.specs.declared.desk.Counts.{Counts}
pub use Rattle.rules.specs.declared.calls.ClaimFields.{ClaimFields}
pub use Rattle.rules.specs.declared.calls.TransferFields.{TransferFields}
pub use Rattle.rules.specs.declared.calls.WithdrawalFields.{WithdrawalFields}
pub use Rattle.rules.specs.declared.calls.GrantFields.{GrantFields}
pub use Rattle.rules.specs.declared.calls.SignFields.{SignFields}
pub use Rattle.rules.specs.declared.calls.Call.{Call}
pub use Rattle.rules.specs.declared.calls.FailsAt.{FailsAt}
pub use Rattle.rules.specs.declared.answers.Refusal.{Refusal}
pub use Rattle.rules.specs.declared.answers.Done.{Done}
pub use Rattle.rules.specs.declared.answers.Tally.{Tally}

-- what an answer is: what a done call gives, or the refusal
abbrev pub Answer : Type 0
Answer = Result Done Refusal

-- what reading a line gives: one of the nine calls, or the field that does not read
abbrev pub Line : Type 0
Line = Result Call FailsAt

-- what reading a field gives: its number, or which field it is that does not read
abbrev pub Field : Type 0
Field = Result ℕ FailsAt
