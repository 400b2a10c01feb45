-- The declared types of the rules, under one roof.
pub use Rattle.rules.specs.declared.rows.DepositNumber.{DepositNumber}
pub use Rattle.rules.specs.declared.rows.Nonce.{Nonce}
pub use Rattle.rules.specs.declared.rows.Deposit.{Deposit}
pub use Rattle.rules.specs.declared.rows.Payment.{Payment}
pub use Rattle.rules.specs.declared.rows.Kind.{Kind}
pub use Rattle.rules.specs.declared.rows.BadKind.{BadKind}
pub use Rattle.rules.specs.declared.rows.Record.{Record}
pub use Rattle.rules.specs.declared.rows.Lot.{Lot}
pub use Rattle.rules.specs.declared.desk.Desk.{Desk}
pub use Rattle.rules.specs.declared.calls.ClaimFields.{ClaimFields}
pub use Rattle.rules.specs.declared.calls.TransferFields.{TransferFields}
pub use Rattle.rules.specs.declared.calls.WithdrawalFields.{WithdrawalFields}
pub use Rattle.rules.specs.declared.calls.GrantFields.{GrantFields}
pub use Rattle.rules.specs.declared.calls.SignFields.{SignFields}
pub use Rattle.rules.specs.declared.calls.Call.{Call}
pub use Rattle.rules.specs.declared.calls.FailsAt.{FailsAt}
pub use Rattle.rules.specs.declared.answers.Refusal.{Refusal}
pub use Rattle.rules.specs.declared.answers.Done.{Done}
pub use Rattle.rules.specs.declared.answers.Tally.{Tally}
-- an answer, a line and a field are results over these
pub use Rattle.rules.specs.Types.{Answer, Line, Field}
