-- Any two results of a conversion of `rules` coincide (`Coincide` of `rules`): the records that a call may be kept as, the kind of a number, and the refusal of a line.
use Rattle.rules.specs.Coincide.{Coincide}
use Rattle.rules.proofs.Coincide.{value}
use Rattle.rules.specs.contracts.calls.RecordFromClaimFields.from as claim
use Rattle.rules.specs.contracts.calls.RecordFromTransferFields.from as transfer
use Rattle.rules.specs.contracts.calls.RecordFromWithdrawalFields.from as withdrawal
use Rattle.rules.specs.contracts.calls.RecordFromGrantFields.from as grant
use Rattle.rules.specs.contracts.rows.KindTryFromU64.try_from as numbered
use Rattle.rules.specs.contracts.answers.RefusalFromFailsAt.from as told

pub claim_record_once : Coincide claim.ended (λ M 𝓤 𝓛. claim.clauses 𝓛)
claim_record_once w x g = value w

pub transfer_record_once : Coincide transfer.ended (λ M 𝓤 𝓛. transfer.clauses 𝓛)
transfer_record_once w x g = value w

pub withdrawal_record_once : Coincide withdrawal.ended (λ M 𝓤 𝓛. withdrawal.clauses 𝓛)
withdrawal_record_once w x g = value w

pub grant_record_once : Coincide grant.ended (λ M 𝓤 𝓛. grant.clauses 𝓛)
grant_record_once w x g = value w

pub numbered_kind_once : Coincide numbered.ended (λ M 𝓤 𝓛. numbered.clauses 𝓛)
numbered_kind_once w x g = value w

pub malformed_once : Coincide told.ended (λ M 𝓤 𝓛. told.clauses 𝓛)
malformed_once w x g = value w
