-- Any two results that a public function's contract allows coincide (`Coincide` of `rules`).
use Rattle.rules.specs.Coincide.{Coincide}
use Rattle.rules.proofs.Coincide.{value, first}
use Rattle.desk.specs.contracts.answers.refuse as refuse
use Rattle.desk.specs.contracts.fields.is_within as is_within
use Rattle.desk.specs.contracts.fields.is_member as is_member
use Rattle.desk.specs.contracts.fields.is_asset as is-asset
use Rattle.desk.specs.contracts.fields.is_domain as is-domain
use Rattle.desk.specs.contracts.fields.is_amount as is-amount
use Rattle.desk.specs.contracts.fields.is_payee as is-payee
use Rattle.desk.specs.contracts.fields.balance_of as balance-of
use Rattle.desk.specs.contracts.fields.of_eight as of-eight
use Rattle.desk.specs.contracts.keep.set_balance as set-balance
use Rattle.desk.specs.contracts.keep.set_of_eight as set-of-eight

pub refuse_once : Coincide refuse.ended (λ M 𝓤 𝓛. refuse.clauses 𝓛)
refuse_once w x g = value w

pub is_within_once : Coincide is_within.ended (λ M 𝓤 𝓛. is_within.clauses 𝓛)
is_within_once w x g = value w

pub is_member_once : Coincide is_member.ended (λ M 𝓤 𝓛. is_member.clauses 𝓛)
is_member_once w x g = value w

pub is_asset_once : Coincide is-asset.ended (λ M 𝓤 𝓛. is-asset.clauses 𝓛)
is_asset_once w x g = value w

pub is_domain_once : Coincide is-domain.ended (λ M 𝓤 𝓛. is-domain.clauses 𝓛)
is_domain_once w x g = value w

pub is_amount_once : Coincide is-amount.ended (λ M 𝓤 𝓛. is-amount.clauses 𝓛)
is_amount_once w x g = value w

pub is_payee_once : Coincide is-payee.ended (λ M 𝓤 𝓛. is-payee.clauses 𝓛)
is_payee_once w x g = value w

pub balance_of_once : Coincide balance-of.ended (λ M 𝓤 𝓛. balance-of.clauses 𝓛)
balance_of_once w x g = value w

pub of_eight_once : Coincide of-eight.ended (λ M 𝓤 𝓛. of-eight.clauses 𝓛)
of_eight_once w x g = value w

pub set_balance_once : Coincide set-balance.ended (λ M 𝓤 𝓛. set-balance.clauses 𝓛)
set_balance_once w x g = first w

pub set_of_eight_once : Coincide set-of-eight.ended (λ M 𝓤 𝓛. set-of-eight.clauses 𝓛)
set_of_eight_once w x g = first w
