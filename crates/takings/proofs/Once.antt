-- Any two results that a public function's contract allows coincide (`Coincide` of `rules`); of a taking, as far as its contract says them.
use mathlib.Core.Path.{◌≡◌}
use lib.ListN.{take}
use Rattle.rules.specs.Coincide.{Two, Coincide, AnyTwo}
use Rattle.rules.proofs.Told.{once}
use Rattle.rules.proofs.Coincide.{both, value, first}
use Rattle.takings.specs.contracts.rows.lot_at as lot-at
use Rattle.takings.specs.contracts.rows.append as append
use Rattle.takings.specs.contracts.rows.clear as clear
use Rattle.takings.specs.contracts.work.take_from as take-from
use Rattle.takings.specs.contracts.work.join as join

-- ---- a lent table of lots
pub lot_at_once : Coincide lot-at.ended (λ M 𝓤 𝓛. lot-at.clauses 𝓛)
lot_at_once w x g = value w

pub append_once : Coincide append.ended (λ M 𝓤 𝓛. append.clauses 𝓛)
append_once w x g = first w

pub clear_once : Coincide clear.ended (λ M 𝓤 𝓛. clear.clauses 𝓛)
clear_once w x g = first w

-- ---- a taking, and pieces that join the end
-- how many lots stay and how many were taken, and each of them: in the work table, and in the held one
abbrev pub OneTaking : Two take-from.ended → Type 0
OneTaking x =
    let r = x.result in
    let r' = x.result' in
    (r.kept ≡ r'.kept) × (r.taken ≡ r'.taken) × (take r.kept x.left.0 ≡ take r'.kept x.left'.0) × (take r.taken x.left.1.1.0 ≡ take r'.taken x.left'.1.1.0)

pub take_from_once : AnyTwo take-from.ended (λ M 𝓤 𝓛. take-from.clauses 𝓛) OneTaking
take_from_once w x g = both w (λ p q. (once _ p.kept q.kept, once _ p.taken q.taken, once _ p.stay q.stay, once _ p.wait q.wait))

pub join_once : Coincide join.ended (λ M 𝓤 𝓛. join.clauses 𝓛)
join_once w x g = first w
