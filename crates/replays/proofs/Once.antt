-- Any two results that a public function's contract allows coincide (`Coincide` of `rules`); of a trace, all but the held table.
use mathlib.Core.Path.{◌≡◌}
use Rattle.rules.specs.Coincide.{Two, Coincide, AnyTwo}
use Rattle.rules.proofs.Told.{once}
use Rattle.rules.proofs.Coincide.{both, value}
use Rattle.replays.specs.contracts.payment_at as payment-at
use Rattle.replays.specs.contracts.traced as traced

pub payment_at_once : Coincide payment-at.ended (λ M 𝓤 𝓛. payment-at.clauses 𝓛)
payment_at_once w x g = value w

-- how many pieces, and every row of the work table and of the pieces'
abbrev pub OneTrace : Two traced.ended → Type 0
OneTrace x = (x.result ≡ x.result') × (x.left.1.1.1.0 ≡ x.left'.1.1.1.0) × (x.left.1.1.1.1.1.0 ≡ x.left'.1.1.1.1.1.0)

pub traced_once : AnyTwo traced.ended (λ M 𝓤 𝓛. traced.clauses 𝓛) OneTrace
traced_once w x g = both w (λ p q. (once _ p.counts q.counts, once _ p.clears q.clears, once _ p.lays q.lays))
