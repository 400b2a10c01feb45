-- P1 to P12, computed by the rules themselves.
use mathlib.Core.Path.{◌≡◌, refl}
use mathlib.Core.List.{map}
use Rattle.rules.specs.Cases.{cases, given}
use Rattle.rules.proofs.Compute.{compute}

pub cases-hold : map given cases ≡ map (λ c. c.expected) cases
unfolding compute
cases-hold = refl
