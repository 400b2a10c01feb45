-- What a desk keeps under a number.
use Rattle.std.specs.Prelude.{ℕ, ◌-◌, cond, List, get_or}
use Rattle.rules.specs.Limits.{within}

-- of eight numbers the one for asset or domain i; outside 1 to 8 there is none, so 0
abbrev pub of_eight : List ℕ → ℕ → ℕ
of_eight xs i = cond (within 1 8 i) (get_or xs (i - 1) 0) 0
