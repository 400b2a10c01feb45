-- "Kind numbers are 1 to 4 and nothing else."
use Rattle.std.specs.Prelude.{ℕ, cond, eqb, Result, Ok, Err}
use Rattle.rules.specs.declared.rows.Kind.{Kind}
use Rattle.rules.specs.declared.rows.BadKind.{BadKind}

-- one of the four kinds, or none
abbrev pub AnyKind : Type 0
AnyKind = Result Kind BadKind

-- the kind that has this number
unfoldable pub numbered_kind : ℕ → AnyKind
numbered_kind n =
    cond (eqb n 1) (Ok Kind.Claim)
    (cond (eqb n 2) (Ok Kind.Transfer) (cond (eqb n 3) (Ok Kind.Withdrawal) (cond (eqb n 4) (Ok Kind.Grant) (Err (record {})))))
