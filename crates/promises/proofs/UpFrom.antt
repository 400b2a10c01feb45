-- The numbers from a first one on: one more, how many, and the first of them.
use Prim.Native.Nat.{ℕ, zero, suc, ◌+◌, ◌-◌, ◌≤◌}
use mathlib.Core.Path.{◌≡◌, refl, ap, ◌∙◌}
use mathlib.Core.List.{List, [], ◌∷◌, ◌++◌}
use native.Mathlib.Numerals.{add-one}
use native.Mathlib.Nat.{add-zero, zero-add}
use native.Mathlib.Omega.{arith}
use lib.ListN.{length, take}
use lib.Seq.{take_at}
use Rattle.rules.specs.Sheet.{up_from}

-- ---- the numbers from a first one on
-- one more at the end
pub up_next : (first n : ℕ) → up_from first (n + 1) ≡ up_from first n ++ ((first + n) ∷ [])
unfolding up_from
up_next first n = rw (add-one n) (go first n)
  where
    go : (first n : ℕ) → up_from first (suc n) ≡ up_from first n ++ ((first + n) ∷ [])
    go first zero = rw (add-zero first)
    go first (suc n) =
        let e : first + 1 + n ≡ first + suc n = omega arith in
        rw (← e) (ap (λ (ns : List ℕ). first ∷ ns) (go (first + 1) n))

-- as many as are asked for; and the first of them
pub up-length : (first n : ℕ) → length (up_from first n) ≡ n
unfolding up_from
up-length first zero = refl
up-length first (suc n) = ap suc (up-length (first + 1) n)

-- so many and then so many more
up_split : (first n m : ℕ) → up_from first (n + m) ≡ up_from first n ++ up_from (first + n) m
unfolding up_from
up_split first zero m = rw (zero-add m, add-zero first)
up_split first (suc n) m =
    let e : suc n + m ≡ suc (n + m) = omega arith in
    let g : first + 1 + n ≡ first + suc n = omega arith in
    rw (e, ← g) (ap (λ (ns : List ℕ). first ∷ ns) (up_split (first + 1) n m))

-- the first of them
pub up_first : (first n k : ℕ) → n ≤ k → take n (up_from first k) ≡ up_from first n
up_first first n k h =
    let e : k ≡ n + (k - n) = omega arith in
    ap (λ (j : ℕ). take n (up_from first j)) e ∙ ap (take n) (up_split first n (k - n)) ∙ take_at (up_from first n) (up_from (first + n) (k - n)) n (up-length first n)
