-- The ceiling on each balance and on each settled total follows from the balance sheet.
use Prim.Native.Nat.{ℕ, ◌+◌, ◌-◌, ◌*◌, ◌/◌, ◌%◌, ◌≤◌, ◌<◌}
use mathlib.Core.Path.{◌≡◌, refl}
use mathlib.Core.Bool.{Bool, true, false, cond}
use mathlib.Core.List.{List}
use native.Mathlib.Omega.{arith}
use lib.ListN.{length, get_or}
use borrow.Author.Tests.{leb-true, le-leb}
use Rattle.rules.specs.Limits.{ceiling, is_asset, member_count, asset_count}
use Rattle.rules.specs.Lists.{all}
use Rattle.rules.specs.State.{State}
use Rattle.rules.specs.Effects.{balance, total}
use Rattle.rules.specs.Frame.{up_to_ceiling}
use Rattle.rules.specs.Facts.{Within}
use Rattle.promises.specs.Started.{Lengths, Balanced}
use Rattle.rules.proofs.Tests.{true_within, all-at, all_of}
use Rattle.promises.proofs.Sums.{in_sum}

-- ---- balances and totals
-- an entry of a list below the ceiling
total-below : (ts : List ℕ) (a : ℕ) → all up_to_ceiling ts ≡ true → total ts a ≤ ceiling
unfolding total
total-below ts a h = go (is_asset a)
  where
    go : (t : Bool) → cond t (get_or ts (a - 1) 0) 0 ≤ ceiling
    go true = leb-true (get_or ts (a - 1) 0) ceiling (all-at up_to_ceiling ts (a - 1) 0 refl h)
    go false = omega arith

-- every place among the balances is some member's in some asset, and every place among the totals some asset's
place_balance : (bs : List ℕ) (i : ℕ) → i < member_count * asset_count → get_or bs i 0 ≡ balance bs (i / 8 + 1) (i % 8 + 1)
unfolding balance
place_balance bs i h =
    let m : Within 1 16 (i / 8 + 1) = record { low = omega arith; high = omega arith } in
    let a : Within 1 8 (i % 8 + 1) = record { low = omega arith; high = omega arith } in
    let e : (i / 8 + 1 - 1) * 8 + (i % 8 + 1 - 1) ≡ i = omega arith in
    rw (true_within 1 16 (i / 8 + 1) m, true_within 1 8 (i % 8 + 1) a, e)

-- and so for the totals
place_total : (ts : List ℕ) (i : ℕ) → i < asset_count → get_or ts i 0 ≡ total ts (i + 1)
unfolding total
place_total ts i h =
    let a : Within 1 8 (i + 1) = record { low = omega arith; high = omega arith } in
    let e : i + 1 - 1 ≡ i = omega arith in
    rw (true_within 1 8 (i + 1) a, e)

-- where the sheet balances, no balance and no settled total is above the lifetime total
pub balances-below : (s : State) → Lengths s → ((a : ℕ) → Balanced s a) → all up_to_ceiling s.outside.lifetime ≡ true → all up_to_ceiling s.balances ≡ true
balances-below s l sheet h = all_of up_to_ceiling 0 s.balances each
  where
    each : (i : ℕ) → i < length s.balances → up_to_ceiling (get_or s.balances i 0) ≡ true
    each i p =
        let a : ℕ = i % 8 + 1 in
        let q : i < 128 = omega (arith, l.balances) in
        le-leb (get_or s.balances i 0) ceiling
        (omega (
          arith,
          place_balance s.balances i q,
          in_sum (λ n. balance s.balances n (i % 8 + 1)) (i / 8 + 1) 1 16 (omega arith) (omega arith),
          sheet (i % 8 + 1),
          total-below s.outside.lifetime (i % 8 + 1) h,
        ))

-- and no settled total is above the ceiling
pub settled-below : (s : State) → Lengths s → ((a : ℕ) → Balanced s a) → all up_to_ceiling s.outside.lifetime ≡ true → all up_to_ceiling s.outside.settled ≡ true
settled-below s l sheet h = all_of up_to_ceiling 0 s.outside.settled each
  where
    each : (i : ℕ) → i < length s.outside.settled → up_to_ceiling (get_or s.outside.settled i 0) ≡ true
    each i p =
        le-leb (get_or s.outside.settled i 0) ceiling
        (omega (
          arith,
          place_total s.outside.settled i (omega (arith, l.settled)),
          sheet (i + 1),
          total-below s.outside.lifetime (i + 1) h,
        ))
