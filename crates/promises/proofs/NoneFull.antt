-- Replies and full tables: a reply that says of no table that it is full turns on the call's other refusals alone.
use Prim.Native.Nat.{ℕ, zero, suc, min, ◌≤◌}
use mathlib.Core.Path.{◌≡◌, refl, ◌∙◌}
use mathlib.Core.Logic.{◌≢◌}
use mathlib.Core.Bool.{Bool, true, false, not, ◌||◌, cond, false≢true}
use mathlib.Core.List.{List, [], ◌∷◌, ◌++◌, map}
use native.Mathlib.Omega.{arith}
use lib.Dec.{leb, eqb}
use borrow.Author.Tests.{leb-true, eqb-true}
use Rattle.promises.specs.Types.{Call}
use Rattle.rules.specs.Limits.{within, history_rows, outbox_rows}
use Rattle.rules.specs.Lists.{all}
use Rattle.rules.specs.State.{State, payments}
use Rattle.rules.specs.Replies.{told_refusal, smaller, smallest}
use Rattle.rules.specs.Refusals.{full, fulls}
use Rattle.rules.specs.Views.{asks, has_room}
use Rattle.rules.proofs.Tests.{both, not-holds, within_true, numbered, none_applies, nothing-smallest}
use Rattle.promises.proofs.Replies.{smallest_own, one_passes}

-- ---- one table after another
-- the smaller of two numbers, either of which may say that nothing applies
abbrev least : ℕ → ℕ → ℕ
least zero n = n
least (suc m) n = smaller (suc m) n

least_of : (n x y : ℕ) → 1 ≤ n → smaller n (least x y) ≡ least (smaller n x) y
least_of zero x y h = absurd (omega arith)
least_of (suc n) zero y h = refl
least_of (suc n) (suc x) zero h = go (min (suc n) (suc x)) (omega arith)
  where
    go : (k : ℕ) → 1 ≤ k → k ≡ least k 0
    go zero l = absurd (omega arith)
    go (suc k) l = refl
least_of (suc n) (suc x) (suc y) h = go (min (suc n) (suc x)) (omega arith) (omega arith)
  where
    go : (k : ℕ) → 1 ≤ k → min (suc n) (min (suc x) (suc y)) ≡ min k (suc y) → smaller (suc n) (min (suc x) (suc y)) ≡ least k (suc y)
    go zero l e = absurd (omega arith)
    go (suc k) l e = some (min (suc x) (suc y)) (omega arith) ∙ e
      where
        some : (j : ℕ) → 1 ≤ j → smaller (suc n) j ≡ min (suc n) j
        some zero m = absurd (omega arith)
        some (suc j) m = refl

smallest-append : (rs fs : List (ℕ × Bool)) → numbered rs ≡ true → smallest (rs ++ fs) ≡ least (smallest rs) (smallest fs)
unfolding all smallest
smallest-append [] fs h = refl
smallest-append (r ∷ rs) fs h =
    let (p, q) = both (leb 1 r.0) (numbered rs) h in
    go r.1 (leb-true 1 r.0 p) (smallest-append rs fs q)
  where
    go : (t : Bool) → 1 ≤ r.0 → smallest (rs ++ fs) ≡ least (smallest rs) (smallest fs)
        → cond t (smaller r.0 (smallest (rs ++ fs))) (smallest (rs ++ fs)) ≡ least (cond t (smaller r.0 (smallest rs)) (smallest rs)) (smallest fs)
    go true l ih = rw ih (least_of r.0 (smallest rs) (smallest fs) l)
    go false l ih = ih

-- a number that is not the second table's is the first's
pub first-given : (rs fs : List (ℕ × Bool)) → numbered rs ≡ true → (smallest fs ≢ 0 → smallest (rs ++ fs) ≢ smallest fs) → smallest (rs ++ fs) ≡ smallest rs
first-given rs fs h n = go (smallest rs) (smallest fs) (smallest-append rs fs h) n
  where
    go : (x y : ℕ) → smallest (rs ++ fs) ≡ least x y → (y ≢ 0 → smallest (rs ++ fs) ≢ y) → smallest (rs ++ fs) ≡ x
    go zero zero e k = e
    go zero (suc y) e k = absurd (k (λ z. omega arith) e)
    go (suc x) zero e k = e
    go (suc x) (suc y) e k =
        let o : smallest (rs ++ fs) ≢ suc y = k (λ z. omega arith) in
        omega arith

-- ---- the member's own calls
-- where no table is full, none is said to be
none-full : (s : State) (c : Call) → has_room s ≡ true → (m : ℕ) → asks m c ≡ true → none_applies (fulls s c) ≡ true
unfolding asks fulls all has_room
none-full s c h m a = go c a
  where
    room : (full history_rows s.history ≡ false) × (full outbox_rows (payments s.outside) ≡ false)
    room =
        let (p, q) = both (not (full history_rows s.history)) (not (full outbox_rows (payments s.outside))) h in
        (not-holds (full history_rows s.history) p, not-holds (full outbox_rows (payments s.outside)) q)

    go : (c : Call) → asks m c ≡ true → none_applies (fulls s c) ≡ true
    go (Call.Deposit d) a = absurd (false≢true a)
    go (Call.Claim c) a = rw room.0
    go (Call.Transfer t) a = rw room.0
    go (Call.Withdraw w) a = rw (room.0, room.1)
    go Call.Send a = refl
    go (Call.Settle n) a = refl
    go (Call.Grant g) a = rw room.0
    go (Call.Sign g) a = refl
    go (Call.Trace n) a = refl

pub room-smallest : (s : State) (c : Call) (m : ℕ) → asks m c ≡ true → has_room s ≡ true → smallest (fulls s c) ≡ 0
room-smallest s c m a h = nothing-smallest (fulls s c) (none-full s c h m a)

-- what says that a table is full is 16 or 17
abbrev is_full : ℕ → Bool
is_full n = eqb n 0 || within 16 17 n

fulls_are : (s : State) (c : Call) (m : ℕ) → asks m c ≡ true → all is_full (0 ∷ map (λ (r : ℕ × Bool). r.0) (fulls s c)) ≡ true
unfolding asks fulls all told_refusal
fulls_are s (Call.Deposit d) m a = absurd (false≢true a)
fulls_are s (Call.Claim c) m a = refl
fulls_are s (Call.Transfer t) m a = refl
fulls_are s (Call.Withdraw w) m a = refl
fulls_are s Call.Send m a = refl
fulls_are s (Call.Settle n) m a = refl
fulls_are s (Call.Grant g) m a = refl
fulls_are s (Call.Sign g) m a = refl
fulls_are s (Call.Trace n) m a = refl

pub full-number : (s : State) (c : Call) (m : ℕ) → asks m c ≡ true → smallest (fulls s c) ≢ 0 → (16 ≤ smallest (fulls s c)) × (smallest (fulls s c) ≤ 17)
full-number s c m a z = go (eqb (smallest (fulls s c)) 0) refl (one_passes is_full (smallest (fulls s c)) (0 ∷ map (λ (r : ℕ × Bool). r.0) (fulls s c)) (smallest_own (fulls s c)) (fulls_are s c m a))
  where
    go : (t : Bool) → eqb (smallest (fulls s c)) 0 ≡ t → t || within 16 17 (smallest (fulls s c)) ≡ true → (16 ≤ smallest (fulls s c)) × (smallest (fulls s c) ≤ 17)
    go true e h = absurd (z (eqb-true (smallest (fulls s c)) 0 e))
    go false e h = let w = within_true 16 17 (smallest (fulls s c)) h in (w.low, w.high)
