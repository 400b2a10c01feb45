-- "Where several of a call's refusals apply, the smallest number is given": of any table, and so of every call's.
use Prim.Native.Nat.{ℕ, zero, suc, min, ◌≤◌}
use mathlib.Core.Path.{◌≡◌, refl}
use mathlib.Core.Logic.{◌≢◌}
use mathlib.Core.Bool.{Bool, true, false, ◌&&◌, ◌||◌, cond, false≢true, or-true}
use mathlib.Core.List.{List, [], ◌∷◌, map}
use native.Mathlib.Omega.{arith}
use lib.Dec.{leb, eqb}
use borrow.Author.Tests.{leb-true, leb-false, le-leb, eq-eqb}
use Rattle.promises.specs.Types.{Call}
use Rattle.rules.specs.Lists.{all, any, those}
use Rattle.rules.specs.State.{Book}
use Rattle.rules.specs.Replies.{smaller, smallest}
use Rattle.rules.specs.Answer.{asked, reply_number}
use Rattle.rules.proofs.Accepts.{table-numbered}
use Rattle.rules.proofs.Digits.{all_imply}
use Rattle.rules.proofs.Tests.{both, both_of, numbered}
use Rattle.promises.specs.Demand1.{is_one_of, applying}

-- the numbers of a table whose tests hold
abbrev holding : List (ℕ × Bool) → List ℕ
holding rs = map (λ (r : ℕ × Bool). r.0) (those (λ (r : ℕ × Bool). r.1) rs)

-- the number is from 1 on, and not above any of these
abbrev is_least : ℕ → List ℕ → Bool
is_least x ns = all (λ n. leb 1 x && leb x n) ns

-- a smaller number from 1 on is not above them either
lower : (x y : ℕ) (ns : List ℕ) → 1 ≤ x → x ≤ y → is_least y ns ≡ true → is_least x ns ≡ true
lower x y ns h l = all_imply (λ n. leb 1 y && leb y n) (λ n. leb 1 x && leb x n) (λ n e. one n (both (leb 1 y) (leb y n) e).1) ns
  where
    one : (n : ℕ) → leb y n ≡ true → leb 1 x && leb x n ≡ true
    one n e = rw (le-leb 1 x h, le-leb x n (omega (arith, leb-true y n e)))

-- and so with one more that it is not above
with-one : (x n : ℕ) (ns : List ℕ) → 1 ≤ x → x ≤ n → is_least x ns ≡ true → is_least x (n ∷ ns) ≡ true
unfolding all
with-one x n ns h l e = both_of (leb 1 x && leb x n) (is_least x ns) (both_of (leb 1 x) (leb x n) (le-leb 1 x h) (le-leb x n l)) e

-- the smallest number of a table is not above any whose test holds
smallest_least : (rs : List (ℕ × Bool)) → numbered rs ≡ true → is_least (smallest rs) (holding rs) ≡ true
unfolding all those smallest
smallest_least [] h = refl
smallest_least (r ∷ rs) h =
    let (p, q) = both (leb 1 r.0) (numbered rs) h in
    go r.1 (smallest rs) (leb-true 1 r.0 p) (smallest_least rs q)
  where
    go : (t : Bool) (x : ℕ) → 1 ≤ r.0 → is_least x (holding rs) ≡ true
        → is_least (cond t (smaller r.0 x) x) (map (λ (s : ℕ × Bool). s.0) (cond t (r ∷ those (λ (s : ℕ × Bool). s.1) rs) (those (λ (s : ℕ × Bool). s.1) rs))) ≡ true
    go true zero l i =
        with-one r.0 r.0 (holding rs) l (omega arith)
        (all_imply (λ n. leb 1 0 && leb 0 n) (λ n. leb 1 r.0 && leb r.0 n) (λ n e. absurd (false≢true e)) (holding rs) i)
    go true (suc y) l i =
        with-one (min r.0 (suc y)) r.0 (holding rs) (omega arith) (omega arith) (lower (min r.0 (suc y)) (suc y) (holding rs) (omega arith) (omega arith) i)
    go false x l i = i

-- and where it is not 0 it is one of them
smallest-holds : (rs : List (ℕ × Bool)) → smallest rs ≢ 0 → is_one_of (smallest rs) (holding rs) ≡ true
unfolding any those smallest
smallest-holds [] h = absurd (h refl)
smallest-holds (r ∷ rs) h = go r.1 (smallest rs) h (smallest-holds rs)
  where
    first : (x : ℕ) → x ≡ r.0 → eqb x r.0 || is_one_of x (holding rs) ≡ true
    first x e = rw (eq-eqb x r.0 e)

    go : (t : Bool) (x : ℕ) → cond t (smaller r.0 x) x ≢ 0 → (x ≢ 0 → is_one_of x (holding rs) ≡ true)
        → is_one_of (cond t (smaller r.0 x) x) (map (λ (s : ℕ × Bool). s.0) (cond t (r ∷ those (λ (s : ℕ × Bool). s.1) rs) (those (λ (s : ℕ × Bool). s.1) rs))) ≡ true
    go true zero d i = first r.0 refl
    go true (suc y) d i = split (leb r.0 (suc y)) refl
      where
        split : (t : Bool) → leb r.0 (suc y) ≡ t → eqb (min r.0 (suc y)) r.0 || is_one_of (min r.0 (suc y)) (holding rs) ≡ true
        split true e = first (min r.0 (suc y)) (omega (arith, leb-true r.0 (suc y) e))
        split false e =
            let m : min r.0 (suc y) ≡ suc y = omega (arith, leb-false r.0 (suc y) e) in
            rw (m, i (omega arith)) (or-true (eqb (suc y) r.0))
    go false x d i = i d

-- so the number that a call gets
pub number-applies : (b : Book) (c : Call) → reply_number b c ≢ 0 → is_one_of (reply_number b c) (applying b c) ≡ true
unfolding reply_number
number-applies b c h = smallest-holds (asked b c) h

-- is the smallest
pub number-smallest : (b : Book) (c : Call) → all (λ n. leb 1 (reply_number b c) && leb (reply_number b c) n) (applying b c) ≡ true
unfolding reply_number
number-smallest b c = smallest_least (asked b c) (table-numbered b c)
