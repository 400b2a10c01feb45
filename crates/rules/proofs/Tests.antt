-- Tests read as facts, and lists of tests.
use Prim.Native.Nat.{ℕ, zero, suc, ◌≤◌, ◌<◌}
use mathlib.Core.Path.{◌≡◌, refl, sym}
use mathlib.Core.Logic.{◌≢◌}
use mathlib.Core.Bool.{Bool, true, false, not, ◌&&◌, ◌||◌, cond, and-eq-true_iff, false≢true}
use mathlib.Core.List.{List, [], ◌∷◌, ◌++◌}
use native.Mathlib.Omega.{arith}
use lib.Dec.{leb, eqb}
use lib.ListN.{length, get_or, set}
use borrow.Author.Tests.{leb-true, le-leb, eqb-true}
use Rattle.rules.specs.Limits.{within}
use Rattle.rules.specs.Lists.{all, ands, same}
use Rattle.rules.specs.Replies.{smaller, smallest}
use Rattle.rules.specs.Facts.{Within}

-- ---- one test
-- both of two tests hold
pub both : (a b : Bool) → a && b ≡ true → (a ≡ true) × (b ≡ true)
both a b h = (and-eq-true_iff a b).0 h

-- and the other way round
pub both_of : (a b : Bool) → a ≡ true → b ≡ true → a && b ≡ true
both_of a b p q = rw (p, q)

-- of tests that all hold the one at any place holds
pub ands-at : (ts : List Bool) (k : ℕ) → ands ts ≡ true → get_or ts k true ≡ true
unfolding ands
ands-at [] k h = refl
ands-at (t ∷ ts) zero h = (both t (ands ts) h).0
ands-at (t ∷ ts) (suc k) h = ands-at ts k (both t (ands ts) h).1

-- a refusal that does not apply: what it asks the opposite of holds
pub twice_not : (t : Bool) → not (not t) ≡ true → t ≡ true
twice_not true h = refl
twice_not false h = h

-- a test that does not hold is false
pub not-holds : (t : Bool) → not t ≡ true → t ≡ false
not-holds true h = sym h
not-holds false h = refl

-- neither of two tests holds
pub neither : (a b : Bool) → not (a || b) ≡ true → (not a ≡ true) × (not b ≡ true)
neither true b h = (h, absurd (false≢true h))
neither false b h = (refl, h)

-- a field within its limits, from its test and back
pub within_true : (lo hi x : ℕ) → within lo hi x ≡ true → Within lo hi x
within_true lo hi x h =
    let (p, q) = both (leb lo x) (leb x hi) h in
    record { low = leb-true lo x p; high = leb-true x hi q }

pub true_within : (lo hi x : ℕ) → Within lo hi x → within lo hi x ≡ true
true_within lo hi x h = rw (le-leb lo x h.low, le-leb x hi h.high)

-- ---- every element of a list passes
-- the element at any place, if what stands past the end passes too
pub all-at : {A : Type 0} (p : A → Bool) (xs : List A) (k : ℕ) (d : A) → p d ≡ true → all p xs ≡ true → p (get_or xs k d) ≡ true
unfolding all
all-at p [] k d e h = e
all-at p (x ∷ xs) zero d e h = (both (p x) (all p xs) h).0
all-at p (x ∷ xs) (suc k) d e h = all-at p xs k d e (both (p x) (all p xs) h).1

-- the last elements, whatever stands before them
pub all-last : {A : Type 0} (p : A → Bool) (xs ys : List A) → all p (xs ++ ys) ≡ true → all p ys ≡ true
unfolding all
all-last p [] ys h = h
all-last p (x ∷ xs) ys h = all-last p xs ys (both (p x) (all p (xs ++ ys)) h).1

-- a list passes if the element at every place does
pub all_of : {A : Type 0} (p : A → Bool) (d : A) (xs : List A) → ((i : ℕ) → i < length xs → p (get_or xs i d) ≡ true) → all p xs ≡ true
unfolding all
all_of p d [] h = refl
all_of p d (x ∷ xs) h = rw (h zero (omega arith)) (all_of p d xs (λ i l. h (suc i) (omega arith)))

-- one element changed to another that passes
pub all_set : {A : Type 0} (p : A → Bool) (xs : List A) (i : ℕ) (x : A) → all p xs ≡ true → p x ≡ true → all p (set xs i x) ≡ true
unfolding all
all_set p [] i x h e = refl
all_set p (y ∷ xs) zero x h e = rw e (both (p y) (all p xs) h).1
all_set p (y ∷ xs) (suc i) x h e =
    let (a, t) = both (p y) (all p xs) h in
    rw a (all_set p xs i x t e)

pub same_eq : (w f : List ℕ) → same w f ≡ true → w ≡ f
unfolding same
same_eq [] [] h = refl
same_eq [] (y ∷ f) h = absurd (false≢true h)
same_eq (x ∷ w) [] h = absurd (false≢true h)
same_eq (x ∷ w) (y ∷ f) h =
    let (a, b) = both (eqb x y) (same w f) h in
    rw (eqb-true x y a, same_eq w f b)

-- ---- a table of refusals
-- its numbers are refusals' numbers, from 1 on
abbrev pub numbered : List (ℕ × Bool) → Bool
numbered rs = all (λ r. leb 1 r.0) rs

-- no test of it holds
abbrev pub none_applies : List (ℕ × Bool) → Bool
none_applies rs = all (λ r. not r.1) rs

-- the smaller of a refusal and another number is no 0
smaller-positive : (n m : ℕ) → 1 ≤ n → smaller n m ≡ 0 → ⊥
smaller-positive n zero h e = omega arith
smaller-positive n (suc m) h e = omega arith

-- the smallest number is 0 exactly if no test holds
pub none-applies : (rs : List (ℕ × Bool)) → numbered rs ≡ true → smallest rs ≡ 0 → none_applies rs ≡ true
unfolding all smallest
none-applies [] p h = refl
none-applies (r ∷ rs) p h = go r.1 refl h (none-applies rs (both (leb 1 r.0) (numbered rs) p).1)
  where
    go : (t : Bool) → r.1 ≡ t → cond t (smaller r.0 (smallest rs)) (smallest rs) ≡ 0 → (smallest rs ≡ 0 → none_applies rs ≡ true) → none_applies (r ∷ rs) ≡ true
    go true e z ih = absurd (smaller-positive r.0 (smallest rs) (leb-true 1 r.0 (both (leb 1 r.0) (numbered rs) p).0) z)
    go false e z ih = rw e (ih z)

-- and the other way round
pub nothing-smallest : (rs : List (ℕ × Bool)) → none_applies rs ≡ true → smallest rs ≡ 0
unfolding all smallest
nothing-smallest [] h = refl
nothing-smallest (r ∷ rs) h =
    let (a, t) = both (not r.1) (none_applies rs) h in
    rw (not-holds r.1 a) (nothing-smallest rs t)

-- where none of a table's numbers is below k, neither is the smallest that applies
pub smallest-from : (k : ℕ) (rs : List (ℕ × Bool)) → all (λ r. leb k r.0) rs ≡ true → smallest rs ≢ 0 → k ≤ smallest rs
unfolding all smallest
smallest-from k [] h z = absurd (z refl)
smallest-from k (r ∷ rs) h z =
    let (a, t) = both (leb k r.0) (all (λ r. leb k r.0) rs) h in
    go r.1 (smallest rs) (leb-true k r.0 a) (smallest-from k rs t) z
  where
    go : (t : Bool) (m : ℕ) → k ≤ r.0 → (m ≢ 0 → k ≤ m) → cond t (smaller r.0 m) m ≢ 0 → k ≤ cond t (smaller r.0 m) m
    go true zero l i z = l
    go true (suc m) l i z = omega (arith, i (λ e. omega arith))
    go false m l i z = i z
