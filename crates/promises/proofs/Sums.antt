-- Sums over lists: of one element, without one element, and of all members' balances.
use Prim.Native.Nat.{ℕ, zero, suc, ◌+◌, ◌-◌, ◌*◌, ◌≤◌, ◌<◌}
use mathlib.Core.Path.{◌≡◌, refl, sym, ap, ◌∙◌}
use mathlib.Core.Logic.{◌≢◌}
use mathlib.Core.Bool.{Bool, true, false, ◌&&◌, ◌||◌, cond, false≢true}
use mathlib.Core.List.{List, [], ◌∷◌, ◌++◌}
use native.Mathlib.Omega.{arith}
use lib.Dec.{eqb}
use lib.ListN.{length, get_or, take, drop, take-append-drop}
use lib.Seq.{drop-cons}
use borrow.Author.Tests.{eqb-true, eqb-false, ne_eqb}
use Rattle.rules.specs.Limits.{member_count, asset_count}
use Rattle.rules.specs.Lists.{any, index_of, sum_of}
use Rattle.rules.specs.Effects.{balance, credit, debit}
use Rattle.rules.specs.Sheet.{up_from}
use Rattle.rules.specs.Facts.{Within}
use Rattle.rules.proofs.Tests.{both, true_within}
use Rattle.lots.proofs.ListLaws.{sum-append}
use Rattle.lots.proofs.BalanceLaws.{balance-credit, balance-debit}

module _ {A : Type 0} where
  -- of one element
  pub sum_one : (f : A → ℕ) (x : A) → sum_of f (x ∷ []) ≡ f x
  unfolding sum_of
  sum_one f x = omega arith

  -- a number that is two others for each element sums to their sums
  pub sum_parts : (h f g : A → ℕ) → ((x : A) → h x ≡ f x + g x) → (xs : List A) → sum_of h xs ≡ sum_of f xs + sum_of g xs
  unfolding sum_of
  sum_parts h f g e [] = refl
  sum_parts h f g e (x ∷ xs) = rw (sum_parts h f g e xs, e x) (omega arith)

  -- the element at a place, and the rest without it
  pub sum_without : (f : A → ℕ) (xs : List A) (i : ℕ) (d : A) → i < length xs → sum_of f xs ≡ sum_of f (take i xs ++ drop (suc i) xs) + f (get_or xs i d)
  unfolding sum_of
  sum_without f xs i d h =
      let e : sum_of f (take i xs ++ drop i xs) ≡ sum_of f (take i xs) + (f (get_or xs i d) + sum_of f (drop (suc i) xs)) =
      sum-append f (take i xs) (drop i xs) ∙ rw (drop-cons xs i d h) in
      let g : sum_of f (take i xs ++ drop (suc i) xs) ≡ sum_of f (take i xs) + sum_of f (drop (suc i) xs) = sum-append f (take i xs) (drop (suc i) xs) in
      let k : sum_of f (take i xs ++ drop i xs) ≡ sum_of f xs = ap (sum_of f) (take-append-drop i xs) in
      omega arith

  -- an element that passes is found: the place where it stands is in the list, and what stands there passes
  pub found_in : (p : A → Bool) (xs : List A) → any p xs ≡ true → index_of p xs < length xs
  unfolding any index_of
  found_in p [] h = absurd (false≢true h)
  found_in p (x ∷ xs) h = go (p x) h (found_in p xs)
    where
      go : (t : Bool) → t || any p xs ≡ true → (any p xs ≡ true → index_of p xs < length xs) → cond t 0 (suc (index_of p xs)) < suc (length xs)
      go true i ih = omega arith
      go false i ih = omega (arith, ih i)

  -- what stands there passes
  pub found-passes : (p : A → Bool) (xs : List A) (d : A) → any p xs ≡ true → p (get_or xs (index_of p xs) d) ≡ true
  unfolding any index_of
  found-passes p [] d h = absurd (false≢true h)
  found-passes p (x ∷ xs) d h = go (p x) refl h (found-passes p xs d)
    where
      go : (t : Bool) → p x ≡ t → t || any p xs ≡ true → (any p xs ≡ true → p (get_or xs (index_of p xs) d) ≡ true) → p (get_or (x ∷ xs) (cond t 0 (suc (index_of p xs))) d) ≡ true
      go true e i ih = e
      go false e i ih = ih i

-- ---- the members' balances
-- a number that only member m has sums to 0 over members after m
none_below : (m first n x : ℕ) (t : Bool) → m < first → sum_of (λ k. cond (eqb m k && t) x 0) (up_from first n) ≡ 0
unfolding sum_of up_from
none_below m first zero x t h = refl
none_below m first (suc n) x t h = rw (ne_eqb m first (λ e. omega arith), none_below m (first + 1) n x t (omega arith))

-- and to that number over members among whom m is
one-member : (m first n x : ℕ) (t : Bool) → first ≤ m → m < first + n → sum_of (λ k. cond (eqb m k && t) x 0) (up_from first n) ≡ cond t x 0
unfolding sum_of up_from
one-member m first zero x t l h = absurd (omega arith)
one-member m first (suc n) x t l h = go (eqb m first) refl (λ d. one-member m (first + 1) n x t (omega arith) (omega arith))
  where
    rest : ℕ
    rest = sum_of (λ k. cond (eqb m k && t) x 0) (up_from (first + 1) n)

    go : (u : Bool) → eqb m first ≡ u → (m ≢ first → rest ≡ cond t x 0) → cond (u && t) x 0 + rest ≡ cond t x 0
    go true e ih =
        let p : m ≡ first = eqb-true m first e in
        let z : rest ≡ 0 = none_below m (first + 1) n x t (omega arith) in
        omega arith
    go false e ih = omega (arith, ih (eqb-false m first e))

-- all members' balances in an asset
abbrev pub all_of : ℕ → List ℕ → ℕ
all_of b bs = sum_of (λ n. balance bs n b) (up_from 1 member_count)

module _ (bs : List ℕ) (m a x : ℕ) (size : length bs ≡ member_count * asset_count) (hm : Within 1 member_count m) (ha : Within 1 asset_count a) where
  -- a credit adds its amount to the sum of its asset
  pub sum-credit : (b : ℕ) → all_of b (credit bs m a x) ≡ all_of b bs + cond (eqb a b) x 0
  sum-credit b =
      sum_parts (λ n. balance (credit bs m a x) n b) (λ n. balance bs n b) (λ n. cond (eqb m n && eqb a b) x 0) each (up_from 1 16)
      ∙ ap (λ (r : ℕ). all_of b bs + r) (one-member m 1 16 x (eqb a b) (omega arith) (omega arith))
    where
      go : (t : Bool) (v : ℕ) → cond t (v + x) v ≡ v + cond t x 0
      go true v = refl
      go false v = omega arith

      each : (n : ℕ) → balance (credit bs m a x) n b ≡ balance bs n b + cond (eqb m n && eqb a b) x 0
      each n = balance-credit bs m a x n b size (true_within 1 16 m hm) (true_within 1 8 a ha) ∙ go (eqb m n && eqb a b) (balance bs n b)

  -- a debit takes its amount from the sum of its asset
  pub sum-debit : x ≤ balance bs m a → (b : ℕ) → all_of b bs ≡ all_of b (debit bs m a x) + cond (eqb a b) x 0
  sum-debit enough b =
      sum_parts (λ n. balance bs n b) (λ n. balance (debit bs m a x) n b) (λ n. cond (eqb m n && eqb a b) x 0) each (up_from 1 16)
      ∙ ap (λ (r : ℕ). all_of b (debit bs m a x) + r) (one-member m 1 16 x (eqb a b) (omega arith) (omega arith))
    where
      go : (n : ℕ) (t : Bool) → eqb m n && eqb a b ≡ t → balance bs n b ≡ cond t (balance bs n b - x) (balance bs n b) + cond t x 0
      go n true e =
          let (p, q) = both (eqb m n) (eqb a b) e in
          let l : x ≤ balance bs n b = rw (← eqb-true m n p, ← eqb-true a b q) enough in
          omega arith
      go n false e = omega arith

      each : (n : ℕ) → balance bs n b ≡ balance (debit bs m a x) n b + cond (eqb m n && eqb a b) x 0
      each n = go n (eqb m n && eqb a b) refl ∙ ap (λ (v : ℕ). v + cond (eqb m n && eqb a b) x 0) (sym (balance-debit bs m a x n b size (true_within 1 16 m hm) (true_within 1 8 a ha)))

-- one member's balance is at most all members'
pub in_sum : (f : ℕ → ℕ) (m first n : ℕ) → first ≤ m → m < first + n → f m ≤ sum_of f (up_from first n)
unfolding sum_of up_from
in_sum f m first zero l h = absurd (omega arith)
in_sum f m first (suc n) l h = go (eqb m first) refl (λ d. in_sum f m (first + 1) n (omega arith) (omega arith))
  where
    go : (u : Bool) → eqb m first ≡ u → (m ≢ first → f m ≤ sum_of f (up_from (first + 1) n)) → f m ≤ f first + sum_of f (up_from (first + 1) n)
    go true e ih = rw (eqb-true m first e) (omega arith)
    go false e ih = omega (arith, ih (eqb-false m first e))
