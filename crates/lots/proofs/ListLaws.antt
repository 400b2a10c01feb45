-- Laws of the plain words about lists, for lists of anything.
use Prim.Native.Nat.{ℕ, suc, ◌+◌, ◌≤◌}
use mathlib.Core.Path.{◌≡◌, refl, ap}
use mathlib.Core.Bool.{Bool, true, false, not, ◌||◌, cond, or_assoc, and-eq-true_iff}
use mathlib.Core.List.{List, [], ◌∷◌, ◌++◌, map}
use native.Mathlib.Omega.{arith}
use lib.ListN.{length}
use borrow.Author.Tests.{not-true}
use Rattle.rules.specs.Lists.{all, any, those, sum_of}

module _ {A : Type 0} where
  -- those of two lists, one after the other, are those of each
  pub those-append : (p : A → Bool) (xs ys : List A) → those p (xs ++ ys) ≡ those p xs ++ those p ys
  unfolding those
  those-append p [] ys = refl
  those-append p (x ∷ xs) ys = go (p x) (those-append p xs ys)
    where
      go : (t : Bool) → those p (xs ++ ys) ≡ those p xs ++ those p ys
          → cond t (x ∷ those p (xs ++ ys)) (those p (xs ++ ys)) ≡ cond t (x ∷ those p xs) (those p xs) ++ those p ys
      go true ih = ap (λ (r : List A). x ∷ r) ih
      go false ih = ih

  -- there are no more of them than there are elements
  pub length-those : (p : A → Bool) (xs : List A) → length (those p xs) ≤ length xs
  unfolding those
  length-those p [] = omega arith
  length-those p (x ∷ xs) = go (p x) (length-those p xs)
    where
      go : (t : Bool) → length (those p xs) ≤ length xs → length (cond t (x ∷ those p xs) (those p xs)) ≤ suc (length xs)
      go true ih = omega arith
      go false ih = omega arith

  -- the sum over two lists, one after the other, is the two sums together
  pub sum-append : (f : A → ℕ) (xs ys : List A) → sum_of f (xs ++ ys) ≡ sum_of f xs + sum_of f ys
  unfolding sum_of
  sum-append f [] ys = omega arith
  sum-append f (x ∷ xs) ys = omega (arith, sum-append f xs ys)

  -- a change of each element that keeps its number keeps the sum
  pub sum-map : (f : A → ℕ) (g : A → A) → ((x : A) → f (g x) ≡ f x) → (xs : List A) → sum_of f (map g xs) ≡ sum_of f xs
  unfolding sum_of
  sum-map f g e [] = refl
  sum-map f g e (x ∷ xs) = rw (e x, sum-map f g e xs)

  -- some element of two lists, one after the other, passes where some element of either does
  pub any_append : (p : A → Bool) (xs ys : List A) → any p (xs ++ ys) ≡ any p xs || any p ys
  unfolding any
  any_append p [] ys = refl
  any_append p (x ∷ xs) ys = rw (any_append p xs ys, or_assoc)

  -- where every element passes one test, and passing it makes the changed element pass another, every changed element passes that
  pub all_map : (p q : A → Bool) (g : A → A) → ((x : A) → p x ≡ true → q (g x) ≡ true) → (xs : List A) → all p xs ≡ true → all q (map g xs) ≡ true
  unfolding all
  all_map p q g e [] h = refl
  all_map p q g e (x ∷ xs) h =
      let (a, b) = (and-eq-true_iff (p x) (all p xs)).0 h in
      rw (e x a) (all_map p q g e xs b)

  -- where every element passes, those that pass are all
  pub those-all : (p : A → Bool) (xs : List A) → all p xs ≡ true → those p xs ≡ xs
  unfolding all those
  those-all p [] h = refl
  those-all p (x ∷ xs) h =
      let (a, b) = (and-eq-true_iff (p x) (all p xs)).0 h in
      rw (a, those-all p xs b)

  -- where none passes, they are none
  pub those-none : (p : A → Bool) (xs : List A) → all (λ x. not (p x)) xs ≡ true → those p xs ≡ []
  unfolding all those
  those-none p [] h = refl
  those-none p (x ∷ xs) h =
      let (a, b) = (and-eq-true_iff (not (p x)) (all (λ y. not (p y)) xs)).0 h in
      rw (not-true (p x) a) (those-none p xs b)

  -- the sum over those that pass counts each of the others as 0
  pub sum-those : (f : A → ℕ) (p : A → Bool) (xs : List A) → sum_of f (those p xs) ≡ sum_of (λ x. cond (p x) (f x) 0) xs
  unfolding sum_of those
  sum-those f p [] = refl
  sum-those f p (x ∷ xs) = go (p x) (sum-those f p xs)
    where
      go : (t : Bool) → sum_of f (those p xs) ≡ sum_of (λ y. cond (p y) (f y) 0) xs
          → sum_of f (cond t (x ∷ those p xs) (those p xs)) ≡ cond t (f x) 0 + sum_of (λ y. cond (p y) (f y) 0) xs
      go true ih = rw ih
      go false ih = omega arith
