-- Lists: one element joins, one is taken out, and whether some element passes a test.
use Prim.Native.Nat.{ℕ, zero, suc, ◌≤◌}
use mathlib.Core.Path.{◌≡◌, refl, sym, ◌∙◌}
use mathlib.Core.Bool.{Bool, true, false, ◌||◌, cond, false≢true, or-true}
use mathlib.Core.List.{List, [], ◌∷◌, ◌++◌, map}
use native.Mathlib.Omega.{arith}
use lib.ListN.{length, take, drop, length-append, length-take, length-drop}
use Rattle.rules.specs.Lists.{all, any, those}
use Rattle.rules.proofs.Digits.{all_append}
use Rattle.rules.proofs.Tests.{both}

-- what follows from either of two follows
pub either : (a b : Bool) → a || b ≡ true → (c : Bool) → (a ≡ true → c ≡ true) → (b ≡ true → c ≡ true) → c ≡ true
either true b h c f g = f refl
either false b h c f g = g h

module _ {A : Type 0} where
  -- every element still passes with one more that does
  pub all-add : (p : A → Bool) (xs : List A) (x : A) → all p xs ≡ true → p x ≡ true → all p (xs ++ (x ∷ [])) ≡ true
  unfolding all
  all-add p xs x h e = rw (all_append p xs (x ∷ []), h, e)

  -- every element still passes with one taken out
  pub all_without : (p : A → Bool) (xs : List A) (i : ℕ) → all p xs ≡ true → all p (take i xs ++ drop (suc i) xs) ≡ true
  unfolding all
  all_without p [] zero h = refl
  all_without p [] (suc i) h = refl
  all_without p (x ∷ xs) zero h = (both (p x) (all p xs) h).1
  all_without p (x ∷ xs) (suc i) h =
      let (e, r) = both (p x) (all p xs) h in
      rw e (all_without p xs i r)

  -- and there are not more
  pub length_without : (xs : List A) (i : ℕ) → length (take i xs ++ drop (suc i) xs) ≤ length xs
  length_without xs i = rw (length-append (take i xs) (drop (suc i) xs), length-take i xs, length-drop (suc i) xs) (omega arith)

  -- ---- some element
  -- if what passes q passes p, whether some element passes q is known from those that pass p
  pub any-those : (p q : A → Bool) → ((x : A) → q x ≡ true → p x ≡ true) → (xs : List A) → any q xs ≡ any q (those p xs)
  unfolding any those
  any-those p q h [] = refl
  any-those p q h (x ∷ xs) = go (q x) (p x) refl refl (any-those p q h xs)
    where
      go : (t u : Bool) → q x ≡ t → p x ≡ u → any q xs ≡ any q (those p xs) → t || any q xs ≡ any q (cond u (x ∷ those p xs) (those p xs))
      go true true e f ih = rw e
      go true false e f ih = absurd (false≢true (sym f ∙ h x e))
      go false true e f ih = rw e ih
      go false false e f ih = ih

  -- what passes with one taken out passed before
  pub any_without : (p : A → Bool) (xs : List A) (i : ℕ) → any p (take i xs ++ drop (suc i) xs) ≡ true → any p xs ≡ true
  unfolding any
  any_without p [] zero h = h
  any_without p [] (suc i) h = h
  any_without p (x ∷ xs) zero h = rw h (or-true (p x))
  any_without p (x ∷ xs) (suc i) h =
      either (p x) (any p (take i xs ++ drop (suc i) xs)) h (p x || any p xs) (λ e. rw e) (λ e. rw (any_without p xs i e) (or-true (p x)))

  -- what some element passes, and what every element passes, some element passes together
  pub any-all : (p q r : A → Bool) → ((x : A) → p x ≡ true → q x ≡ true → r x ≡ true) → (xs : List A) → any p xs ≡ true → all q xs ≡ true → any r xs ≡ true
  unfolding any all
  any-all p q r f [] h k = h
  any-all p q r f (x ∷ xs) h k =
      let (u, v) = both (q x) (all q xs) k in
      either (p x) (any p xs) h (r x || any r xs) (λ e. rw (f x e u)) (λ e. rw (any-all p q r f xs e v) (or-true (r x)))

-- some image passes where some element does
pub any-map : {A B : Type 0} (p : B → Bool) (f : A → B) (xs : List A) → any p (map f xs) ≡ any (λ x. p (f x)) xs
unfolding any
any-map p f [] = refl
any-map p f (x ∷ xs) = rw (any-map p f xs)
