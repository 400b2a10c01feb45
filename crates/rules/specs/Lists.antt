-- Plain words about lists that the rules use. Each is what its name says.
use Rattle.std.specs.Prelude.{ℕ, suc, ◌+◌, Bool, true, false, ◌&&◌, ◌||◌, cond, eqb, List, [], ◌∷◌, ◌++◌}
use Prim.Native.Char.{code}
use Prim.Native.String.{String}

module _ {A : Type 0} where
  -- every element passes the test
  unfoldable pub all : (A → Bool) → List A → Bool
  all p [] = true
  all p (x ∷ xs) = p x && all p xs

  -- some element passes it
  unfoldable pub any : (A → Bool) → List A → Bool
  any p [] = false
  any p (x ∷ xs) = p x || any p xs

  -- those that pass it, in their order
  unfoldable pub those : (A → Bool) → List A → List A
  those p [] = []
  those p (x ∷ xs) = cond (p x) (x ∷ those p xs) (those p xs)

  -- how many stand before the first that passes it; all of them where none does
  unfoldable pub index_of : (A → Bool) → List A → ℕ
  index_of p [] = 0
  index_of p (x ∷ xs) = cond (p x) 0 (suc (index_of p xs))

  -- the sum of a number of each
  unfoldable pub sum_of : (A → ℕ) → List A → ℕ
  sum_of f [] = 0
  sum_of f (x ∷ xs) = f x + sum_of f xs

  -- all the lists that each gives, one after the other
  unfoldable pub joined {κ} : {B : Type κ} → (A → List B) → List A → List B
  joined f [] = []
  joined f (x ∷ xs) = f x ++ joined f xs

-- all of these hold
unfoldable pub ands : List Bool → Bool
ands [] = true
ands (t ∷ ts) = t && ands ts

-- the same numbers, as many of them and in the same order
unfoldable pub same : List ℕ → List ℕ → Bool
same [] [] = true
same [] (y ∷ ys) = false
same (x ∷ xs) [] = false
same (x ∷ xs) (y ∷ ys) = eqb x y && same xs ys

-- a text as its bytes; every text here is of characters below 128
unfoldable pub bytes : String → List ℕ
bytes String.[] = []
bytes (String.◌∷◌ c s) = code c ∷ bytes s
