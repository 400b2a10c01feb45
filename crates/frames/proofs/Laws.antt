-- Laws of the tests over a list, of a table's size and its count, and of the parts of the frame test.
use Prim.Native.Nat.{ℕ, ◌≤◌, ◌<◌}
use mathlib.Core.Path.{◌≡◌, refl, sym, ap, ◌∙◌}
use mathlib.Core.Bool.{Bool, false, ◌&&◌, and_assoc, and_comm}
use mathlib.Core.List.{List, [], ◌∷◌}
use lib.Dec.{leb, eqb, leb-zero}
use borrow.Author.Tests.{eq-eqb, ne_eqb, le-leb, lt-leb}
use mathlib.Core.Logic.{◌⊎◌, inl, inr}
use Rattle.std.specs.List.{list_all}
use Rattle.rules.specs.Limits.{within, is_member, ceiling}
use Rattle.frames.specs.Parts.{lists_frame}
use Rattle.rules.specs.Lists.{all}

-- ---- a list tested
-- the library's word for it
pub listed : {A : Type 0} (p : A → Bool) (xs : List A) → list_all p xs ≡ all p xs
unfolding all
listed p [] = refl
listed p (x ∷ xs) = ap (λ (b : Bool). p x && b) (listed p xs)

-- from 0 on there is no lower limit
pub all-up-to : (hi : ℕ) (s : List ℕ) → all (within 0 hi) s ≡ all (λ x. leb x hi) s
unfolding all
all-up-to hi [] = refl
all-up-to hi (x ∷ s) = rw (leb-zero x, all-up-to hi s)

-- ---- a table's size and its count
-- a test that begins with them, where they fail
pub outside : (l size n rows : ℕ) (rest : Bool) → (l ≡ size → ⊥) ⊎ ((l ≡ size) × (rows < n)) → false ≡ eqb l size && (leb n rows && rest)
outside l size n rows rest (inl h) = rw (ne_eqb _ _ h)
outside l size n rows rest (inr h) = rw (eq-eqb _ _ h.0, lt-leb _ _ h.1)

-- and where they hold
pub inside : (l size n rows : ℕ) (rest : Bool) → l ≡ size → n ≤ rows → eqb l size && (leb n rows && rest) ≡ rest
inside l size n rows rest e h = rw (eq-eqb _ _ e, le-leb _ _ h)

-- ---- conjunctions
pub and-left_comm : (a b c : Bool) → a && (b && c) ≡ b && (a && c)
and-left_comm a b c = sym (and_assoc a b c) ∙ ap (λ (x : Bool). x && c) (and_comm a b) ∙ and_assoc b a c

-- what is asked of a row and of the rows after it, two ways
pub two_by_two : (a b c d : Bool) → (a && b) && (c && d) ≡ (a && c) && (b && d)
two_by_two a b c d = simp (and_assoc, and-left_comm)

-- the desk's lists, each tested from a lower limit to an upper one
pub lists_frame_is : (balances holders lifetime settled : List ℕ)
    → lists_frame balances holders lifetime settled
    ≡ all (within 0 ceiling) balances && (all (within 0 ceiling) lifetime && (all (within 0 ceiling) settled && all is_member holders))
unfolding lists_frame
lists_frame_is balances holders lifetime settled = rw (all-up-to ceiling balances, all-up-to ceiling lifetime, all-up-to ceiling settled)
