-- The chain of refusals: for a table whose numbers rise, the code's chain of tests tells the smallest number that applies.
use Rattle.std.specs.Prelude.{Result, Ok, Err}
use Prim.Native.Nat.{ℕ, zero, suc, ◌≤◌}
use mathlib.Core.Path.{◌≡◌, refl, ap}
use mathlib.Core.Logic.{◌≢◌}
use mathlib.Core.Bool.{Bool, true, false, not, ◌&&◌, cond}
use mathlib.Core.List.{List, [], ◌∷◌, map}
use native.Mathlib.Omega.{arith}
use lib.Dec.{leb}
use Rattle.rules.specs.declared.answers.Refusal.{Refusal}
use Rattle.rules.specs.Lists.{all}
use Rattle.rules.specs.Replies.{told_refusal, number_of, told, plainly, refuse, smaller, smallest, plain}
use borrow.Author.Tests.{leb-true}
use Rattle.rules.proofs.Tests.{both}
use Rattle.rules.proofs.Told.{Telling, telling}

-- an entry of a chain: the refusal, and whether it applies
abbrev pub Entry : Type 0
Entry = Refusal × Bool

-- the chain as the code builds it
abbrev pub chain : List Entry → Result (Unit {0}) Refusal
chain [] = Ok tt
chain (e ∷ es) = cond e.1 (Err e.0) (chain es)

-- the table of numbers that it stands for
abbrev pub entry : Entry → ℕ × Bool
entry e = refuse e.0 e.1

-- no number after the first is smaller
unfoldable pub not_below : ℕ → List Entry → Bool
not_below n es = all (λ e. leb n (number_of e.0)) es

-- the numbers rise, and the first is above Malformed's, which alone has a value after it
abbrev pub rising : List Entry → Bool
rising [] = true
rising (e ∷ es) = leb 2 (number_of e.0) && (not_below (number_of e.0) es && rising es)

-- 0, or not below n
Least : ℕ → ℕ → Type 0
Least n m = m ≢ 0 → n ≤ m

smaller_least : (n k m : ℕ) → n ≤ k → Least n m → Least n (smaller k m)
unfolding Least
smaller_least n k zero h l z = h
smaller_least n k (suc m) h l z = omega (arith, l (λ e. omega arith))

smallest_least : (n : ℕ) (es : List Entry) → not_below n es ≡ true → Least n (smallest (map entry es))
unfolding not_below all smallest Least
smallest_least n [] h z = absurd (z refl)
smallest_least n (e ∷ es) h z = go e.1 refl (smallest_least n es (both (leb n (number_of e.0)) (not_below n es) h).1) z
  where
    go : (t : Bool) → e.1 ≡ t → (smallest (map entry es) ≢ 0 → n ≤ smallest (map entry es))
        → cond t (smaller (number_of e.0) (smallest (map entry es))) (smallest (map entry es)) ≢ 0
        → n ≤ cond e.1 (smaller (number_of e.0) (smallest (map entry es))) (smallest (map entry es))
    go true p ih z = rw p (unfold Least in smaller_least n (number_of e.0) (smallest (map entry es)) (leb-true n (number_of e.0) (both (leb n (number_of e.0)) (not_below n es) h).0) ih z)
    go false p ih z = rw p (ih z)

-- the first that applies is the smallest
smaller-first : (n m : ℕ) → Least n m → smaller n m ≡ n
unfolding Least
smaller-first n zero l = refl
smaller-first n (suc m) l = omega (arith, l (λ e. omega arith))

-- a refusal other than Malformed tells its number alone
told_alone : {r : Refusal} → Telling r → 2 ≤ number_of r → told_refusal r ≡ plain (number_of r)
unfolding told_refusal
told_alone (Telling.field k) h = absurd (omega arith)
told_alone (Telling.alone e) h = e

pub chain-told : (es : List Entry) → rising es ≡ true → told (plainly (chain es)) ≡ plain (smallest (map entry es))
unfolding told smallest
chain-told [] h = refl
chain-told (e ∷ es) h =
    let (above, later) = both (leb 2 (number_of e.0)) (not_below (number_of e.0) es && rising es) h in
    let (least, rises) = both (not_below (number_of e.0) es) (rising es) later in
    go above least e.1 refl (chain-told es rises)
  where
    go : leb 2 (number_of e.0) ≡ true → not_below (number_of e.0) es ≡ true → (t : Bool) → e.1 ≡ t → told (plainly (chain es)) ≡ plain (smallest (map entry es))
        → told (plainly (cond e.1 (Err e.0) (chain es))) ≡ plain (cond e.1 (smaller (number_of e.0) (smallest (map entry es))) (smallest (map entry es)))
    go above least true p ih = rw (p, smaller-first (number_of e.0) (smallest (map entry es)) (smallest_least (number_of e.0) es least)) (told_alone (telling e.0) (leb-true 2 (number_of e.0) above))
    go above least false p ih = rw p ih

-- out of frame comes first: what the other tests say of such a book is no matter
pub chain-frame : (f : Bool) (es gs : List Entry) → (f ≡ true → es ≡ gs) → chain ((Refusal.BadBook, not f) ∷ es) ≡ chain ((Refusal.BadBook, not f) ∷ gs)
chain-frame true es gs h = ap chain (h refl)
chain-frame false es gs h = refl
