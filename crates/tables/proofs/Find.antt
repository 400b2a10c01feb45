-- The search for a row: what is left to find after i rows, one row more, and the end.
use Prim.Native.Nat.{ℕ, zero, suc, ◌+◌, ◌-◌, ◌*◌, ◌≤◌, ◌<◌, zero-le}
use mathlib.Core.Path.{◌≡◌, refl, sym, subst, ◌∙◌}
use mathlib.Core.Bool.{Bool, true, false}
use mathlib.Core.List.{List, [], ◌∷◌}
use native.Mathlib.Numerals.{add-one}
use native.Mathlib.Nat.{zero-add, add-zero}
use Rattle.std.proofs.Common.{Option, Some, None}
use Rattle.std.specs.Prelude.{MatchOption}
use Rattle.std.specs.List.{starts_with}
use borrow.Rule.Slice.PartMut.{mid_of}
use Rattle.tables.proofs.Edits.{whole_tail}
use Rattle.std.specs.Option.{unwrap_or}
use native.Mathlib.Omega.{arith}
use lib.Dec.{leb, eqb}
use lib.Pointwise.{pointwise}
use lib.ListN.{length, take, drop}
use Rattle.rules.specs.Lists.{same, index_of}
use Rattle.tables.specs.Rows.{bare, place_of}
use Rattle.tables.proofs.Rest.{rest, rest_all, index_here, index_later, index_end}

-- the comparison of the definitions is that of slices
pub same_pointwise : (xs ys : List ℕ) → pointwise eqb xs ys ≡ same xs ys
unfolding same
same_pointwise [] [] = refl
same_pointwise [] (y ∷ ys) = refl
same_pointwise (x ∷ xs) [] = refl
same_pointwise (x ∷ xs) (y ∷ ys) = rw (same_pointwise xs ys) refl

module _ (r : List ℕ) (n : ℕ) (t : List ℕ) where
  -- where the row is, if none of the first i is it
  abbrev pub FoundFrom : ℕ → Type 0
  FoundFrom i = place_of r n t ≡ i + index_of (same r) (rest (bare (length r)) n i t)

  pub find_outside : leb (n * length r) (length t) ≡ false → n ≡ place_of r n t
  unfolding place_of
  find_outside h = rw h

  find_none : leb (n * length r) (length t) ≡ true → FoundFrom 0
  unfolding place_of
  find_none h = rw (h, rest_all (bare (length r)) n t, zero-add)

  find_here : (i : ℕ) → i < n → FoundFrom i → same r (take (length r) (drop (i * length r) t)) ≡ true → i ≡ place_of r n t
  find_here i h f e = sym (f ∙ rw (index_here (bare (length r)) (same r) n i t h e, add-zero))

  find_later : (i : ℕ) → i < n → FoundFrom i → same r (take (length r) (drop (i * length r) t)) ≡ false → FoundFrom (i + 1)
  find_later i h f e =
      f ∙ rw (index_later (bare (length r)) (same r) n i t h e) (omega arith)

  find_end : FoundFrom n → n ≡ place_of r n t
  find_end f =
      sym (f ∙ rw (index_end (bare (length r)) (same r) n n t (omega arith), add-zero))

  -- whether the part of the table from row i on begins with it
  abbrev pub Begins : Bool → ℕ → Type 0
  Begins b i = starts_with eqb (mid_of (i * length r) (length t - i * length r) t) r ≡ b

  is_row : (b : Bool) (i : ℕ) → Begins b i → same r (take (length r) (drop (i * length r) t)) ≡ b
  is_row b i h = sym (same_pointwise r (take (length r) (drop (i * length r) t))) ∙ (rw (whole_tail (i * length r) t) at h)

  find_upto : (i : ℕ) → i ≤ n → ((k : ℕ) → k < i → Begins false k) → FoundFrom 0 → FoundFrom i
  find_upto zero h miss f = f
  find_upto (suc i) h miss f = subst FoundFrom (add-one i) (find_later i (omega arith) (find_upto i (omega arith) (λ k l. miss k (omega arith)) f) (is_row false i (miss i (omega arith))))

  pub find_first : leb (n * length r) (length t) ≡ true → (o : Option ℕ)
      → MatchOption o ((k : ℕ) → 0 ≤ k → k < n → Begins false k) (λ i. (0 ≤ i) × (i < n) × Begins true i × ((k : ℕ) → 0 ≤ k → k < i → Begins false k))
      → unwrap_or o n ≡ place_of r n t
  find_first h None miss = find_end (find_upto n (omega arith) (λ k l. miss k zero-le l) (find_none h))
  find_first h (Some i) y = find_here i y.1 (find_upto i (omega (arith, y.1)) (λ k l. y.3 k zero-le l) (find_none h)) (is_row true i y.2)
