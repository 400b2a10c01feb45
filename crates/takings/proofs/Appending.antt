-- Lots that join the end: one more, as many as fit, and none where no row is left.
use Prim.Native.Nat.{ℕ, zero, suc, ◌+◌, ◌≤◌, ◌<◌}
use mathlib.Core.Path.{◌≡◌, refl, sym, ap, ap₂, ◌∙◌}
use mathlib.Core.Logic.{◌⊎◌, inl, inr}
use mathlib.Core.Bool.{Bool, true, false}
use mathlib.Core.List.{List, [], ◌∷◌, ◌++◌, map, append_assoc, append-nil}
use native.Mathlib.Numerals.{add-one}
use native.Mathlib.Omega.{arith}
use lib.Dec.{ltb}
use lib.ListN.{length, set, take, drop, length-append, length-drop}
use lib.Seq.{take-suc-set, drop-set-lt, length-take-le, take_all, take-length, take_at, take-append-le, append_snoc, set_split, set_out}
use borrow.Author.Tests.{ltb-true, ltb-false}
use Rattle.std.proofs.Common.{length-set}
use Rattle.rules.specs.declared.rows.Lot.{Lot}
use Rattle.rules.specs.Lots.{of_member}
use Rattle.rules.specs.Answer.{in_front}
use Rattle.takings.specs.Working.{appended}

-- the first rows in front of their own table
front_back : (n : ℕ) (t : List Lot) → take n t ++ drop (length (take n t)) t ≡ t
front_back zero t = refl
front_back (suc n) [] = refl
front_back (suc n) (l ∷ t) = ap (λ (ls : List Lot). l ∷ ls) (front_back n t)

-- rows that reach the end do so however many were asked for
reach : (n k : ℕ) (t : List Lot) → length t ≤ n + k → length t ≤ length (take n t) + k
reach zero k t h = omega arith
reach (suc n) k [] h = omega arith
reach (suc n) k (l ∷ t) h = omega (arith, reach n k t (omega arith))

module _ (used : ℕ) (t : List Lot) where
  -- none joins
  pub appended-none : appended used [] t ≡ t
  unfolding appended
  appended-none = rw (append-nil (take used t), front_back used t) (take-length t)

  -- where no row is left, none joins any more
  pub appended-full : (ls ms : List Lot) → length t ≤ used + length ls → appended used (ls ++ ms) t ≡ appended used ls t
  unfolding appended
  appended-full ls ms h =
      let p : List Lot = take used t ++ ls in
      let far : length t ≤ length p = rw (length-append (take used t) ls) (reach used (length ls) t h) in
      let farther : length t ≤ length (p ++ ms) = rw (length-append p ms) (omega (arith, far)) in
      rw (← append_assoc (take used t) ls ms, take-append-le (length t) (p ++ ms) (drop (length (p ++ ms)) t) farther, take-append-le (length t) p ms far)
      (sym (take-append-le (length t) p (drop (length p) t) far))

  module _ (ls : List Lot) (fits : used + length ls ≤ length t) where
    count : length (take used t ++ ls) ≡ used + length ls
    count = length-append (take used t) ls ∙ rw (length-take-le used t (omega (arith, fits)))

    -- all that have a row join
    pub appended-all : appended used ls t ≡ in_front (take used t ++ ls) t
    unfolding appended
    appended-all =
        take_all (length t) (in_front (take used t ++ ls) t)
        (rw (length-append (take used t ++ ls) (drop (length (take used t ++ ls)) t), length-drop (length (take used t ++ ls)) t) (omega (arith, count, fits)))

    -- the first rows are the used lots, and then these
    pub appended_front : take (used + length ls) (appended used ls t) ≡ take used t ++ ls
    appended_front = rw appended-all (take_at (take used t ++ ls) (drop (length (take used t ++ ls)) t) (used + length ls) count)

  -- one lot is written into the row after the used ones, if there is one
  pub append_in : (l : Lot) → used < length t → set t used l ≡ appended used (l ∷ []) t
  append_in l h =
      let n : length (take used t ++ (l ∷ [])) ≡ suc used = count (l ∷ []) (omega arith) ∙ add-one used in
      set_split t used l h ∙ sym (appended-all (l ∷ []) (omega arith) ∙ rw n (append_snoc (take used t) l (drop (suc used) t)))

  pub append_out : (l : Lot) → length t ≤ used → t ≡ appended used (l ∷ []) t
  append_out l h = sym (appended-full [] (l ∷ []) (omega arith) ∙ appended-none)

  pub append-set : (l : Lot) → appended used (l ∷ []) t ≡ set t used l
  append-set l = go (ltb used (length t)) refl
    where
      go : (b : Bool) → ltb used (length t) ≡ b → appended used (l ∷ []) t ≡ set t used l
      go true e = sym (append_in l (ltb-true used (length t) e))
      go false e =
          let h : length t ≤ used = ltb-false used (length t) e in
          sym (append_out l h) ∙ sym (set_out t used l h)

-- a lot and those after it: the one joins first, and then the others behind it
appended-cons : (n : ℕ) (l : Lot) (ls t : List Lot) → n < length t → appended (n + 1) ls (appended n (l ∷ []) t) ≡ appended n (l ∷ ls) t
unfolding appended
appended-cons n l ls t h =
    let w : List Lot = set t n l in
    let p : List Lot = take (n + 1) w ++ ls in
    let q : List Lot = take n t ++ (l ∷ ls) in
    let e : p ≡ q = ap (λ (k : ℕ). take k w ++ ls) (add-one n) ∙ ap (λ (y : List Lot). y ++ ls) (take-suc-set t n l h) ∙ append_assoc (take n t) (l ∷ []) ls in
    let far : n < length q = omega (arith, length-append (take n t) (l ∷ ls), length-take-le n t (omega arith)) in
    let f : in_front p w ≡ in_front q t = ap (λ (y : List Lot). in_front y w) e ∙ ap (λ (y : List Lot). q ++ y) (drop-set-lt (length q) t n l far) in
    ap (λ (y : List Lot). appended (n + 1) ls y) (append-set n t l) ∙ ap₂ (λ (k : ℕ) (y : List Lot). take k y) (length-set t n l) f

-- ---- pieces that join with a new owner, one after the other
-- the first of them, and then the others
pub joined_more : (m n k : ℕ) (p : Lot) (ps t : List Lot) → n < length t → appended (n + 1) (map (of_member m) (take k ps)) (appended n (of_member m p ∷ []) t) ≡ appended n (map (of_member m) (take (k + 1) (p ∷ ps))) t
joined_more m n k p ps t h = rw (add-one k) (appended-cons n (of_member m p) (map (of_member m) (take k ps)) t h)

-- no row is left, or no piece
pub joined_end : (m n k : ℕ) (ps t : List Lot) → (length t ≤ n) ⊎ (0 < k → length ps ≡ 0) → appended n (map (of_member m) (take k ps)) t ≡ t
joined_end m n k ps t (inl full) = appended-full n t [] (map (of_member m) (take k ps)) (omega (arith, full)) ∙ appended-none n t
joined_end m n zero ps t (inr e) = appended-none n t
joined_end m n (suc k) [] t (inr e) = appended-none n t
joined_end m n (suc k) (p ∷ ps) t (inr e) =
    let none : length (p ∷ ps) ≡ 0 = e (omega arith) in
    absurd (omega arith)
