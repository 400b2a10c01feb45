-- What the functions of `src/lib.rt` leave of a table, from what the methods of slices that they call say, and what a reader has of a row that a table ends within.
use Prim.Native.Nat.{ℕ, suc, ◌+◌, ◌-◌, ◌*◌, ◌≤◌, ◌<◌, min}
use mathlib.Core.Path.{◌≡◌, refl, sym, ap, subst, ◌∙◌}
use mathlib.Core.Logic.{◌⊎◌, inl, inr}
use mathlib.Core.Bool.{Bool, true, false, and-false}
use mathlib.Core.List.{List, [], ◌++◌, append_assoc, append-nil}
use native.Mathlib.Nat.{suc-mul, zero-add, zero-mul, one-mul, add-mul}
use native.Mathlib.Omega.{arith}
use lib.Dec.{leb}
use lib.ListN.{length, take, drop, replicate, length-drop, drop_of_length-le}
use Rattle.std.specs.List.{copy_within}
use Rattle.std.proofs.lemmas.List.{drop_min, drop-replicate, length-take-le}
use lib.Seq.{paste, take-paste, drop-paste, drop-drop, take_all}
use borrow.Author.Tests.{le-leb, lt-leb, lt-ltb, le-ltb, leb-true}
use borrow.Rule.Slice.PartMut.{mid_of, put_mid}
use Rattle.rules.specs.Tables.{splice, without_row}
use Rattle.tables.specs.Rows.{put_at, taken_out, padded}

-- ---- a row written
-- the numbers from a place on replaced by a row
pub put_part : (at : ℕ) (r t u : List ℕ) → at + length r ≤ length t → u ≡ r → put_mid at (at + length r - at) t u ≡ put_at at r t
unfolding put_at splice
put_part at r t u h e =
    let l : at + length r - at ≡ length r = omega arith in
    rw (le-leb _ _ h, e, l, drop-drop (length r) at t) (sym (append_assoc (take at t) r (drop (at + length r) t)))

-- no room: nothing is written
pub put_none : (at : ℕ) (r t : List ℕ) → length t < at + length r → t ≡ put_at at r t
unfolding put_at
put_none at r t h = rw (lt-leb _ _ h)

-- ---- rows that move up
-- the last row of n
last_row : (n w : ℕ) → 0 < n → n * w ≡ (n - 1) * w + w
last_row n w h =
    let e : n ≡ suc (n - 1) = omega arith in
    ap (λ (k : ℕ). k * w) e ∙ suc-mul (n - 1) w

-- of n rows of a part all but the first moved over the first ones, and the last cleared
pub closed_up : (t u z : List ℕ) (w n : ℕ) → 0 < n → n * w ≤ length t
    → u ≡ copy_within t w ((n - 1) * w + w) 0 → z ≡ replicate (length (mid_of ((n - 1) * w) ((n - 1) * w + w - (n - 1) * w) u)) 0
    → put_mid ((n - 1) * w) ((n - 1) * w + w - (n - 1) * w) u z ≡ without_row w 0 n t
unfolding without_row
closed_up t u z w n h f e g =
    let m : n * w ≡ (n - 1) * w + w = last_row n w h in
    let k : (n - 1) * w + w - w ≡ (n - 1) * w = omega arith in
    let l : (n - 1) * w + w - (n - 1) * w ≡ w = omega arith in
    let d : (n - 1) * w ≤ length (drop w t) = rw (length-drop w t) (omega arith) in
    let p : u ≡ paste t 0 (drop w t) ((n - 1) * w) = e ∙ ap (paste t 0 (drop w t)) k in
    let q : 0 + (n - 1) * w ≡ (n - 1) * w = zero-add ((n - 1) * w) in
    let a : take ((n - 1) * w) u ≡ take ((n - 1) * w) (drop w t) = ap (take ((n - 1) * w)) p ∙ subst (λ i. take i (paste t 0 (drop w t) ((n - 1) * w)) ≡ take ((n - 1) * w) (drop w t)) q (take-paste t 0 (drop w t) ((n - 1) * w) (omega arith) d) in
    let b : drop ((n - 1) * w) u ≡ drop ((n - 1) * w) t = ap (drop ((n - 1) * w)) p ∙ subst (λ i. drop i (paste t 0 (drop w t) ((n - 1) * w)) ≡ drop i t) q (drop-paste t 0 (drop w t) ((n - 1) * w) (omega arith) d) in
    let v : length (take w (drop ((n - 1) * w) t)) ≡ w = length-take-le w (drop ((n - 1) * w) t) (rw (length-drop ((n - 1) * w) t) (omega arith)) in
    let g' : z ≡ replicate w 0 = g ∙ rw (l, b, v) in
    rw (zero-mul w, one-mul w, a, l, b, g', drop-drop w ((n - 1) * w) t, ← m) (sym (append_assoc (take ((n - 1) * w) (drop w t)) (replicate w 0) (drop (n * w) t)))

-- ---- a part that reaches to the end: the whole of what is left, and nothing after it
pub whole_tail : (a : ℕ) (t : List ℕ) → mid_of a (length t - a) t ≡ drop a t
whole_tail a t =
    let l : length (drop a t) ≡ length t - a = length-drop a t in
    take_all (length t - a) (drop a t) (omega arith)

put_tail : (a : ℕ) (t r : List ℕ) → put_mid a (length t - a) t r ≡ take a t ++ r
put_tail a t r =
    let l : length (drop a t) ≡ length t - a = length-drop a t in
    let e : drop (length t - a) (drop a t) ≡ [] = drop_of_length-le (drop a t) {i = length t - a} (omega arith) in
    rw (e, append-nil r)

-- ---- row i found in the part from row i on
taken_part : (t : List ℕ) (w i n : ℕ) → i < n → n * w ≤ length t
    → take (i * w) t ++ without_row w 0 (n - i) (drop (i * w) t) ≡ taken_out w i n t
unfolding taken_out without_row
taken_part t w i n h f =
    let q : n ≡ i + (n - i) = omega arith in
    let p : n * w ≡ i * w + (n - i) * w = ap (λ (k : ℕ). k * w) q ∙ add-mul i (n - i) w in
    let s : suc i * w ≡ i * w + w = suc-mul i w in
    let o : n - i - suc 0 ≡ n - suc i = omega arith in
    rw (le-leb _ _ f, lt-ltb _ _ h, zero-mul w, one-mul w, o, drop-drop w (i * w) t, drop-drop ((n - i) * w) (i * w) t, ← s, ← p) (simp append_assoc)

taken_none : (t : List ℕ) (w i n : ℕ) → n ≤ i → t ≡ taken_out w i n t
unfolding taken_out
taken_none t w i n h = rw (le-ltb _ _ h, and-false)

taken_outside : (t : List ℕ) (w i n : ℕ) → leb (n * w) (length t) ≡ false → t ≡ taken_out w i n t
unfolding taken_out
taken_outside t w i n h = rw h

pub taken_not : (t : List ℕ) (w i n : ℕ) (b : Bool) → b ≡ leb (n * w) (length t) → (b ≡ false) ⊎ ((b ≡ true) × (n ≤ i)) → t ≡ taken_out w i n t
taken_not t w i n b e (inl f) = taken_outside t w i n (sym e ∙ f)
taken_not t w i n b e (inr f) = taken_none t w i n f.1

-- taken out of the part from row i on
pub taken_tail : (t u : List ℕ) (w i n : ℕ) → i < n → leb (n * w) (length t) ≡ true
    → u ≡ without_row w 0 (n - i) (mid_of (i * w) (length t - i * w) t) → put_mid (i * w) (length t - i * w) t u ≡ taken_out w i n t
taken_tail t u w i n h f e =
    put_tail (i * w) t u
    ∙ ap (λ x. take (i * w) t ++ x) (e ∙ ap (without_row w 0 (n - i)) (whole_tail (i * w) t))
    ∙ taken_part t w i n h (leb-true _ _ f)

-- the rows from row i on lie within that part
pub tail_fits : (t : List ℕ) (w i n : ℕ) → i < n → leb (n * w) (length t) ≡ true → (n - i) * w ≤ length (mid_of (i * w) (length t - i * w) t)
tail_fits t w i n h f =
    let q : n ≡ i + (n - i) = omega arith in
    let p : n * w ≡ i * w + (n - i) * w = ap (λ k. k * w) q ∙ add-mul i (n - i) w in
    rw (whole_tail (i * w) t, length-drop (i * w) t) (omega (arith, p, leb-true _ _ f))

-- ---- the numbers of a row that a table ends before
pub padded_rest : (n at m : ℕ) (t : List ℕ) → m ≡ min at (length t) → length (take (length t - m) (drop m t)) < n
    → take (length t - m) (drop m t) ++ drop (length (take (length t - m) (drop m t))) (replicate n 0) ≡ padded n (drop at t)
padded_rest n at m t e h =
    let p : drop m t ≡ drop at t = rw e (drop_min at t) in
    let q : take (length t - m) (drop m t) ≡ drop at t = whole_tail m t ∙ p in
    let l : length (drop at t) < n = rw q at h in
    rw (q, take_all n (drop at t) (omega arith), drop-replicate {X = ℕ} (length (drop at t)) n 0) refl
