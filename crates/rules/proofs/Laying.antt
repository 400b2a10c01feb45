-- The layout laws, once for every shape of row: the rows read back from a laid table are the rows; laying what was read changes nothing; and for each kind of edit, what laying the edited rows does to the flat table.
use Prim.Native.Nat.{ℕ, zero, suc, ◌+◌, ◌-◌, ◌*◌, ◌≤◌, ◌<◌, max}
use mathlib.Core.Path.{◌≡◌, refl, ap, ap₂, ◌∙◌}
use mathlib.Core.List.{List, [], ◌∷◌, ◌++◌, append_assoc, append-nil}
use native.Mathlib.Nat.{suc-mul, zero-mul, one-mul, zero-add, suc-add, add_comm, add-mul}
use native.Mathlib.Omega.{arith}
use lib.ListN.{length, take, drop, set, replicate, length-append, length-drop, length-set}
use lib.Seq.{take-add, take_at, drop_at, drop-drop, length-take-le, set_split}
use Rattle.rules.specs.Lists.{joined}
use Rattle.rules.specs.Tables.{Shape, Edit, rows_of, lay, edited, splice, without_row, edited_table}

-- what makes a shape sound: a row is as wide as the shape says, is read back as it was laid, and lies as it was read
pub record Sound {A : Type 0} (shape : Shape A) : Type 0 where
  pub wide : (a : A) → length (shape.flat a) ≡ shape.width
  pub back : (a : A) → shape.row (shape.flat a) ≡ a
  pub forth : (r : List ℕ) → length r ≡ shape.width → shape.flat (shape.row r) ≡ r

-- an edit that a table of n used rows has room for
unfoldable pub RoomFor : {A : Type 0} → Shape A → Edit A → ℕ → List ℕ → Type 0
RoomFor shape Edit.keep n t = n * shape.width ≤ length t
RoomFor shape (Edit.add a) n t = suc n * shape.width ≤ length t
RoomFor shape (Edit.take_out i) n t = (i < n) × (n * shape.width ≤ length t)
RoomFor shape (Edit.change i a) n t = (i < n) × (n * shape.width ≤ length t)

pub joined_append : {A B : Type 0} (f : A → List B) (xs ys : List A) → joined f (xs ++ ys) ≡ joined f xs ++ joined f ys
unfolding joined
joined_append f [] ys = refl
joined_append f (x ∷ xs) ys = rw (joined_append f xs ys, append_assoc)

-- one row's width more
pub more : (n w : ℕ) → suc n * w ≡ w + n * w
more n w = suc-mul n w ∙ add_comm (n * w) w

module _ {A : Type 0} (shape : Shape A) where
  pub length-rows : (n : ℕ) (t : List ℕ) → length (rows_of shape n t) ≡ n
  unfolding rows_of
  length-rows zero t = refl
  length-rows (suc n) t = ap suc (length-rows n (drop shape.width t))

  pub rows_split : (a b : ℕ) (t : List ℕ) → rows_of shape (a + b) t ≡ rows_of shape a t ++ rows_of shape b (drop (a * shape.width) t)
  unfolding rows_of
  rows_split zero b t = rw (zero-add, zero-mul)
  rows_split (suc a) b t =
      rw (suc-add a b, more a shape.width, ← drop-drop (a * shape.width) shape.width t)
      (ap (λ (r : List A). shape.row (take shape.width t) ∷ r) (rows_split a b (drop shape.width t)))

  pub take-rows : (n i : ℕ) (t : List ℕ) → i ≤ n → take i (rows_of shape n t) ≡ rows_of shape i t
  take-rows n i t h =
      let e : n ≡ i + (n - i) = omega arith in
      ap (λ (k : ℕ). take i (rows_of shape k t)) e
      ∙ ap (take i) (rows_split i (n - i) t)
      ∙ take_at (rows_of shape i t) (rows_of shape (n - i) (drop (i * shape.width) t)) i (length-rows i t)

  pub drop-rows : (n i : ℕ) (t : List ℕ) → i ≤ n → drop i (rows_of shape n t) ≡ rows_of shape (n - i) (drop (i * shape.width) t)
  drop-rows n i t h =
      let e : n ≡ i + (n - i) = omega arith in
      ap (λ (k : ℕ). drop i (rows_of shape k t)) e
      ∙ ap (drop i) (rows_split i (n - i) t)
      ∙ drop_at (rows_of shape i t) (rows_of shape (n - i) (drop (i * shape.width) t)) i (length-rows i t)

  module _ (sound : Sound shape) where
    -- ---- the rows read back are the rows
    rows_joined : (rows : List A) (rest : List ℕ) → rows_of shape (length rows) (joined shape.flat rows ++ rest) ≡ rows
    unfolding rows_of joined
    rows_joined [] rest = refl
    rows_joined (a ∷ rows) rest =
        rw (
          append_assoc (shape.flat a) (joined shape.flat rows) rest,
          take_at (shape.flat a) (joined shape.flat rows ++ rest) shape.width (sound.wide a),
          drop_at (shape.flat a) (joined shape.flat rows ++ rest) shape.width (sound.wide a),
          sound.back a,
        )
        (ap (λ (r : List A). a ∷ r) (rows_joined rows rest))

    pub rows-laid : (rows : List A) (n : ℕ) (t : List ℕ) → rows_of shape (length rows) (lay shape rows n t) ≡ rows
    unfolding lay
    rows-laid rows n t =
        rw (append_assoc (joined shape.flat rows) (replicate ((n - length rows) * shape.width) 0) (drop (max n (length rows) * shape.width) t))
        (rows_joined rows (replicate ((n - length rows) * shape.width) 0 ++ drop (max n (length rows) * shape.width) t))

    -- ---- the rows, laid, are the part of the table that held them
    pub joined_rows : (n : ℕ) (t : List ℕ) → n * shape.width ≤ length t → joined shape.flat (rows_of shape n t) ≡ take (n * shape.width) t
    unfolding rows_of joined
    joined_rows zero t h = rw zero-mul
    joined_rows (suc n) t h =
        let e : suc n * shape.width ≡ shape.width + n * shape.width = more n shape.width in
        let l : length (take shape.width t) ≡ shape.width = length-take-le shape.width t (omega arith) in
        let k : n * shape.width ≤ length (drop shape.width t) = rw length-drop (omega arith) in
        rw (e, take-add shape.width (n * shape.width) t, sound.forth (take shape.width t) l, joined_rows n (drop shape.width t) k)

    joined_one : (a : A) → joined shape.flat (a ∷ []) ≡ shape.flat a
    unfolding joined
    joined_one a = append-nil (shape.flat a)

    -- ---- one law for each kind of edit
    -- what laying is, where so many rows are given up and so much of the table stays
    laid_as : (rows : List A) (n : ℕ) (t : List ℕ) (gone kept : ℕ) → n - length rows ≡ gone → max n (length rows) ≡ kept
        → lay shape rows n t ≡ joined shape.flat rows ++ replicate (gone * shape.width) 0 ++ drop (kept * shape.width) t
    unfolding lay
    laid_as rows n t gone kept p q = rw (p, q)

    lay-keep : (n : ℕ) (t : List ℕ) → n * shape.width ≤ length t → lay shape (rows_of shape n t) n t ≡ t
    lay-keep n t h =
        let l : length (rows_of shape n t) ≡ n = length-rows n t in
        laid_as (rows_of shape n t) n t 0 n (omega arith) (omega arith)
        ∙ rw (joined_rows n t h, zero-mul, append-nil) (lib.ListN.take-append-drop (n * shape.width) t)

    lay-add : (a : A) (n : ℕ) (t : List ℕ) → suc n * shape.width ≤ length t
        → lay shape (rows_of shape n t ++ (a ∷ [])) n t ≡ splice (n * shape.width) (shape.flat a) t
    unfolding splice
    lay-add a n t h =
        let e : suc n * shape.width ≡ shape.width + n * shape.width = more n shape.width in
        let l : length (rows_of shape n t) ≡ n = length-rows n t in
        let m : length (rows_of shape n t ++ (a ∷ [])) ≡ suc n = length-append (rows_of shape n t) (a ∷ []) ∙ omega arith in
        let f : n * shape.width ≤ length t = omega arith in
        let k : suc n * shape.width ≡ n * shape.width + length (shape.flat a) = omega (arith, sound.wide a) in
        laid_as (rows_of shape n t ++ (a ∷ [])) n t 0 (suc n) (omega arith) (omega arith)
        ∙ rw (joined_append shape.flat (rows_of shape n t) (a ∷ []), joined_rows n t f, joined_one a, zero-mul, append-nil (take (n * shape.width) t ++ shape.flat a), k)

    lay-change : (i : ℕ) (a : A) (n : ℕ) (t : List ℕ) → i < n → n * shape.width ≤ length t
        → lay shape (set (rows_of shape n t) i a) n t ≡ splice (i * shape.width) (shape.flat a) t
    unfolding splice joined
    lay-change i a n t h f =
        let l : length (rows_of shape n t) ≡ n = length-rows n t in
        let m : length (set (rows_of shape n t) i a) ≡ n = length-set (rows_of shape n t) i a ∙ l in
        let q : n ≡ suc i + (n - suc i) = omega arith in
        let p : n * shape.width ≡ suc i * shape.width + (n - suc i) * shape.width = ap (λ (k : ℕ). k * shape.width) q ∙ add-mul (suc i) (n - suc i) shape.width in
        let e : suc i * shape.width ≡ shape.width + i * shape.width = more i shape.width in
        let g : (n - suc i) * shape.width ≤ length (drop (suc i * shape.width) t) = rw length-drop (omega arith) in
        let k : suc i * shape.width ≡ i * shape.width + length (shape.flat a) = omega (arith, sound.wide a) in
        laid_as (set (rows_of shape n t) i a) n t 0 n (omega arith) (omega arith)
        ∙ rw (
          set_split (rows_of shape n t) i a (omega arith),
          take-rows n i t (omega arith),
          drop-rows n (suc i) t h,
          joined_append shape.flat (rows_of shape i t) (a ∷ rows_of shape (n - suc i) (drop (suc i * shape.width) t)),
          joined_rows i t (omega arith),
          joined_rows (n - suc i) (drop (suc i * shape.width) t) g,
          zero-mul,
          append-nil (take (i * shape.width) t ++ (shape.flat a ++ take ((n - suc i) * shape.width) (drop (suc i * shape.width) t))),
          append_assoc,
          append_assoc,
          append_assoc,
          ← k,
          p,
          ← drop-drop ((n - suc i) * shape.width) (suc i * shape.width) t,
        )
        (ap (λ (r : List ℕ). take (i * shape.width) t ++ (shape.flat a ++ r)) (lib.ListN.take-append-drop ((n - suc i) * shape.width) (drop (suc i * shape.width) t)))

    lay-take_out : (i n : ℕ) (t : List ℕ) → i < n → n * shape.width ≤ length t
        → lay shape (take i (rows_of shape n t) ++ drop (suc i) (rows_of shape n t)) n t ≡ without_row shape.width i n t
    unfolding without_row
    lay-take_out i n t h f =
        let rows : List A = take i (rows_of shape n t) ++ drop (suc i) (rows_of shape n t) in
        let l : length (rows_of shape n t) ≡ n = length-rows n t in
        let m : length rows ≡ i + (n - suc i) =
        length-append (take i (rows_of shape n t)) (drop (suc i) (rows_of shape n t))
        ∙ ap₂ (λ (x y : ℕ). x + y) (length-take-le i (rows_of shape n t) (omega arith)) (length-drop (suc i) (rows_of shape n t) ∙ ap (λ (x : ℕ). x - suc i) l) in
        let q : n ≡ suc i + (n - suc i) = omega arith in
        let p : n * shape.width ≡ suc i * shape.width + (n - suc i) * shape.width = ap (λ (k : ℕ). k * shape.width) q ∙ add-mul (suc i) (n - suc i) shape.width in
        let e : suc i * shape.width ≡ shape.width + i * shape.width = more i shape.width in
        let g : (n - suc i) * shape.width ≤ length (drop (suc i * shape.width) t) = rw length-drop (omega arith) in
        laid_as rows n t 1 n (omega arith) (omega arith)
        ∙ rw (
          take-rows n i t (omega arith),
          drop-rows n (suc i) t h,
          joined_append shape.flat (rows_of shape i t) (rows_of shape (n - suc i) (drop (suc i * shape.width) t)),
          joined_rows i t (omega arith),
          joined_rows (n - suc i) (drop (suc i * shape.width) t) g,
          one-mul,
        )

    -- the four as one
    pub lay-edited : (e : Edit A) (n : ℕ) (t : List ℕ) → RoomFor shape e n t → lay shape (edited e (rows_of shape n t)) n t ≡ edited_table shape e n t
    unfolding edited edited_table RoomFor
    lay-edited Edit.keep n t f = lay-keep n t f
    lay-edited (Edit.add a) n t f = lay-add a n t f
    lay-edited (Edit.take_out i) n t f = lay-take_out i n t f.0 f.1
    lay-edited (Edit.change i a) n t f = lay-change i a n t f.0 f.1
