-- Loops over the used rows of a table, once for every shape: what is left after i rows, one row more, and the end.
use Prim.Native.Nat.{ℕ, suc, ◌+◌, ◌-◌, ◌*◌, ◌≤◌, ◌<◌}
use mathlib.Core.Path.{◌≡◌, sym, ◌∙◌}
use mathlib.Core.Bool.{Bool, true, false, ◌&&◌}
use mathlib.Core.List.{List, [], ◌∷◌}
use native.Mathlib.Numerals.{add-one}
use native.Mathlib.Nat.{suc-mul, add-zero, sub-zero, zero-mul}
use native.Mathlib.Omega.{arith}
use lib.ListN.{get_or, take, drop}
use lib.Seq.{drop-drop, get_or-take, get_or-drop}
use Rattle.rules.specs.Lists.{index_of}
use Rattle.rules.specs.Tables.{Shape, rows_of}
use Rattle.tables.specs.Rows.{row_at}

-- each passes the test against what those before it left: the test is asked with what is carried, and then that moves on
unfoldable pub passes : {A S : Type 0} → (S → A → Bool) → (S → A → S) → S → List A → Bool
passes test next s [] = true
passes test next s (x ∷ xs) = test s x && passes test next (next s x) xs

module _ {A : Type 0} (shape : Shape A) where
  -- the rows from row i on
  abbrev pub rest : ℕ → ℕ → List ℕ → List A
  rest n i t = rows_of shape (n - i) (drop (i * shape.width) t)

  pub rest_all : (n : ℕ) (t : List ℕ) → rest n 0 t ≡ rows_of shape n t
  rest_all n t = rw (sub-zero, zero-mul)

  pub rest_step : (n i : ℕ) (t : List ℕ) → i < n → rest n i t ≡ row_at shape i t ∷ rest n (i + 1) t
  unfolding rows_of
  rest_step n i t h =
      let e : n - i ≡ suc (n - (i + 1)) = omega arith in
      rw (e, drop-drop shape.width (i * shape.width) t, ← suc-mul i shape.width, ← add-one i)

  pub rest_end : (n i : ℕ) (t : List ℕ) → n ≤ i → rest n i t ≡ []
  unfolding rows_of
  rest_end n i t h =
      let e : n - i ≡ 0 = omega arith in
      rw e

  -- ---- a test that carries something from row to row
  module _ {S : Type 0} (test : S → A → Bool) (next : S → A → S) (n : ℕ) (s : S) (i : ℕ) (t : List ℕ) where
    pub passes_fails : i < n → test s (row_at shape i t) ≡ false → passes test next s (rest n i t) ≡ false
    unfolding passes
    passes_fails h e = rw (rest_step n i t h, e)

    pub passes_goes : i < n → test s (row_at shape i t) ≡ true → passes test next s (rest n i t) ≡ passes test next (next s (row_at shape i t)) (rest n (i + 1) t)
    unfolding passes
    passes_goes h e = rw (rest_step n i t h, e)

    pub passes_end : n ≤ i → passes test next s (rest n i t) ≡ true
    unfolding passes
    passes_end h = rw (rest_end n i t h)

  -- ---- the first row that passes a test
  module _ (p : A → Bool) (n i : ℕ) (t : List ℕ) where
    pub index_here : i < n → p (row_at shape i t) ≡ true → index_of p (rest n i t) ≡ 0
    unfolding index_of
    index_here h e = rw (rest_step n i t h, e)

    pub index_later : i < n → p (row_at shape i t) ≡ false → index_of p (rest n i t) ≡ index_of p (rest n (i + 1) t) + 1
    unfolding index_of
    index_later h e = rw (rest_step n i t h, e) (sym (add-one (index_of p (rest n (i + 1) t))))

    pub index_end : n ≤ i → index_of p (rest n i t) ≡ 0
    unfolding index_of
    index_end h = rw (rest_end n i t h)

-- a number of row i is a number of the table
pub cell : (w i k : ℕ) (t : List ℕ) → k < w → get_or (take w (drop (i * w) t)) k 0 ≡ get_or t (i * w + k) 0
cell w i k t h = get_or-take w (drop (i * w) t) k 0 h ∙ get_or-drop (i * w) t k 0

pub cell0 : (w i : ℕ) (t : List ℕ) → 0 < w → get_or (take w (drop (i * w) t)) 0 0 ≡ get_or t (i * w) 0
cell0 w i t h = cell w i 0 t h ∙ rw add-zero
