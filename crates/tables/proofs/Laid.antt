-- What a writer leaves of a table is what is laid back into it, once for every shape of row: with one row more, or with one taken out.
use Prim.Native.Nat.{ℕ, suc, ◌+◌, ◌*◌, ◌≤◌, ◌<◌}
use mathlib.Core.Path.{◌≡◌, sym, ap, ◌∙◌}
use mathlib.Core.List.{List, [], ◌∷◌, ◌++◌}
use native.Mathlib.Nat.{suc-mul}
use lib.ListN.{length}
use borrow.Author.Tests.{le-leb, lt-ltb}
use Rattle.rules.specs.Tables.{Shape, Edit, rows_of, lay, edited, edited_table}
use Rattle.rules.proofs.Laying.{Sound, RoomFor, lay-edited}
use Rattle.tables.specs.Rows.{put_at, taken_out}

module _ {A : Type 0} (shape : Shape A) (sound : Sound shape) (n : ℕ) (t : List ℕ) where
  pub row_added : (a : A) → suc n * shape.width ≤ length t → lay shape (rows_of shape n t ++ (a ∷ [])) n t ≡ put_at (n * shape.width) (shape.flat a) t
  unfolding edited edited_table RoomFor put_at
  row_added a h =
      let e : n * shape.width + length (shape.flat a) ≡ suc n * shape.width = ap (λ (k : ℕ). n * shape.width + k) (sound.wide a) ∙ sym (suc-mul n shape.width) in
      rw (le-leb (n * shape.width + length (shape.flat a)) (length t) (rw e h)) (lay-edited shape sound (Edit.add a) n t h)

  pub row-taken : (i : ℕ) → i < n → n * shape.width ≤ length t → lay shape (edited (Edit.take_out i) (rows_of shape n t)) n t ≡ taken_out shape.width i n t
  unfolding edited_table RoomFor taken_out
  row-taken i h f = rw (le-leb (n * shape.width) (length t) f, lt-ltb i n h) (lay-edited shape sound (Edit.take_out i) n t (h, f))
