-- A state laid into a book keeps the sizes of its tables.
use Prim.Native.Nat.{ℕ, ◌+◌, ◌-◌, ◌*◌, ◌≤◌, max}
use mathlib.Core.Path.{◌≡◌, sym, ap, ◌∙◌}
use mathlib.Core.Bool.{true}
use mathlib.Core.List.{List, [], ◌∷◌, ◌++◌}
use native.Mathlib.Nat.{add-mul, suc-mul, zero-mul}
use native.Mathlib.Omega.{arith}
use lib.ListN.{length, drop, replicate, length-append, length-drop, length-replicate}
use borrow.Author.Tests.{leb-true}
use Rattle.rules.specs.Lists.{joined}
use Rattle.rules.specs.Tables.{Shape, lay, deposit_shape, payment_shape, record_shape}
use Rattle.rules.specs.State.{State, Book, laid, payments}
use Rattle.rules.specs.Frame.{in_frame}
use Rattle.rules.proofs.Laying.{Sound}
use Rattle.rules.proofs.Shapes.{deposit_sound, payment_sound, record_sound}
use Rattle.rules.proofs.Tests.{ands-at}
use Rattle.promises.proofs.Framed.{Framed, Sized, sized}

-- ---- laying keeps a table's size
module _ {A : Type 0} (shape : Shape A) (sound : Sound shape) where
  -- so many rows are so many times the width
  length_joined : (rows : List A) → length (joined shape.flat rows) ≡ length rows * shape.width
  unfolding joined
  length_joined [] = sym (zero-mul shape.width)
  length_joined (r ∷ rows) = rw (length-append (shape.flat r) (joined shape.flat rows), sound.wide r, length_joined rows, suc-mul (length rows) shape.width) (omega arith)

  -- where the table has room for the rows before and after
  pub length-lay : (rows : List A) (n : ℕ) (t : List ℕ) → max n (length rows) * shape.width ≤ length t → length (lay shape rows n t) ≡ length t
  unfolding lay
  length-lay rows n t h =
      let e : max n (length rows) ≡ length rows + (n - length rows) = omega arith in
      let p : max n (length rows) * shape.width ≡ length rows * shape.width + (n - length rows) * shape.width =
      ap (λ (k : ℕ). k * shape.width) e ∙ add-mul (length rows) (n - length rows) shape.width in
      rw (
        length-append (joined shape.flat rows ++ replicate ((n - length rows) * shape.width) 0) (drop (max n (length rows) * shape.width) t),
        length-append (joined shape.flat rows) (replicate ((n - length rows) * shape.width) 0),
        length_joined rows,
        length-replicate {A = ℕ} ((n - length rows) * shape.width) 0,
        length-drop (max n (length rows) * shape.width) t,
      )
      (omega arith)

-- a book in frame with a framed state laid into it keeps its tables' sizes
pub sized_laid : (s : State) (b : Book) → in_frame b ≡ true → Framed s → Sized (laid s b)
unfolding laid in_frame
sized_laid s b h f =
    let z : Sized b = sized b h in
    let u : b.desk.counts.unclaimed ≤ 64 = leb-true b.desk.counts.unclaimed 64 (ands-at _ 3 h) in
    let p : b.desk.counts.payments ≤ 32 = leb-true b.desk.counts.payments 32 (ands-at _ 4 h) in
    let r : b.desk.counts.records ≤ 1024 = leb-true b.desk.counts.records 1024 (ands-at _ 5 h) in
    record {
      inbox_size = length-lay deposit_shape deposit_sound s.inbox b.desk.counts.unclaimed b.inbox (omega arith) ∙ z.inbox_size;
      outbox_size = length-lay payment_shape payment_sound (payments s.outside) b.desk.counts.payments b.outbox (omega arith) ∙ z.outbox_size;
      history_size = length-lay record_shape record_sound s.history b.desk.counts.records b.history (omega arith) ∙ z.history_size;
    }
