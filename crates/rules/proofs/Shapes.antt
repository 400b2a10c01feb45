-- The three shapes are sound, so the layout laws hold of every table; and a book's state is what was laid.
use Prim.Native.Nat.{ℕ, zero, suc, ◌+◌}
use mathlib.Core.Path.{◌≡◌, refl, sym}
use mathlib.Core.List.{List, [], ◌∷◌}
use native.Mathlib.Omega.{arith}
use lib.ListN.{length, get_or, drop, drop_of_length-le}
use lib.Seq.{drop-cons, take-append_seam, drop-append_seam}
use Rattle.rules.specs.Tables.{deposit_shape, payment_shape, record_shape}
use Rattle.rules.specs.State.{State, Book, view, desk_of, laid, payments}
use Rattle.rules.proofs.Laying.{Sound, rows-laid}

-- so many numbers of a row from place k on, each read at its place
unfoldable numbers_from : ℕ → ℕ → List ℕ → List ℕ
numbers_from k zero r = []
numbers_from k (suc n) r = get_or r k 0 ∷ numbers_from (suc k) n r

-- up to the row's end they are what it has from there on
numbers-left : (n k : ℕ) (r : List ℕ) → k + n ≡ length r → numbers_from k n r ≡ drop k r
unfolding numbers_from
numbers-left zero k r e = sym (drop_of_length-le r {i = k} (omega arith))
numbers-left (suc n) k r e = rw (drop-cons r k 0 (omega arith), numbers-left n (suc k) r (omega arith))

-- and all of them are the row
numbers_back : (n : ℕ) (r : List ℕ) → length r ≡ n → numbers_from 0 n r ≡ r
numbers_back n r e = numbers-left n 0 r (omega arith)

pub deposit_sound : Sound deposit_shape
unfolding numbers_from
deposit_sound = record { wide = λ a. refl; back = λ a. refl; forth = numbers_back deposit_shape.width }

pub payment_sound : Sound payment_shape
unfolding numbers_from
payment_sound = record { wide = λ a. refl; back = λ a. refl; forth = numbers_back payment_shape.width }

pub record_sound : Sound record_shape
unfolding numbers_from
record_sound = record { wide = λ a. refl; back = λ a. refl; forth = numbers_back record_shape.width }

-- the view of what was laid is the state that was laid
pub view-laid : (s : State) (b : Book) → view (laid s b) ≡ s
unfolding view laid desk_of
view-laid s b =
    rw (
      rows-laid deposit_shape deposit_sound s.inbox b.desk.counts.unclaimed b.inbox,
      rows-laid payment_shape payment_sound (payments s.outside) b.desk.counts.payments b.outbox,
      rows-laid record_shape record_sound s.history b.desk.counts.records b.history,
      take-append_seam s.outside.inflight s.outside.waiting,
      drop-append_seam s.outside.inflight s.outside.waiting,
    )
