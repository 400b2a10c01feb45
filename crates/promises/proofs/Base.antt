-- What a refused call leaves, where every run starts, and the induction over runs that every promise uses.
use Rattle.std.specs.Prelude.{Ok}
use Prim.Native.Nat.{ℕ, zero, suc}
use mathlib.Core.Path.{◌≡◌, refl, ap}
use mathlib.Core.Logic.{◌≢◌}
use mathlib.Core.List.{List, [], ◌∷◌, ◌++◌, append_assoc, append-nil}
use Rattle.promises.specs.Types.{Desk, Call}
use Rattle.rules.specs.Tables.{rows_of}
use Rattle.rules.specs.State.{State, Book, view, desk_of, empty_state, empty_book, Empty}
use Rattle.rules.specs.Replies.{Reply, told, if_done}
use Rattle.rules.specs.Effects.{effect}
use Rattle.rules.specs.Answer.{done, reply_number, done_answer, pieces_of, book_of, answer}
use Rattle.rules.specs.Runs.{book_after, run, gather}
use Rattle.rules.specs.Facts.{Accepted}
use Rattle.rules.proofs.Accepts.{by_number, not_done, view-done}
use Rattle.promises.specs.Promises.{Unchanged}

-- a refused call leaves the book as found, and tells neither values nor pieces
pub refused-leaves : (b : Book) (c : Call) → reply_number b c ≢ 0 → Unchanged b (answer b c)
unfolding answer
refused-leaves b c h =
    record {
      book = not_done (reply_number b c) (done c b) b h;
      values = ap (λ (r : Reply). r.values) (not_done (reply_number b c) (told (Ok (done_answer (view b) c))) (record { number = reply_number b c; values = [] }) h);
      pieces = not_done (reply_number b c) (pieces_of (view b) c) [] h;
    }

-- an empty book has the empty state, whatever its unused rows hold
pub view_empty : (b : Book) → Empty b → view b ≡ empty_state
unfolding view desk_of empty_state rows_of
view_empty b e = ap (λ (d : Desk). view (book_of d b.inbox b.outbox b.history)) e.desk

-- the one that the book runner starts from is empty
pub blank_empty : Empty empty_book
unfolding empty_book
blank_empty = record { desk = refl; inbox = refl; outbox = refl; history = refl }

-- ---- the induction over runs
module _ {A B : Type 0} (f : Book → Call → List A) (g : Book → Call → List B) (P : List A → List B → Book → Type 0)
    (keeps : (xs : List A) (ys : List B) (b : Book) (c : Call) → Accepted b c → P xs ys b → P (xs ++ f b c) (ys ++ g b c) (done c b)) where
  -- one call, accepted or refused
  step_keeps : (xs : List A) (ys : List B) (b : Book) (c : Call) → P xs ys b
      → P (xs ++ if_done (reply_number b c) (f b c) []) (ys ++ if_done (reply_number b c) (g b c) []) (book_after b c)
  unfolding answer
  step_keeps xs ys b c p = go (reply_number b c) refl
    where
      go : (n : ℕ) → reply_number b c ≡ n → P (xs ++ if_done n (f b c) []) (ys ++ if_done n (g b c) []) (if_done n (done c b) b)
      go zero e = keeps xs ys b c (by_number b c e) p
      go (suc n) e = rw (append-nil xs, append-nil ys) p

  -- what every accepted call keeps, of two logs and the book, holds after every run from where it held
  keeps_from : (xs : List A) (ys : List B) (b : Book) (cs : List Call) → P xs ys b → P (xs ++ gather f b cs) (ys ++ gather g b cs) (run b cs)
  unfolding gather run
  keeps_from xs ys b [] p = rw (append-nil xs, append-nil ys) p
  keeps_from xs ys b (c ∷ cs) p =
      rw (
        ← append_assoc xs (if_done (reply_number b c) (f b c) []) (gather f (book_after b c) cs),
        ← append_assoc ys (if_done (reply_number b c) (g b c) []) (gather g (book_after b c) cs),
      )
      (keeps_from (xs ++ if_done (reply_number b c) (f b c) []) (ys ++ if_done (reply_number b c) (g b c) []) (book_after b c) cs (step_keeps xs ys b c p))

  -- from empty logs
  pub book_keeps : (b : Book) (cs : List Call) → P [] [] b → P (gather f b cs) (gather g b cs) (run b cs)
  book_keeps b cs p = keeps_from [] [] b cs p

-- a fact that a run keeps is a fact of the state: what every accepted call's effect keeps, of two logs and the state
pub run_keeps : {A B : Type 0} (f : Book → Call → List A) (g : Book → Call → List B) (P : List A → List B → State → Type 0)
    → ((xs : List A) (ys : List B) (b : Book) (c : Call) → Accepted b c → P xs ys (view b) → P (xs ++ f b c) (ys ++ g b c) (effect c (view b)))
    → (b : Book) (cs : List Call) → P [] [] (view b) → P (gather f b cs) (gather g b cs) (view (run b cs))
run_keeps f g P keeps b cs p = book_keeps f g (λ xs ys b. P xs ys (view b)) (λ xs ys b c a p. rw (view-done b c) (keeps xs ys b c a p)) b cs p
