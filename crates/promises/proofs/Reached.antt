-- Every reached book is one that calls can start from: an empty book is, and an accepted call leaves one.
use Prim.Native.Nat.{ℕ, ◌-◌}
use mathlib.Core.Path.{◌≡◌, refl}
use mathlib.Core.Bool.{Bool, true, false, cond}
use mathlib.Core.List.{List, [], ◌∷◌, ◌++◌}
use lib.ListN.{get_or, replicate}
use Rattle.promises.specs.Types.{Call}
use Rattle.rules.specs.Limits.{is_asset}
use Rattle.rules.specs.Lists.{all, ands, sum_of, those}
use Rattle.rules.specs.Tables.{rows_of}
use Rattle.rules.specs.State.{State, Book, view, desk_of, first_holders, empty_state, Empty}
use Rattle.rules.specs.Effects.{effect, balance, total}
use Rattle.rules.specs.Frame.{in_frame, numbers_rise, nonces_rise, nonces_from}
use Rattle.rules.specs.History.{standing_from, replays, withdrawals}
use Rattle.rules.specs.Runs.{run, gather}
use Rattle.rules.specs.Sheet.{up_from}
use Rattle.rules.specs.Facts.{Accepted, Fit}
use Rattle.lots.specs.Traces.{standing_through}
use Rattle.promises.specs.Started.{Agreed, Started}
use Rattle.rules.proofs.Accepts.{view-done, accepted-frame, fit, roomy}
use Rattle.lots.proofs.Agreement.{zeros, zero-balance}
use Rattle.promises.proofs.Base.{view_empty, book_keeps}
use Rattle.promises.proofs.Framed.{Framed, framed, in_frame_lem}
use Rattle.promises.proofs.TableSizes.{sized_laid}
use Rattle.promises.proofs.Sheet.{balanced_kept}
use Rattle.promises.proofs.Lengths.{lengths-kept}
use Rattle.promises.proofs.Frame.{counts-kept, framed_kept}
use Rattle.promises.proofs.History.{replayed-kept}
use Rattle.rules.specs.Answer.{done}

-- an accepted call keeps it
pub agreed-kept : (b : Book) (c : Call) → Accepted b c → Agreed (view b) → Agreed (effect c (view b))
agreed-kept b c a g =
    let k : Fit (view b) c = fit b c a in
    let f : Framed (view b) = framed b (accepted-frame b c a) in
    record {
      lengths = lengths-kept (view b) c g.lengths;
      sheet = λ x. balanced_kept (view b) c k f g.lengths x (g.sheet x);
      counts = counts-kept (view b) c g.counts;
      replayed = replayed-kept (view b) c k f g.replayed;
    }

-- ---- an empty book
-- every balance, every total and every sum of balances is 0
pub total_zeros : (n a : ℕ) → total (replicate n 0) a ≡ 0
unfolding total
total_zeros n a = go (is_asset a)
  where
    go : (t : Bool) → ◌≡◌ {A = ℕ} (cond t (get_or (replicate n 0) (a - 1) 0) 0) 0
    go true = zeros n (a - 1)
    go false = refl

all_zeros : (n a : ℕ) (ms : List ℕ) → sum_of (λ m. balance (replicate n 0) m a) ms ≡ 0
unfolding sum_of
all_zeros n a [] = refl
all_zeros n a (m ∷ ms) = rw (zero-balance n m a, all_zeros n a ms)

-- the parts of the empty state agree
pub agreed_empty : Agreed empty_state
unfolding empty_state
agreed_empty =
    record {
      lengths = record { balances = refl; holders = unfold first_holders in refl; lifetime = refl; settled = refl };
      sheet = λ a. unfold sum_of in rw (total_zeros 8 a, all_zeros 128 a (up_from 1 16));
      counts = unfold withdrawals those in refl;
      replayed = unfold replays standing_through standing_from in record { passes = refl; comes_to = refl };
    }

-- an empty book is in frame: its desk is that of the empty state, and its tables have their sizes
frame_empty : (b : Book) → Empty b → in_frame b ≡ true
unfolding in_frame ands all view desk_of empty_state first_holders rows_of numbers_rise nonces_rise nonces_from
frame_empty b e = rw (e.desk, e.inbox, e.outbox, e.history)

-- ---- reached books
-- an empty book is started
pub started_empty : (b : Book) → Empty b → Started b
started_empty b e = record { frame = frame_empty b e; agreed = rw (view_empty b e) agreed_empty }

-- an accepted call leaves a started book
started-kept : (b : Book) (c : Call) → Accepted b c → Started b → Started (done c b)
started-kept b c a r =
    let g : Agreed (effect c (view b)) = agreed-kept b c a r.agreed in
    let f : Framed (effect c (view b)) = framed_kept (view b) c (fit b c a) (roomy b c a) (framed b r.frame) g.lengths g.sheet g.counts in
    record { frame = in_frame_lem (effect c (view b)) b f (sized_laid (effect c (view b)) b r.frame f); agreed = rw (view-done b c) g }

-- nothing is logged
none : Book → Call → List ℕ
none b c = []

-- every book reached from a started one is started
pub started-run : (b : Book) (cs : List Call) → Started b → Started (run b cs)
started-run b cs r = book_keeps none none (λ xs ys b. Started b) (λ xs ys b c a r. started-kept b c a r) b cs r

-- what accepted calls on started books keep, of two logs and the state, holds after every run from a started book
pub started_keeps : {A B : Type 0} (f : Book → Call → List A) (g : Book → Call → List B) (P : List A → List B → State → Type 0)
    → ((xs : List A) (ys : List B) (b : Book) (c : Call) → Accepted b c → Started b → P xs ys (view b) → P (xs ++ f b c) (ys ++ g b c) (effect c (view b)))
    → (b : Book) (cs : List Call) → Started b → P [] [] (view b) → P (gather f b cs) (gather g b cs) (view (run b cs))
started_keeps {A} {B} f g P keeps b cs r p = (book_keeps f g Q step b cs (r, p)).1
  where
    Q : List A → List B → Book → Type 0
    Q xs ys b = Started b × P xs ys (view b)

    step : (xs : List A) (ys : List B) (b : Book) (c : Call) → Accepted b c → Q xs ys b → Q (xs ++ f b c) (ys ++ g b c) (done c b)
    step xs ys b c a q = (started-kept b c a q.0, rw (view-done b c) (keeps xs ys b c a q.0 q.1))
