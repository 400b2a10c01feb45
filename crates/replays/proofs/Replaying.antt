-- One record's replay in the table of lots is the rules' replay, kind by kind, and never makes more than one lot more.
use Rattle.std.specs.Prelude.{Ok, Err}
use Prim.Native.Nat.{ℕ, ◌+◌, ◌≤◌}
use mathlib.Core.Path.{◌≡◌, sym, ap, ap₂, ◌∙◌}
use mathlib.Core.List.{List, [], ◌∷◌, ◌++◌, map}
use native.Mathlib.Omega.{arith}
use lib.ListN.{length, take, length-append, length-map}
use lib.Seq.{length-take-le}
use Rattle.rules.specs.declared.rows.Record.{Record}
use Rattle.rules.specs.declared.rows.Lot.{Lot}
use Rattle.rules.specs.declared.rows.Kind.{Kind}
use Rattle.rules.specs.History.{kind_of}
use Rattle.rules.specs.Lots.{of_member, taken_by, left_by, lot_of, lots_as}
use Rattle.lots.proofs.Taking.{takes, takes_count}
use Rattle.takings.specs.declared.work.Taking.{Taking}
use Rattle.takings.specs.Working.{CanTake, TakesFrom, appended}
use Rattle.replays.specs.Replaying.{CanReplay, Replays}
use Rattle.takings.proofs.Appending.{appended_front}
use Rattle.takings.proofs.Passing.{in_rows}

module _ (r : Record) (used : ℕ) (work held : List Lot) (can : CanReplay used work held) where
  -- as many lots lie in the used rows
  pub used_count : length (take used work) ≡ used
  used_count = length-take-le used work (omega (arith, can.room))

  pub can_take : CanTake used work held
  can_take = record { few = omega (arith, can.few); room = omega (arith, can.room); scratch = can.scratch }

  -- ---- after a taking
  module _ (t : Taking) (left taken : List Lot) (same : length left ≡ length work) (e : TakesFrom r.first r.asset r.amount used work t left taken) where
    few-taken : t.taken ≤ length taken
    few-taken = in_rows t.taken taken (ap length e.wait ∙ sym e.taken)

    -- a split makes one lot more
    pub few-after : t.kept + t.taken ≤ used + 1
    few-after = omega (arith, e.kept, e.taken, used_count, takes_count (takes r.first r.asset r.amount (take used work)))

    pub replays-withdrawal : kind_of r ≡ (Ok Kind.Withdrawal) → (after : List Lot) → after ≡ left → Replays r used work t.kept after
    unfolding lots_as
    replays-withdrawal k after f = record { lots = rw (f, k) e.stay; count = rw k e.kept }

    pub replays-transfer : kind_of r ≡ (Ok Kind.Transfer) → (after : List Lot) → after ≡ appended t.kept (map (of_member r.second) (take t.taken taken)) left → Replays r used work (t.kept + t.taken) after
    unfolding lots_as
    replays-transfer k after f =
        let ps : List Lot = map (of_member r.second) (take t.taken taken) in
        let n : length ps ≡ t.taken = length-map (take t.taken taken) (of_member r.second) ∙ length-take-le t.taken taken few-taken in
        record {
          lots =
              rw (f, k)
              (ap (λ (j : ℕ). take (t.kept + j) (appended t.kept ps left)) (sym n)
              ∙ appended_front t.kept left ps (omega (arith, n, few-after, same, can.room))
              ∙ ap₂ (λ (x y : List Lot). x ++ map (of_member r.second) y) e.stay e.wait);
          count =
              rw (k, length-append (left_by r (take used work)) (map (of_member r.second) (taken_by r (take used work))), length-map (taken_by r (take used work)) (of_member r.second))
              (omega (arith, e.kept, e.taken));
        }

  -- ---- the other kinds
  pub replays-claim : kind_of r ≡ (Ok Kind.Claim) → (after : List Lot) → after ≡ appended used (lot_of r ∷ []) work → Replays r used work (used + 1) after
  unfolding lots_as
  replays-claim k after f =
      record {
        lots = rw (f, k) (appended_front used work (lot_of r ∷ []) (omega (arith, can.room)));
        count = rw (k, length-append (take used work) (lot_of r ∷ [])) (omega (arith, used_count));
      }

  pub replays-grant : kind_of r ≡ (Ok Kind.Grant) → Replays r used work used work
  unfolding lots_as
  replays-grant k = record { lots = rw k; count = rw k (sym used_count) }

  pub replays-other : kind_of r ≡ (Err (record {})) → Replays r used work used work
  unfolding lots_as
  replays-other k = record { lots = rw k; count = rw k (sym used_count) }
