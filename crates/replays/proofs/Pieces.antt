-- What is handed out for a payment: the pieces that its record takes after the replay of those before it.
use Prim.Native.Nat.{ℕ, ◌≤◌, ◌<◌}
use mathlib.Core.Path.{◌≡◌, sym, ap, ◌∙◌}
use mathlib.Core.List.{List, [], map}
use native.Mathlib.Omega.{arith}
use lib.ListN.{length, take, replicate}
use Rattle.rules.specs.declared.rows.Record.{Record}
use Rattle.rules.specs.declared.rows.Lot.{Lot}
use Rattle.rules.specs.Tables.{rows_of, record_shape}
use Rattle.rules.specs.Lots.{no_lot, of_member, trace_from}
use Rattle.rules.specs.Answer.{in_front}
use Rattle.rules.proofs.Laying.{length-rows}
use Rattle.tables.specs.Rows.{row_at}
use Rattle.lots.specs.Traces.{before_payment}
use Rattle.lots.proofs.LotCounts.{pieces-count}
use Rattle.takings.specs.declared.work.Taking.{Taking}
use Rattle.takings.specs.Working.{CanTake, TakesFrom, appended}
use Rattle.replays.specs.Replaying.{CanReplayAll, ReplaysAll, CanTrace, Traces}
use Rattle.takings.proofs.Passing.{pieces_in_front}
use Rattle.replays.proofs.Payments.{place_in, pieces_there, few-lots}

module _ (history : List ℕ) (records n : ℕ) (work held out : List Lot) (can : CanTrace history records n work held out) (at : ℕ) (found : at ≡ length (before_payment n (rows_of record_shape records history))) where
  in_place : at < records
  in_place = rw found (place_in history records n can.paid)

  -- the records before the payment can be replayed
  pub can_replay-all : CanReplayAll at work held
  can_replay-all = record { few = omega (arith, in_place, can.few); room = omega (arith, in_place, can.room); scratch = omega (arith, in_place, can.scratch) }

  -- ---- after the replay and the taking
  module _ (used : ℕ) (work₁ held₁ : List Lot) (wide : length work₁ ≡ length work) (long : length held₁ ≡ length held) (a : ReplaysAll at history used work₁) where
    few-here : used ≤ at
    few-here = few-lots history at used work₁ a

    pub can_take-here : CanTake used work₁ held₁
    can_take-here =
        record {
          few = omega (arith, few-here, in_place, can.few);
          room = rw wide (omega (arith, few-here, in_place, can.room));
          scratch = rw long (omega (arith, few-here, in_place, can.scratch));
        }

    module _ (r : Record) (e : r ≡ row_at record_shape at history) (t : Taking) (work₂ held₂ : List Lot) (p : TakesFrom r.first r.asset r.amount used work₁ t work₂ held₂) where
      ps : List Lot
      ps = trace_from [] n (rows_of record_shape records history)

      -- what was taken are the pieces
      taken_are : take t.taken held₂ ≡ ps
      unfolding ps
      taken_are = p.wait ∙ rw (a.lots, e, found) (sym (pieces_there history records n can.paid))

      counted : t.taken ≡ length ps
      counted = p.taken ∙ ap length (sym p.wait ∙ taken_are)

      few-pieces : t.taken ≤ records
      unfolding ps
      few-pieces = omega (arith, counted, pieces-count (rows_of record_shape records history) (record { 0 = n }), length-rows record_shape records history)

      pub traces : (laid cleared : List Lot) → laid ≡ appended 0 (map (of_member r.first) (take t.taken held₂)) out → length work₂ ≡ length work₁ → cleared ≡ replicate (length work₂) no_lot
          → Traces history records n work out t.taken cleared laid
      unfolding ps
      traces laid cleared l w c =
          record {
            counts = counted;
            clears = c ∙ ap (λ (k : ℕ). replicate k no_lot) (w ∙ wide);
            lays =
                l
                ∙ pieces_in_front r.first r.asset r.amount (take used work₁) held₂ out t.taken p.wait (omega (arith, few-pieces, can.places))
                ∙ ap (λ (k : List Lot). in_front k out) (sym p.wait ∙ taken_are);
          }
