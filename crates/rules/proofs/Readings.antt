-- The readings that look right, shown wrong: what the rules write for each session, by computation.
use mathlib.Core.Path.{◌≡◌, refl}
use mathlib.Core.List.{[], ◌∷◌, map}
use Rattle.rules.specs.Lists.{bytes}
use Rattle.rules.specs.Transcript.{transcript}
use Rattle.rules.specs.State.{empty_book}
use Rattle.rules.specs.Runs.{run}
use Rattle.rules.specs.Sheet.{accepted_deposits, unclaimed_sum, balances_sum, outbox_sum, settled_sum, BalanceSheet, chain_total}
use Rattle.rules.specs.Readings.{readings, unclaimed_and_queued}
use Rattle.rules.proofs.Compute.{compute}

pub readings-hold : map (λ r. transcript (bytes r.written)) readings ≡ map (λ r. bytes r.answered) readings
unfolding compute readings
readings-hold = refl

-- the five terms of the balance sheet, each with something in it
pub sheet_terms : accepted_deposits 3 empty_book unclaimed_and_queued
    ∷ unclaimed_sum 3 (run empty_book unclaimed_and_queued)
    ∷ balances_sum 3 (run empty_book unclaimed_and_queued)
    ∷ outbox_sum 3 (run empty_book unclaimed_and_queued)
    ∷ settled_sum 3 empty_book unclaimed_and_queued
    ∷ chain_total 3 empty_book unclaimed_and_queued
    ∷ []
    ≡ 800 ∷ 300 ∷ 350 ∷ 100 ∷ 50 ∷ 750 ∷ []
unfolding compute unclaimed_and_queued
sheet_terms = refl

pub sheet-holds : BalanceSheet 3 empty_book unclaimed_and_queued
unfolding compute unclaimed_and_queued
sheet-holds = refl
