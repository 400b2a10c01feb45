-- What carries the demands to the code is not empty: what three reads come to, and a chain of the first and a part of the second. All by computation.
use mathlib.Core.Path.{◌≡◌, refl}
use mathlib.Core.List.{[], ◌∷◌, ◌++◌}
use native.Mathlib.Omega.{arith}
use lib.ListN.{take, replicate}
use Rattle.promises.specs.Types.{Call}
use Rattle.rules.specs.Lists.{bytes}
use Rattle.rules.specs.State.{inbox_of, desk_of, empty_state}
use Rattle.rules.specs.Cases.{deposit}
use Rattle.rules.proofs.Compute.{compute}
use Rattle.pages.specs.Writing.{put_byte, put}
use Rattle.runner.specs.Machine.{start, held_with, fed, written, feeds, writes, unfinished, unfinished_text, at_end, closing, writes_all}
use Rattle.runner.specs.Kept.{RunSome}
use Rattle.promises.specs.Carried.{call_of, calls_of, calls_in, after, Begun, Chain}
use Rattle.promises.specs.Demand3Examples.{deposited}
use Rattle.promises.specs.CarriedExamples.{first_read, second_read, last_read, kept_as}

-- the first two lines are calls, and the third is none
pub calls-here : calls_in (first_read ++ second_read ++ last_read) ≡ deposit 1 3 500 2 ∷ Call.Send ∷ []
unfolding compute call_of calls_of
calls-here = refl

-- the deposit is in the machine's book from its line feed on
pub not_yet_here : inbox_of (after first_read).book ≡ []
unfolding compute start held_with fed feeds
not_yet_here = refl

pub held-here : inbox_of (after (first_read ++ second_read)).book ≡ deposited 1 3 500 2 ∷ []
unfolding compute start held_with fed feeds
held-here = refl

pub written-here : writes_all start (first_read ∷ second_read ∷ last_read ∷ []) ≡ bytes "1\t0\n2\t18\n3\t1\t1\nend\t1\t2\n"
unfolding compute start held_with fed written feeds writes unfinished unfinished_text at_end closing writes_all
written-here = refl

-- a chain: the first read is taken whole, and of the second 18 bytes, so that one line is answered and another is held; then the page is given out
reads_first : RunSome (kept_as start []) first_read 4 (kept_as (after first_read) [])
unfolding compute start held_with fed written feeds writes put_byte put kept_as
reads_first =
    record {
      machine = refl;
      page = refl;
      text = refl;
      within = omega arith;
      moves = record { within = omega arith; some = λ h r. omega arith };
    }

reads_second : RunSome (kept_as (after first_read) []) second_read 18 (kept_as (after (first_read ++ take 18 second_read)) (bytes "1\t0\n"))
unfolding compute start held_with fed written feeds writes put_byte put kept_as
reads_second =
    record {
      machine = refl;
      page = refl;
      text = refl;
      within = omega arith;
      moves = record { within = omega arith; some = λ h r. omega arith };
    }

pub chain-here : Chain (first_read ++ take 18 second_read) (bytes "1\t0\n") (kept_as (after (first_read ++ take 18 second_read)) [])
unfolding compute start kept_as
chain-here = Chain.gives (replicate 100 0) (Chain.reads second_read 18 (Chain.reads first_read 4 (Chain.begins begins-here) reads_first) reads_second)
  where
    begins-here : Begun (kept_as start [])
    begins-here = record { desk = desk_of empty_state; empty = refl; session = refl; upto = refl }
