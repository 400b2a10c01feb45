-- Where in a read the next line feed stands.
use Rattle.std.specs.Option.{unwrap_or}
use Rattle.std.proofs.Common.{Option, Some, None}
use Rattle.memchr.specs.Find.{IsFirstByte, is_byte}
use Prim.Native.Nat.{ℕ, zero, suc, ◌-◌, ◌≤◌, ◌<◌}
use mathlib.Core.Path.{◌≡◌, refl}
use mathlib.Core.Bool.{Bool, true, false, not, ◌&&◌}
use mathlib.Core.List.{List, [], ◌∷◌}
use native.Mathlib.Omega.{arith}
use lib.Dec.{eqb}
use lib.ListN.{length, get_or, take, drop, length-drop}
use lib.Seq.{take_all}
use borrow.Author.Tests.{eqb-true}
use Rattle.rules.specs.Lists.{all}
use Rattle.rules.specs.Lines.{line_feed}
use Rattle.runner.specs.Feeding.{no_feed, NextFeed}

-- no byte of the first n is a line feed
none_before : (s : List ℕ) (n : ℕ) → n ≤ length s → ((k : ℕ) → k < n → eqb (get_or s k 0) line_feed ≡ true → ⊥) → all no_feed (take n s) ≡ true
unfolding all
none_before s zero h f = refl
none_before [] (suc n) h f = absurd (omega (arith, h))
none_before (b ∷ s) (suc n) h f = go (eqb b line_feed) (f 0 (omega arith)) (none_before s n (omega arith) (λ k l e. f (suc k) (omega arith) e))
  where
    go : (t : Bool) → (t ≡ true → ⊥) → all no_feed (take n s) ≡ true → (not t && all no_feed (take n s)) ≡ true
    go true g e = absurd (g refl)
    go false g e = e

-- the place of the first line feed, and where there is none the end of the read
pub first_found : (s : List ℕ) (r : Option ℕ) → IsFirstByte (is_byte line_feed) s r → NextFeed (unwrap_or r (length s)) s
first_found s None h = record { within = omega arith; none = none_before s (length s) (omega arith) (λ k l e. h k (omega arith) l e); feed = λ m. absurd (omega (arith, m)) }
first_found s (Some k) h = record { within = let w = h.0.high in omega arith; none = none_before s k (let w = h.0.high in omega arith) (λ i l e. h.0.before i (omega arith) l e); feed = λ m. eqb-true _ line_feed h.1 }

-- a part from a place on, as the code takes it
pub from_on : (s : List ℕ) (i : ℕ) → take (length s - i) (drop i s) ≡ drop i s
from_on s i = take_all (length s - i) (drop i s) (rw (length-drop i s) (omega arith))
