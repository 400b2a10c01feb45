-- Where the lines come from: an input is cut after each of its line feeds, and put together again it is the input.
use Prim.Native.Nat.{ℕ, suc}
use mathlib.Core.Path.{◌≡◌, refl, sym, ◌∙◌}
use mathlib.Core.Bool.{Bool, true, false, cond}
use mathlib.Core.List.{List, [], ◌∷◌, ◌++◌, append-nil}
use native.Mathlib.Nat.{zero-add}
use native.Mathlib.Omega.{arith}
use lib.Dec.{eqb}
use lib.ListN.{length}
use lib.Seq.{append_snoc}
use borrow.Author.Tests.{le-leb, eq-eqb, eqb-true, eqb-false, ne_eqb}
use Rattle.rules.specs.Lists.{all, those, joined}
use Rattle.rules.specs.Lines.{line_feed}
use Rattle.rules.specs.Transcript.{InputLine, last_line, lines_from}
use Rattle.promises.specs.Demand1.{line_feeds}
use Rattle.promises.specs.Promises.{CutInto}
use Rattle.promises.proofs.LineFeeds.{feeds-append}

-- ---- cutting the input
feeds-one : (b : ℕ) → eqb b line_feed ≡ false → line_feeds (b ∷ []) ≡ 0
unfolding line_feeds those
feeds-one b e = rw (ne_eqb line_feed b (λ q. eqb-false b line_feed e (sym q)))

-- what is left at the end
last-cut : (before : List ℕ) → line_feeds before ≡ 0 → CutInto before 0 (last_line before)
unfolding last_line joined all
last-cut [] h = record { whole = refl; no_feeds = refl; finished = refl; at_least = omega arith; at_most = omega arith; some_byte = refl }
last-cut (b ∷ bs) h =
    record {
      whole = rw (append-nil bs, append-nil bs);
      no_feeds = rw (eq-eqb (line_feeds (b ∷ bs)) 0 h);
      finished = refl;
      at_least = omega arith;
      at_most = omega arith;
      some_byte = rw (le-leb 1 (suc (length bs)) (omega arith));
    }

-- one finished line in front of others
first-cut : (before rest : List ℕ) (feeds : ℕ) (ls : List InputLine) → line_feeds before ≡ 0 → CutInto rest feeds ls
    → CutInto (before ++ (line_feed ∷ rest)) (suc feeds) (record { text = before; finished = true } ∷ ls)
unfolding joined all
first-cut before rest feeds ls h c =
    record {
      whole = rw c.whole (append_snoc before line_feed rest);
      no_feeds = rw (eq-eqb (line_feeds before) 0 h) c.no_feeds;
      finished = c.finished;
      at_least = omega (arith, c.at_least);
      at_most = omega (arith, c.at_most);
      some_byte = c.some_byte;
    }

-- the lines of which some bytes were read before, without a line feed
lines_cut : (before input : List ℕ) → line_feeds before ≡ 0 → CutInto (before ++ input) (line_feeds input) (lines_from before input)
unfolding lines_from
lines_cut before [] h = rw (append-nil before) (unfold line_feeds those in last-cut before h)
lines_cut before (b ∷ bs) h = go (eqb b line_feed) refl (lines_cut [] bs (unfold line_feeds those in refl)) (lines_cut (before ++ (b ∷ [])) bs)
  where
    go : (t : Bool) → eqb b line_feed ≡ t → CutInto bs (line_feeds bs) (lines_from [] bs)
        → (line_feeds (before ++ (b ∷ [])) ≡ 0 → CutInto (before ++ (b ∷ []) ++ bs) (line_feeds bs) (lines_from (before ++ (b ∷ [])) bs))
        → CutInto (before ++ (b ∷ bs)) (line_feeds (b ∷ bs)) (cond t (record { text = before; finished = true } ∷ lines_from [] bs) (lines_from (before ++ (b ∷ [])) bs))
    go true e c d = rw (eqb-true b line_feed e) (unfold line_feeds those in first-cut before bs (line_feeds bs) (lines_from [] bs) h c)
    go false e c d =
        let n : line_feeds (b ∷ []) ≡ 0 = feeds-one b e in
        let more : line_feeds (b ∷ bs) ≡ line_feeds bs = feeds-append (b ∷ []) bs ∙ rw (n, zero-add (line_feeds bs)) in
        rw (more, ← append_snoc before b bs) (d (feeds-append before (b ∷ []) ∙ rw (h, n)))

-- the lines of an input, cut right
pub cut : (input : List ℕ) → CutInto input (line_feeds input) (lines_from [] input)
cut input = lines_cut [] input (unfold line_feeds those in refl)
