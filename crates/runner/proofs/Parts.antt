-- A part of a read fed at once: bytes that hold no line feed are held, and write nothing; a line feed has the line answered.
use Prim.Native.Nat.{ℕ, zero, suc, ◌+◌, ◌-◌, ◌≤◌, ◌<◌}
use mathlib.Core.Path.{◌≡◌, refl, sym, ap, ◌∙◌}
use mathlib.Core.Bool.{Bool, true, false, not, ◌&&◌, false≢true}
use mathlib.Core.List.{List, [], ◌∷◌, ◌++◌, append-nil}
use native.Mathlib.Numerals.{add-one}
use native.Mathlib.Omega.{arith}
use lib.Dec.{eqb}
use lib.ListN.{length, take, drop, length-append, length-drop}
use lib.Seq.{take-suc, take-add, take_all}
use borrow.Author.Tests.{le-ltb, ltb-false}
use Rattle.rules.specs.Limits.{most_lines}
use Rattle.rules.specs.Lists.{all}
use Rattle.rules.specs.Lines.{line_feed, read_line}
use Rattle.rules.specs.Answer.{Outcome}
use Rattle.rules.specs.Transcript.{reply_text}
use Rattle.pages.specs.Writing.{Page, put}
use Rattle.pages.proofs.PageLaws.{put-nothing, put_then, put_whole}
use Rattle.runner.specs.Machine.{Machine, stopped, held_with, holds, outcome_for, after_line, holding, fed, written, feeds, writes}
use Rattle.runner.specs.Feeding.{no_feed, NextFeed, FeedsLine}
use Rattle.runner.specs.Kept.{kept, RunSome}
use Rattle.runner.proofs.Cuts.{feeds-append, writes-append, feeds-stopped, writes-stopped}
use Rattle.runner.proofs.Feeds.{from_on}
use Rattle.runner.proofs.Room.{line_fits}

-- ---- bytes without a line feed
part_both : (m : Machine) (bs : List ℕ) → m.line ≤ most_lines → all no_feed bs ≡ true → (feeds m bs ≡ holding m (holds m.held bs)) × (writes m bs ≡ [])
unfolding feeds writes holds all fed written
part_both m [] s e = (refl, refl)
part_both m (b ∷ bs) s e = go (eqb b line_feed) refl e (λ g. part_both (holding m (held_with m.held b)) bs s g)
  where
    go : (t : Bool) → eqb b line_feed ≡ t → not t && all no_feed bs ≡ true → (all no_feed bs ≡ true → (feeds (holding m (held_with m.held b)) bs ≡ holding m (holds (held_with m.held b) bs)) × (writes (holding m (held_with m.held b)) bs ≡ []))
        → (feeds (fed m b) bs ≡ holding m (holds (held_with m.held b) bs)) × (written m b ++ writes (fed m b) bs ≡ [])
    go false q g f =
        let r = f g in
        let l = le-ltb most_lines m.line s in
        (rw (l, q) r.0, rw (l, q) r.1)
    go true q g f = absurd (false≢true g)

-- ---- one turn of `run_some`
module _ (m : Machine) (p : Page) (rest : List ℕ) where
  -- "stops after 100,000 lines": the rest of the read is passed over
  pub turn_stopped : 0 < length rest → stopped m ≡ true → FeedsLine m p rest (length rest) m p
  turn_stopped some s =
      let w : writes m (take (length rest) rest) ≡ [] = writes-stopped m s (take (length rest) rest) in
      record {
        some = some;
        within = omega arith;
        machine = sym (feeds-stopped m s (take (length rest) rest));
        page = rw w (put-nothing p);
        short = rw w (omega arith);
      }

  -- a read that ends within a line: all that is left of it is held
  pub turn_held : (n : ℕ) → 0 < length rest → stopped m ≡ false → NextFeed n rest → n ≡ length rest → (left : Machine) → left ≡ holding m (holds m.held rest) → FeedsLine m p rest n left p
  turn_held n some s f whole left e =
      let few : m.line ≤ most_lines = ltb-false most_lines m.line s in
      let t : take n rest ≡ rest = take_all n rest (omega arith) in
      let b = part_both m rest few (rw t at f.none) in
      record {
        some = omega arith;
        within = f.within;
        machine = rw t (e ∙ sym b.0);
        page = rw (t, b.1) (put-nothing p);
        short = rw (t, b.1) (omega arith);
      }

  -- a line that ends in this read: its last part and the line feed are fed, and it is answered
  abbrev line_out : ℕ → Outcome
  line_out n = outcome_for m (read_line (holds m.held (take n rest)))

  pub turn_line : (n : ℕ) → stopped m ≡ false → NextFeed n rest → (n ≡ length rest → ⊥) → (left : Machine) (after : Page) → left ≡ after_line m (line_out n) → after ≡ put p (reply_text m.line (line_out n))
      → FeedsLine m p rest (n + 1) left after
  unfolding feeds writes fed written
  turn_line n s f more left after e g =
      let here : n < length rest = omega (arith, f.within, more) in
      let few : m.line ≤ most_lines = ltb-false most_lines m.line s in
      let b = part_both m (take n rest) few f.none in
      let t : take (n + 1) rest ≡ take n rest ++ (line_feed ∷ []) = rw (add-one n) (take-suc rest n 0 here) ∙ ap (λ (x : ℕ). take n rest ++ (x ∷ [])) (f.feed here) in
      let fs : feeds m (take (n + 1) rest) ≡ after_line m (line_out n) = rw (t, feeds-append m (take n rest) (line_feed ∷ []), b.0, s) refl in
      let ws : writes m (take (n + 1) rest) ≡ reply_text m.line (line_out n) = rw (t, writes-append m (take n rest) (line_feed ∷ []), b.0, b.1, s) (append-nil (reply_text m.line (line_out n))) in
      let l = line_fits m.line m.book (read_line (holds m.held (take n rest))) in
      record {
        some = omega arith;
        within = omega arith;
        machine = e ∙ sym fs;
        page = g ∙ ap (put p) (sym ws);
        short = rw ws (omega arith);
      }

-- ---- how far `run_some` has come: some bytes of the read are fed, and what they write stands whole on the page
pub record SoFar (m : Machine) (p : Page) (chunk : List ℕ) (k : ℕ) (left : Machine) (after : Page) : Type 0 where
  pub within : k ≤ length chunk
  pub machine : left ≡ feeds m (take k chunk)
  pub page : after ≡ put p (writes m (take k chunk))
  pub fits : p.upto + length (writes m (take k chunk)) ≤ length p.bytes

module _ (m : Machine) (p : Page) (chunk : List ℕ) where
  pub so_begun : p.upto ≤ length p.bytes → SoFar m p chunk 0 m p
  unfolding feeds writes
  so_begun h = record { within = omega arith; machine = refl; page = put-nothing p; fits = omega arith }

  -- one turn more, where there was room for it
  pub so_more : (k n : ℕ) (m' m'' : Machine) (p' p'' : Page) → SoFar m p chunk k m' p' → 45000 ≤ length p'.bytes - p'.upto → FeedsLine m' p' (take (length chunk - k) (drop k chunk)) n m'' p'' → SoFar m p chunk (k + n) m'' p''
  so_more k n m' m'' p' p'' s room f₀ =
      let f = rw (from_on chunk k) at f₀ in
      let l = length-drop k chunk in
      let w : writes m (take (k + n) chunk) ≡ writes m (take k chunk) ++ writes m' (take n (drop k chunk)) =
      rw (take-add k n chunk, writes-append m (take k chunk) (take n (drop k chunk)), ← s.machine) refl in
      let (at, _, long) = put_whole p.bytes p.upto (writes m (take k chunk)) p'.bytes p'.upto s.page s.fits in
      let both = length-append (writes m (take k chunk)) (writes m' (take n (drop k chunk))) in
      record {
        within = omega (arith, l, s.within, f.within);
        machine = rw (take-add k n chunk, feeds-append m (take k chunk) (take n (drop k chunk)), ← s.machine) f.machine;
        page = rw w (put_then p (writes m (take k chunk)) (writes m' (take n (drop k chunk))) s.page f.page);
        fits = rw w (omega (arith, at, long, both, room, s.fits, f.short));
      }

  -- the contract, wherever it stops
  stops : (k : ℕ) (m' : Machine) (p' : Page) → SoFar m p chunk k m' p' → (0 < length chunk → 45000 ≤ length p.bytes - p.upto → 0 < k) → RunSome (kept m p) chunk k (kept m' p')
  stops k m' p' s some =
      let (at, text, long) = put_whole p.bytes p.upto (writes m (take k chunk)) p'.bytes p'.upto s.page s.fits in
      record { machine = s.machine; page = s.page; text = text; within = omega (arith, at, long, s.fits); moves = record { within = s.within; some = some } }

  -- where the read ends
  pub so_ended : (k : ℕ) (m' : Machine) (p' : Page) → SoFar m p chunk k m' p' → length chunk ≤ k → RunSome (kept m p) chunk k (kept m' p')
  so_ended k m' p' s end = stops k m' p' s (λ some room. omega arith)

  -- and where the page has no room for more: there was room, so some bytes were fed
  pub so_full : (k : ℕ) (m' : Machine) (p' : Page) → SoFar m p chunk k m' p' → length p'.bytes - p'.upto < 45000 → RunSome (kept m p) chunk k (kept m' p')
  unfolding writes put
  so_full k m' p' s full = stops k m' p' s (some k s)
    where
      some : (n : ℕ) → SoFar m p chunk n m' p' → 0 < length chunk → 45000 ≤ length p.bytes - p.upto → 0 < n
      some zero t more room = absurd (let none : length p.bytes - p.upto < 45000 = rw t.page at full in omega (arith, none, room))
      some (suc n) t more room = omega arith
