-- The code by its contracts: it begins at the machine's start, and a chain of reads stands at every point for the machine after the bytes that were read.
use Prim.Native.Nat.{ℕ, zero, suc, ◌+◌, ◌≤◌}
use mathlib.Core.Path.{◌≡◌, refl, sym, ap, ◌∙◌}
use mathlib.Core.Bool.{Bool, true, false, cond}
use mathlib.Core.List.{List, [], ◌∷◌, ◌++◌, append_assoc, append-nil}
use native.Mathlib.Omega.{arith}
use lib.Dec.{ltb, eqb}
use lib.ListN.{length, take, length-append}
use borrow.Author.Tests.{ltb-true, ltb-false, lt-ltb}
use Rattle.promises.specs.Types.{Tally}
use Rattle.rules.specs.Limits.{most_held, most_lines}
use Rattle.rules.specs.State.{empty_book}
use Rattle.rules.specs.Lines.{line_feed, read_line}
use Rattle.rules.specs.Transcript.{tallied, transcript}
use Rattle.pages.specs.Writing.{Page}
use Rattle.runner.specs.Machine.{Machine, Counted, start, stopped, held_with, outcome_for, after_line, holding, fed, feeds, writes, closing}
use Rattle.runner.specs.Kept.{Kept, text_of, on_page, RunSome, Closed}
use Rattle.runner.proofs.Cuts.{feeds-append, writes-append, machine-transcript, stopped-transcript}
use Rattle.promises.specs.Carried.{after, Begun, Ready, turned, Chain}
use Rattle.promises.specs.Promises.{Reached}
use Rattle.promises.proofs.CarriedBytes.{held-book, held-replies, written-begins}

-- ---- what a session is by its type, the machine is after any bytes
counted_more : (t : Tally) (line n : ℕ) → line ≤ most_lines → Counted t line → Counted (tallied t n) (line + 1)
unfolding tallied
counted_more t line zero l c = record { done = omega (arith, c.done); other = omega (arith, c.other); few = omega arith }
counted_more t line (suc n) l c = record { done = omega (arith, c.done); other = omega (arith, c.other); few = omega arith }

held_more : (before : List ℕ) (b : ℕ) → length before ≤ most_held → length (held_with before b) ≤ most_held
unfolding held_with
held_more before b h = go (ltb (length before) most_held) refl
  where
    go : (t : Bool) → ltb (length before) most_held ≡ t → length (cond t (before ++ (b ∷ [])) before) ≤ most_held
    go true e = omega (arith, length-append before (b ∷ []), ltb-true (length before) most_held e)
    go false e = h

ready-fed : (m : Machine) (b : ℕ) → Ready m → Ready (fed m b)
unfolding fed
ready-fed m b r = go (stopped m) refl (eqb b line_feed)
  where
    go : (t : Bool) → stopped m ≡ t → (u : Bool) → Ready (cond t m (cond u (after_line m (outcome_for m (read_line m.held))) (holding m (held_with m.held b))))
    go true s u = r
    go false s true =
        record { counted = counted_more m.tally m.line (outcome_for m (read_line m.held)).reply.number (ltb-false most_lines m.line s) r.counted; held = omega arith }
    go false s false = record { counted = r.counted; held = held_more m.held b r.held }

ready-feeds : (m : Machine) (bs : List ℕ) → Ready m → Ready (feeds m bs)
unfolding feeds
ready-feeds m [] r = r
ready-feeds m (b ∷ bs) r = ready-feeds (fed m b) bs (ready-fed m b r)

ready-after : (input : List ℕ) → Ready (after input)
unfolding start
ready-after input = ready-feeds start input (record { counted = record { done = omega arith; other = omega arith; few = omega arith }; held = omega arith })

-- ---- the chain
-- the code begins at the machine's start
pub begins-start : (k : Kept) → Begun k → k.machine ≡ start
unfolding start empty_book
begins-start k b = b.session ∙ rw b.empty

-- what is carried along the chain
record Along (read given : List ℕ) (k : Kept) : Type 0 where
  machine : k.machine ≡ after read
  text : given ++ on_page k ≡ writes start read
  within : k.page.upto ≤ length k.page.bytes

along_begins : (k : Kept) → Begun k → Along [] [] k
unfolding feeds writes
along_begins k b = record { machine = begins-start k b; text = rw b.upto; within = rw b.upto (omega arith) }

along_reads : (read given : List ℕ) (before left : Kept) (chunk : List ℕ) (next : ℕ) → Along read given before → RunSome before chunk next left → Along (read ++ take next chunk) given left
along_reads read given before left chunk next a r =
    record {
      machine = r.machine ∙ rw a.machine (sym (feeds-append start read (take next chunk)));
      text =
          rw (r.text, ← append_assoc given (on_page before) (writes before.machine (take next chunk)), a.text, a.machine)
          (sym (writes-append start read (take next chunk)));
      within = r.within;
    }

along_gives : (read given : List ℕ) (k : Kept) (out : List ℕ) → Along read given k → Along read (given ++ on_page k) (turned k out)
along_gives read given k out a = record { machine = a.machine; text = rw (append-nil (given ++ on_page k)) a.text; within = omega arith }

along : {read given : List ℕ} {k : Kept} → Chain read given k → Along read given k
along (Chain.begins {k = k} b) = along_begins k b
along (Chain.reads {read = read} {given = given} {before = before} {left = left} chunk next c r) = along_reads read given before left chunk next (along c) r
along (Chain.gives {read = read} {given = given} {k = k} out c) = along_gives read given k out (along c)

-- at the end of the input
closes : (read given : List ℕ) (k : Kept) → Along read given k → (left : Page) → Closed k.machine k.page left → given ++ text_of left ≡ transcript read
closes read given k a left c =
    rw (c.text, ← append_assoc given (on_page k) (closing k.machine), a.text, a.machine) (machine-transcript read)

pub reached : (read given : List ℕ) (k : Kept) → Chain read given k → Reached read given k
reached read given k c =
    let a : Along read given k = along c in
    record {
      machine = a.machine;
      book = ap (λ (m : Machine). m.book) a.machine ∙ held-book read;
      replies = a.text ∙ held-replies read;
      beginning = rw a.text (written-begins read);
      ready = rw a.machine (ready-after read);
      within = a.within;
      closed = closes read given k a;
      stops = λ l more. stopped-transcript read more (rw (← ap (λ (m : Machine). m.line) a.machine) (lt-ltb most_lines k.machine.line l));
    }
