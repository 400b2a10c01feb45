-- However the input is cut into reads, all that the machine writes, joined, is the transcript of all that was read.
use Prim.Native.Nat.{ℕ, suc, ◌+◌, ◌-◌, ◌≤◌, ◌<◌}
use mathlib.Core.Path.{◌≡◌, refl, sym, ap, ◌∙◌}
use mathlib.Core.Bool.{Bool, true, false}
use mathlib.Core.List.{List, [], ◌∷◌, ◌++◌, append_assoc, append-nil}
use native.Mathlib.Omega.{arith}
use lib.Dec.{ltb, eqb}
use lib.ListN.{length, take, length-append}
use lib.Seq.{take-nil, take_all, take-append-le, length-take-le}
use borrow.Author.Tests.{le-ltb, ltb-true, ltb-false, eqb-true}
use Rattle.rules.specs.Limits.{most_lines, most_held}
use Rattle.rules.specs.Lists.{joined}
use Rattle.rules.specs.Lines.{line_feed, read_line}
use Rattle.rules.specs.Transcript.{InputLine, last_line, lines_from, input_lines, read_input, reply_text, end_text, played, transcript}
use Rattle.lines.proofs.Held.{whole-held, line-held}
use Rattle.runner.specs.Machine.{Machine, start, stopped, held_with, outcome_for, after_line, holding, fed, written, feeds, writes, unfinished, unfinished_text, at_end, closing, writes_all}

-- ---- feeding in parts
pub feeds-append : (m : Machine) (xs ys : List ℕ) → feeds m (xs ++ ys) ≡ feeds (feeds m xs) ys
unfolding feeds
feeds-append m [] ys = refl
feeds-append m (x ∷ xs) ys = feeds-append (fed m x) xs ys

pub writes-append : (m : Machine) (xs ys : List ℕ) → writes m (xs ++ ys) ≡ writes m xs ++ writes (feeds m xs) ys
unfolding feeds writes
writes-append m [] ys = refl
writes-append m (x ∷ xs) ys = rw (writes-append (fed m x) xs ys, append_assoc)

-- ---- what is held of a line
-- of a line that came so far: its first 121 bytes
abbrev held_of : List ℕ → List ℕ
held_of before = take most_held before

held_more : (before : List ℕ) (b : ℕ) → held_with (held_of before) b ≡ held_of (before ++ (b ∷ []))
unfolding held_with
held_more before b = go (ltb (length before) most_held) refl
  where
    go : (t : Bool) → ltb (length before) most_held ≡ t → held_with (held_of before) b ≡ held_of (before ++ (b ∷ []))
    go true e =
        let h : length before < most_held = ltb-true (length before) most_held e in
        let l : length (before ++ (b ∷ [])) ≡ length before + 1 = length-append before (b ∷ []) in
        rw (take_all most_held before (omega arith), take_all most_held (before ++ (b ∷ [])) (omega arith), e)
    go false e =
        let h : most_held ≤ length before = ltb-false (length before) most_held e in
        let l : length (held_of before) ≡ most_held = length-take-le most_held before h in
        rw (le-ltb (length (held_of before)) most_held (omega arith)) (sym (take-append-le most_held before (b ∷ []) h))

-- the lines that are still to be answered
abbrev pub to_come : ℕ → ℕ
to_come n = suc most_lines - n

-- the machine holds what came of its line
pub record Holds (m : Machine) (before : List ℕ) : Type 0 where
  pub held : m.held ≡ held_of before

-- what is held after a byte
fed-feed : (m : Machine) → stopped m ≡ false → Holds (fed m line_feed) []
unfolding fed
fed-feed m s = record { held = rw s }

fed_byte : (m : Machine) (before : List ℕ) → Holds m before → stopped m ≡ false → (b : ℕ) → eqb b line_feed ≡ false → Holds (fed m b) (before ++ (b ∷ []))
unfolding fed
fed_byte m before h s b e = record { held = rw (s, e, h.held) (held_more before b) }

-- ---- the induction over bytes
-- what holds of every stopped machine, at the end of the input, and at a line feed and any other byte where it holds of the bytes after it, holds of every machine and every input
module _ (P : Machine → List ℕ → List ℕ → Type 0) (stop : (m : Machine) (before input : List ℕ) → stopped m ≡ true → P m before input)
    (end : (m : Machine) (before : List ℕ) → Holds m before → stopped m ≡ false → P m before [])
    (line : (m : Machine) (before bs : List ℕ) → Holds m before → stopped m ≡ false → P (fed m line_feed) [] bs → P m before (line_feed ∷ bs))
    (byte : (m : Machine) (before : List ℕ) (b : ℕ) (bs : List ℕ) → Holds m before → stopped m ≡ false → eqb b line_feed ≡ false → P (fed m b) (before ++ (b ∷ [])) bs → P m before (b ∷ bs)) where
  pub by_bytes : (m : Machine) (before input : List ℕ) → Holds m before → P m before input
  by_bytes m before [] h = go (stopped m) refl
    where
      go : (t : Bool) → stopped m ≡ t → P m before []
      go true s = stop m before [] s
      go false s = end m before h s
  by_bytes m before (b ∷ bs) h = go (stopped m) refl (by_bytes (fed m b) (before ++ (b ∷ [])) bs) (by_bytes (fed m b) [] bs)
    where
      Rest : List ℕ → Type 0
      Rest next = Holds (fed m b) next → P (fed m b) next bs

      going_on : stopped m ≡ false → (t : Bool) → eqb b line_feed ≡ t → Rest (before ++ (b ∷ [])) → Rest [] → P m before (b ∷ bs)
      going_on s true e more fresh =
          let q : b ≡ line_feed = eqb-true b line_feed e in
          let f : Holds (fed m b) [] = rw q (fed-feed m s) in
          rw q (line m before bs h s (rw q at (fresh f)))
      going_on s false e more fresh = byte m before b bs h s e (more (fed_byte m before h s b e))

      go : (t : Bool) → stopped m ≡ t → Rest (before ++ (b ∷ [])) → Rest [] → P m before (b ∷ bs)
      go true s more fresh = stop m before (b ∷ bs) s
      go false s more fresh = going_on s (eqb b line_feed) refl more fresh

-- ---- stopped: nothing more changes, and nothing more is written but the end
fed-stopped : (m : Machine) (b : ℕ) → stopped m ≡ true → fed m b ≡ m
unfolding fed
fed-stopped m b s = rw s

written-stopped : (m : Machine) (b : ℕ) → stopped m ≡ true → written m b ≡ []
unfolding written
written-stopped m b s = rw s

closing-stopped : (m : Machine) → stopped m ≡ true → closing m ≡ end_text m.tally
unfolding closing at_end
closing-stopped m s = rw s

pub feeds-stopped : (m : Machine) → stopped m ≡ true → (input : List ℕ) → feeds m input ≡ m
unfolding feeds
feeds-stopped m s [] = refl
feeds-stopped m s (b ∷ bs) = rw (fed-stopped m b s) (feeds-stopped m s bs)

pub writes-stopped : (m : Machine) → stopped m ≡ true → (input : List ℕ) → writes m input ≡ []
unfolding writes
writes-stopped m s [] = refl
writes-stopped m s (b ∷ bs) = rw (written-stopped m b s, fed-stopped m b s) (writes-stopped m s bs)

-- and no line is still to be answered; where it is not stopped, one fewer after each line
pub none-to_come : (m : Machine) → stopped m ≡ true → to_come m.line ≡ 0
none-to_come m s =
    let h : most_lines < m.line = ltb-true most_lines m.line s in
    omega arith

pub one_fewer : (m : Machine) → stopped m ≡ false → to_come m.line ≡ suc (to_come (m.line + 1))
one_fewer m s =
    let h : m.line ≤ most_lines = ltb-false most_lines m.line s in
    omega arith

-- ---- what a line feed and any other byte change
pub line-fed : (m : Machine) (before : List ℕ) → Holds m before → stopped m ≡ false → fed m line_feed ≡ after_line m (outcome_for m (read_line before))
unfolding fed
line-fed m before h s = rw (s, h.held, line-held before)

pub line-written : (m : Machine) (before : List ℕ) → Holds m before → stopped m ≡ false → written m line_feed ≡ reply_text m.line (outcome_for m (read_line before))
unfolding written
line-written m before h s = rw (s, h.held, line-held before)

pub byte_fed : (m : Machine) (b : ℕ) → stopped m ≡ false → eqb b line_feed ≡ false → fed m b ≡ holding m (held_with m.held b)
unfolding fed
byte_fed m b s e = rw (s, e)

pub byte_written : (m : Machine) (b : ℕ) → stopped m ≡ false → eqb b line_feed ≡ false → written m b ≡ []
unfolding written
byte_written m b s e = rw (s, e)

-- ---- what is written for the lines that a machine has before it
abbrev rest : Machine → List ℕ → List ℕ → List ℕ
rest m before input = played m.line m.book m.tally (take (to_come m.line) (lines_from before input))

abbrev Ends : Machine → List ℕ → List ℕ → Type 0
Ends m before input = writes m input ++ closing (feeds m input) ≡ rest m before input

ends_stopped : (m : Machine) (before input : List ℕ) → stopped m ≡ true → Ends m before input
unfolding played
ends_stopped m before input s = rw (writes-stopped m s input, feeds-stopped m s input, none-to_come m s) (closing-stopped m s)

ends_end : (m : Machine) (before : List ℕ) → Holds m before → stopped m ≡ false → Ends m before []
unfolding writes feeds closing at_end lines_from last_line
ends_end m before h s = rw (s, one_fewer m s) (go before m.held h.held)
  where
    go : (before held : List ℕ) → held ≡ held_of before
        → unfinished_text held m ++ end_text (unfinished held m).tally ≡ played m.line m.book m.tally (take (suc (to_come (m.line + 1))) (last_line before))
    go [] held e = rw e (unfold unfinished_text unfinished last_line played in refl)
    go (b ∷ bs) held e = rw e (unfold unfinished_text unfinished last_line played read_input in rw (whole-held (b ∷ bs), take-nil {A = InputLine} (to_come (m.line + 1))))

ends_line : (m : Machine) (before bs : List ℕ) → Holds m before → stopped m ≡ false → Ends (fed m line_feed) [] bs → Ends m before (line_feed ∷ bs)
unfolding writes feeds lines_from played read_input
ends_line m before bs h s ih =
    append_assoc (written m line_feed) (writes (fed m line_feed) bs) (closing (feeds (fed m line_feed) bs))
    ∙ ap (λ (x : List ℕ). written m line_feed ++ x) ih
    ∙ rw (line-written m before h s, line-fed m before h s, one_fewer m s)

ends_byte : (m : Machine) (before : List ℕ) (b : ℕ) (bs : List ℕ) → Holds m before → stopped m ≡ false → eqb b line_feed ≡ false → Ends (fed m b) (before ++ (b ∷ [])) bs → Ends m before (b ∷ bs)
unfolding writes feeds lines_from
ends_byte m before b bs h s e ih = rw (byte_written m b s e, e) (ih ∙ rw (byte_fed m b s e))

-- from any machine on: what it writes for an input, and at its end, is what the lines before it are answered
pub going : (m : Machine) (before input : List ℕ) → Holds m before → writes m input ++ closing (feeds m input) ≡ rest m before input
going = by_bytes Ends ends_stopped ends_end ends_line ends_byte

-- ---- the whole
pub start-holds : Holds start []
unfolding start
start-holds = record { held = refl }

pub machine-transcript : (input : List ℕ) → writes start input ++ closing (feeds start input) ≡ transcript input
unfolding start transcript input_lines
machine-transcript input = going start [] input start-holds

-- "stops after 100,000 lines": whatever else comes, the transcript is the same
pub stopped-transcript : (read more : List ℕ) → stopped (feeds start read) ≡ true → transcript (read ++ more) ≡ transcript read
stopped-transcript read more s =
    rw (← machine-transcript (read ++ more), ← machine-transcript read, writes-append start read more, feeds-append start read more, writes-stopped (feeds start read) s more, feeds-stopped (feeds start read) s more, append-nil (writes start read))

-- for every way to cut the input into reads
cut-from : (m : Machine) (reads : List (List ℕ)) → writes_all m reads ≡ writes m (joined (λ r. r) reads) ++ closing (feeds m (joined (λ r. r) reads))
unfolding writes_all joined writes feeds
cut-from m [] = refl
cut-from m (r ∷ rs) =
    rw (cut-from (feeds m r) rs, writes-append m r (joined (λ r. r) rs), feeds-append m r (joined (λ r. r) rs))
    (sym (append_assoc (writes m r) (writes (feeds m r) (joined (λ r. r) rs)) (closing (feeds (feeds m r) (joined (λ r. r) rs)))))

pub however_cut : (reads : List (List ℕ)) → writes_all start reads ≡ transcript (joined (λ r. r) reads)
however_cut reads = cut-from start reads ∙ machine-transcript (joined (λ r. r) reads)
