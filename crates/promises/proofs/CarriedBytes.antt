-- The machine, byte by byte: the book that it holds is the one that the calls lead to, and what it has written is the replies to the lines that were ended.
use Rattle.std.specs.Prelude.{Ok, Err}
use Prim.Native.Nat.{ℕ, zero, suc, ◌+◌}
use mathlib.Core.Path.{◌≡◌, refl, sym, ap, ◌∙◌}
use mathlib.Core.Bool.{true, false}
use mathlib.Core.List.{List, [], ◌∷◌, ◌++◌, append_assoc}
use lib.Dec.{eqb}
use lib.ListN.{length, take}
use lib.Seq.{take-nil, take_at}
use Rattle.promises.specs.Types.{Call, Line}
use Rattle.rules.specs.Lists.{those, joined}
use Rattle.rules.specs.State.{Book, empty_book}
use Rattle.rules.specs.Answer.{Outcome}
use Rattle.rules.specs.Runs.{book_after, run}
use Rattle.rules.specs.Lines.{line_feed, read_whole, unread}
use Rattle.rules.specs.Transcript.{InputLine, last_line, lines_from, input_lines, read_input, answer_line, transcript}
use Rattle.runner.specs.Machine.{Machine, start, stopped, fed, feeds, writes, closing}
use Rattle.runner.proofs.Cuts.{Holds, to_come, by_bytes, feeds-stopped, writes-stopped, none-to_come, one_fewer, line-fed, line-written, byte_fed, byte_written, start-holds, writes-append, machine-transcript}
use Rattle.promises.specs.Demand1.{outcomes, reply_texts}
use Rattle.promises.specs.Carried.{call_of, calls_of, calls_in, ended, after, Beginning}

-- ---- the calls of lines
pub run-append : (b : Book) (cs ds : List Call) → run b (cs ++ ds) ≡ run (run b cs) ds
unfolding run
run-append b [] ds = refl
run-append b (c ∷ cs) ds = run-append (book_after b c) cs ds

-- a line leaves the book that its call leaves, if it reads as one
line-run : (b : Book) (l : Line) → run b (call_of l) ≡ (answer_line b l).book
unfolding run call_of answer_line
line-run b (Ok c) = refl
line-run b (Err e) = refl

pub lines-run : (b : Book) (l : InputLine) (ls : List InputLine) → run b (calls_of (l ∷ ls)) ≡ run (answer_line b (read_input l)).book (calls_of ls)
unfolding calls_of joined
lines-run b l ls = rw (run-append b (call_of (read_input l)) (calls_of ls), line-run b (read_input l))

-- one that is not ended is no call, and among those that are ended it does not count
none-unread : (l : Line) → call_of (unread l) ≡ []
unfolding call_of unread
none-unread (Ok c) = refl
none-unread (Err e) = refl

last-calls : (k : ℕ) (before : List ℕ) → calls_of (take k (last_line before)) ≡ []
unfolding calls_of joined last_line read_input
last-calls zero before = refl
last-calls (suc k) [] = refl
last-calls (suc k) (b ∷ bs) = rw (take-nil {A = InputLine} k, none-unread (read_whole (b ∷ bs)))

last-ended : (k : ℕ) (before : List ℕ) → ended (take k (last_line before)) ≡ []
unfolding ended those last_line
last-ended zero before = refl
last-ended (suc k) [] = refl
last-ended (suc k) (b ∷ bs) = rw (take-nil {A = InputLine} k)

-- ---- the book
abbrev Booked : Machine → List ℕ → List ℕ → Type 0
Booked m before input = (feeds m input).book ≡ run m.book (calls_of (take (to_come m.line) (lines_from before input)))

booked_stopped : (m : Machine) (before input : List ℕ) → stopped m ≡ true → Booked m before input
unfolding calls_of joined run
booked_stopped m before input s = rw (feeds-stopped m s input, none-to_come m s)

booked_end : (m : Machine) (before : List ℕ) → Holds m before → stopped m ≡ false → Booked m before []
unfolding feeds lines_from run
booked_end m before h s = rw (last-calls (to_come m.line) before)

booked_line : (m : Machine) (before bs : List ℕ) → Holds m before → stopped m ≡ false → Booked (fed m line_feed) [] bs → Booked m before (line_feed ∷ bs)
unfolding feeds lines_from read_input
booked_line m before bs h s ih =
    ih ∙ rw (line-fed m before h s, one_fewer m s) (sym (lines-run m.book (record { text = before; finished = true }) (take (to_come (m.line + 1)) (lines_from [] bs))))

booked_byte : (m : Machine) (before : List ℕ) (b : ℕ) (bs : List ℕ) → Holds m before → stopped m ≡ false → eqb b line_feed ≡ false → Booked (fed m b) (before ++ (b ∷ [])) bs → Booked m before (b ∷ bs)
unfolding feeds lines_from
booked_byte m before b bs h s e ih = rw e (ih ∙ rw (byte_fed m b s e))

-- the heart: the book that the machine holds is the one that the calls so far lead to
pub held-book : (input : List ℕ) → (after input).book ≡ run empty_book (calls_in input)
unfolding start input_lines
held-book input = by_bytes Booked booked_stopped booked_end booked_line booked_byte start [] input start-holds

-- ---- what is written
abbrev Replied : Machine → List ℕ → List ℕ → Type 0
Replied m before input = writes m input ≡ reply_texts m.line (outcomes m.book (ended (take (to_come m.line) (lines_from before input))))

replied-stopped : (m : Machine) (before input : List ℕ) → stopped m ≡ true → Replied m before input
unfolding reply_texts outcomes ended those
replied-stopped m before input s = rw (writes-stopped m s input, none-to_come m s)

replied_end : (m : Machine) (before : List ℕ) → Holds m before → stopped m ≡ false → Replied m before []
unfolding writes lines_from reply_texts outcomes
replied_end m before h s = rw (last-ended (to_come m.line) before)

replied-line : (m : Machine) (before bs : List ℕ) → Holds m before → stopped m ≡ false → Replied (fed m line_feed) [] bs → Replied m before (line_feed ∷ bs)
unfolding writes lines_from reply_texts outcomes ended those read_input
replied-line m before bs h s ih = rw (ih, line-written m before h s, line-fed m before h s, one_fewer m s)

replied_byte : (m : Machine) (before : List ℕ) (b : ℕ) (bs : List ℕ) → Holds m before → stopped m ≡ false → eqb b line_feed ≡ false → Replied (fed m b) (before ++ (b ∷ [])) bs → Replied m before (b ∷ bs)
unfolding writes lines_from
replied_byte m before b bs h s e ih = rw (e, byte_written m b s e) (ih ∙ rw (byte_fed m b s e))

pub held-replies : (input : List ℕ) → writes start input ≡ reply_texts 1 (outcomes empty_book (ended (input_lines input)))
unfolding start input_lines
held-replies input = by_bytes Replied replied-stopped replied_end replied-line replied_byte start [] input start-holds

-- ---- each line
-- the lines after some lines are answered from the book that the calls of those lead to
pub outcomes-after : (b : Book) (before : List InputLine) (l : InputLine) → outcomes b (before ++ (l ∷ [])) ≡ outcomes b before ++ (answer_line (run b (calls_of before)) (read_input l) ∷ [])
unfolding outcomes
outcomes-after b [] l = unfold calls_of joined run in refl
outcomes-after b (x ∷ before) l =
    rw (lines-run b x before) (ap (λ (os : List Outcome). answer_line b (read_input x) ∷ os) (outcomes-after (answer_line b (read_input x)).book before l))

-- ---- what has been written
-- it stands, whatever bytes come next
pub written-begins : (input : List ℕ) → Beginning input (writes start input)
written-begins input more =
    let before : List ℕ = writes start input in
    let later : List ℕ = writes (after input) more ++ closing (after (input ++ more)) in
    let e : transcript (input ++ more) ≡ before ++ later =
    sym (machine-transcript (input ++ more)) ∙ rw (writes-append start input more) (append_assoc before (writes (after input) more) (closing (after (input ++ more)))) in
    rw e (take_at before later (length before) refl)
