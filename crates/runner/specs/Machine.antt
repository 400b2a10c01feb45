-- The book runner as a machine that is fed one byte at a time, so that it does not matter how the input is cut into reads.
use Rattle.std.specs.Prelude.{ℕ, ◌+◌, ◌-◌, ◌≤◌, ◌<◌, ◌≡◌, Bool, cond, List, [], ◌∷◌, ◌++◌, ltb, eqb, length, drop, replicate}
use Rattle.rules.specs.Types.{Line}
use Rattle.rules.specs.declared.answers.Tally.{Tally}
use Rattle.rules.specs.declared.desk.Desk.{Desk}
use Rattle.rules.specs.Limits.{most_held, most_lines}
use Rattle.rules.specs.State.{Book, desk_of, empty_state, empty_book}
use Rattle.rules.specs.Answer.{Outcome}
use Rattle.rules.specs.Lines.{line_feed, read_whole, unread, read_line}
use Rattle.rules.specs.Transcript.{answer_line, reply_text, tallied, end_text}

-- the book, the tally, the number of the line that comes next, and the bytes of it that came so far
pub record Machine : Type 0 where
  pub book : Book
  pub tally : Tally
  pub line : ℕ
  pub held : List ℕ

-- what a session keeps beside its book
pub record Progress : Type 0 where
  pub tally : Tally
  pub line : ℕ
  pub held : List ℕ

-- the machine of a session and its book
abbrev pub machine_with : Progress → Book → Machine
machine_with s b = record { book = b; tally = s.tally; line = s.line; held = s.held }

-- no count has passed the lines that were answered, so none can wrap
pub record Counted (tally : Tally) (line : ℕ) : Type 0 where
  pub done : tally.done < line
  pub other : tally.other < line
  pub few : line ≤ 100001

-- of a line no more bytes are held than tell its field
abbrev pub FewHeld : ℕ → Type 0
FewHeld n = n ≤ most_held

-- the buffer of the bytes that are held, the first so many of it: past them are zeros, so that they alone tell the whole of it
pub record HeldIn (bytes : List ℕ) (len : ℕ) : Type 0 where
  pub few : FewHeld len
  pub size : length bytes ≡ most_held
  pub rest : drop len bytes ≡ replicate (most_held - len) 0

-- the beginning: no line answered, no byte held, and the desk of the empty state
abbrev pub begun : Progress
begun = record { tally = record { done = 0; other = 0 }; line = 1; held = [] }

abbrev pub begun_desk : Desk
begun_desk = desk_of empty_state

unfoldable pub start : Machine
start = record { book = empty_book; tally = record { done = 0; other = 0 }; line = 1; held = [] }

-- the book runner "stops after 100,000 lines"
abbrev pub stopped : Machine → Bool
stopped m = ltb most_lines m.line

-- one byte more of a line. Of a line over 120 bytes no more than 121 are held: they tell the field of the whole line (crate lines, proofs/Held)
unfoldable pub held_with : List ℕ → ℕ → List ℕ
held_with before b = cond (ltb (length before) most_held) (before ++ (b ∷ [])) before

-- many bytes more of a line
unfoldable pub holds : List ℕ → List ℕ → List ℕ
holds before [] = before
holds before (b ∷ bs) = holds (held_with before b) bs

-- what a line is answered, and the machine after that
abbrev pub outcome_for : Machine → Line → Outcome
outcome_for m l = answer_line m.book l

abbrev pub after_line : Machine → Outcome → Machine
after_line m o = record { book = o.book; tally = tallied m.tally o.reply.number; line = m.line + 1; held = [] }

abbrev pub holding : Machine → List ℕ → Machine
holding m held = record { book = m.book; tally = m.tally; line = m.line; held = held }

-- the machine after a byte, and what it writes for it
unfoldable pub fed : Machine → ℕ → Machine
fed m b = cond (stopped m) m (cond (eqb b line_feed) (after_line m (outcome_for m (read_line m.held))) (holding m (held_with m.held b)))

unfoldable pub written : Machine → ℕ → List ℕ
written m b = cond (stopped m) [] (cond (eqb b line_feed) (reply_text m.line (outcome_for m (read_line m.held))) [])

-- after many bytes
unfoldable pub feeds : Machine → List ℕ → Machine
feeds m [] = m
feeds m (b ∷ bs) = feeds (fed m b) bs

unfoldable pub writes : Machine → List ℕ → List ℕ
writes m [] = []
writes m (b ∷ bs) = written m b ++ writes (fed m b) bs

-- at the end of the input: an unfinished last line is Malformed, and last comes `end`
unfoldable pub unfinished : List ℕ → Machine → Machine
unfinished [] m = m
unfinished (b ∷ bs) m = after_line m (outcome_for m (unread (read_whole (b ∷ bs))))

unfoldable pub unfinished_text : List ℕ → Machine → List ℕ
unfinished_text [] m = []
unfinished_text (b ∷ bs) m = reply_text m.line (outcome_for m (unread (read_whole (b ∷ bs))))

-- the machine at the very end, and what it writes there
unfoldable pub at_end : Machine → Machine
at_end m = cond (stopped m) m (unfinished m.held m)

unfoldable pub closing : Machine → List ℕ
closing m = cond (stopped m) [] (unfinished_text m.held m) ++ end_text (at_end m).tally

-- all that is written for an input that comes in these reads, and at its end
unfoldable pub writes_all : Machine → List (List ℕ) → List ℕ
writes_all m [] = closing m
writes_all m (r ∷ rs) = writes m r ++ writes_all (feeds m r) rs
