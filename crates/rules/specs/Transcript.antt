-- Documents 01 and 02, the book runner: from all the bytes read to all the bytes written.
use Rattle.std.specs.Prelude.{Ok, Err, ℕ, ◌+◌, Bool, true, false, cond, List, [], ◌∷◌, ◌++◌, eqb, take}
use Rattle.rules.specs.Types.{Lot, Line, Refusal, Tally}
use Rattle.rules.specs.Limits.{most_lines}
use Rattle.rules.specs.Lists.{joined, bytes}
use Rattle.rules.specs.State.{Book, empty_book}
use Rattle.rules.specs.Replies.{told, if_done}
use Rattle.rules.specs.Answer.{Outcome, answer}
use Rattle.rules.specs.Lines.{line_feed, read_whole, unread, read_line, decimal, tabbed}

-- a line of the input: its bytes without the line feed, and whether that came
pub record InputLine : Type 0 where
  pub text : List ℕ
  pub finished : Bool

-- what is left at the end of the input is a line only if it has a byte
unfoldable pub last_line : List ℕ → List InputLine
last_line [] = []
last_line (b ∷ bs) = record { text = b ∷ bs; finished = false } ∷ []

-- the lines of an input of which the bytes before were read already and held no line feed
unfoldable pub lines_from : List ℕ → List ℕ → List InputLine
lines_from before [] = last_line before
lines_from before (b ∷ bs) = cond (eqb b line_feed) (record { text = before; finished = true } ∷ lines_from [] bs) (lines_from (before ++ (b ∷ [])) bs)

-- the book runner "stops after 100,000 lines"
unfoldable pub input_lines : List ℕ → List InputLine
input_lines input = take most_lines (lines_from [] input)

-- "An unfinished last line is Malformed."
unfoldable pub read_input : InputLine → Line
read_input l = cond l.finished (read_line l.text) (unread (read_whole l.text))

-- 1 Malformed, with the field that the line tells: it is none of the forms, and the book is as it was
unfoldable pub answer_line : Book → Line → Outcome
answer_line b (Ok c) = answer b c
answer_line b (Err e) = record { reply = told (Err (Refusal.Malformed e.0)); pieces = []; book = b }

-- "deposit number and amount for each piece"
abbrev pub piece_values : Lot → List ℕ
piece_values l = l.number.0 ∷ l.amount ∷ []

-- line number and reply number, then the values and the pieces, if any
unfoldable pub reply_text : ℕ → Outcome → List ℕ
reply_text n o = decimal n ++ tabbed (o.reply.number ∷ o.reply.values ++ joined piece_values o.pieces) ++ (line_feed ∷ [])

-- the tally with one reply more
unfoldable pub tallied : Tally → ℕ → Tally
tallied t n = if_done n (record { done = t.done + 1; other = t.other }) (record { done = t.done; other = t.other + 1 })

-- "Last comes `end`, the number of replies 0 and of other replies."
unfoldable pub end_text : Tally → List ℕ
end_text t = bytes "end" ++ tabbed (t.done ∷ t.other ∷ []) ++ (line_feed ∷ [])

-- what is written for these lines, the first of which has number n
unfoldable pub played : ℕ → Book → Tally → List InputLine → List ℕ
played n b t [] = end_text t
played n b t (l ∷ ls) =
    let o = answer_line b (read_input l) in
    reply_text n o ++ played (n + 1) o.book (tallied t o.reply.number) ls

unfoldable pub transcript : List ℕ → List ℕ
transcript input = played 1 empty_book (record { done = 0; other = 0 }) (input_lines input)
