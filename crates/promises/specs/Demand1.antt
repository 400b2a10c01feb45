-- Words for demand 1: the numbers that each call can get, what the lines of an input get, where the lines come from, and which of a line's fields read. What is promised of them stands in Promises.
use Rattle.std.specs.Prelude.{ℕ, ◌+◌, ◌≤◌, ◌<◌, ◌≡◌, Bool, true, false, not, ◌||◌, cond, List, [], ◌∷◌, ◌++◌, map, ltb, eqb, length, get_or}
use Rattle.promises.specs.Types.{Call}
use Rattle.rules.specs.Limits.{most_bytes}
use Rattle.rules.specs.Lists.{any, same, those}
use Rattle.rules.specs.State.{Book, empty_book}
use Rattle.rules.specs.Answer.{asked, Outcome}
use Rattle.rules.specs.Lines.{line_feed, reads_as_number, Form, forms}
use Rattle.rules.specs.Transcript.{InputLine, input_lines, read_input, answer_line, reply_text}

-- ---- reply numbers
-- the numbers that each call can get, as document 01's table and the calls' own fields have it
unfoldable pub possible : Call → List ℕ
possible (Call.Deposit d) = 0 ∷ 2 ∷ 3 ∷ 4 ∷ 6 ∷ 9 ∷ 10 ∷ 11 ∷ 12 ∷ []
possible (Call.Claim c) = 0 ∷ 2 ∷ 3 ∷ 4 ∷ 6 ∷ 13 ∷ 17 ∷ []
possible (Call.Transfer t) = 0 ∷ 2 ∷ 3 ∷ 4 ∷ 6 ∷ 8 ∷ 14 ∷ 17 ∷ []
possible (Call.Withdraw w) = 0 ∷ 2 ∷ 3 ∷ 4 ∷ 6 ∷ 7 ∷ 14 ∷ 16 ∷ 17 ∷ []
possible Call.Send = 0 ∷ 2 ∷ 18 ∷ []
possible (Call.Settle n) = 0 ∷ 2 ∷ 19 ∷ []
possible (Call.Grant g) = 0 ∷ 2 ∷ 3 ∷ 5 ∷ 8 ∷ 15 ∷ 17 ∷ []
possible (Call.Sign g) = 0 ∷ 2 ∷ 3 ∷ 5 ∷ 15 ∷ []
possible (Call.Trace n) = 0 ∷ 2 ∷ 20 ∷ 21 ∷ []

-- the number is one of these
abbrev pub is_one_of : ℕ → List ℕ → Bool
is_one_of n ns = any (eqb n) ns

-- the refusals that apply to a call on a book, by their numbers
abbrev pub applying : Book → Call → List ℕ
applying b c = map (λ (r : ℕ × Bool). r.0) (those (λ (r : ℕ × Bool). r.1) (asked b c))

-- ---- lines
-- what each of these lines gets, in order, each from the book that the lines before it left
unfoldable pub outcomes : Book → List InputLine → List Outcome
outcomes b [] = []
outcomes b (l ∷ ls) = answer_line b (read_input l) ∷ outcomes (answer_line b (read_input l)).book ls

-- the reply texts one after the other, numbered from n on
unfoldable pub reply_texts : ℕ → List Outcome → List ℕ
reply_texts n [] = []
reply_texts n (o ∷ os) = reply_text n o ++ reply_texts (n + 1) os

-- how many of the replies are 0, and how many are not
unfoldable pub done_count : List Outcome → ℕ
done_count os = length (those (λ o. eqb o.reply.number 0) os)

unfoldable pub other_count : List Outcome → ℕ
other_count os = length (those (λ o. not (eqb o.reply.number 0)) os)

-- what the book runner's lines get
abbrev pub answered : List ℕ → List Outcome
answered input = outcomes empty_book (input_lines input)

-- how many line feeds stand in a text
unfoldable pub line_feeds : List ℕ → ℕ
line_feeds s = length (those (eqb line_feed) s)

-- ---- where the lines come from
-- the bytes that a line was read from
abbrev pub as_read : InputLine → List ℕ
as_read l = l.text ++ cond l.finished (line_feed ∷ []) []

-- ---- the fields of a line, as they are told: "the word is field 0", the first number field 1
-- field k; where the line has none, an empty list, so each use for a number says that k is below their count
abbrev pub field_at : List (List ℕ) → ℕ → List ℕ
field_at fs k = get_or fs k []

abbrev pub is_empty : List ℕ → Bool
is_empty f = eqb (length f) 0

-- whether a word is one of the nine, and how many numbers it wants (0 where it is none of them)
unfoldable pub is_word : List ℕ → Bool
is_word w = any (λ f. same f.word w) forms

unfoldable pub wanted_by : List Form → List ℕ → ℕ
wanted_by [] w = 0
wanted_by (f ∷ fs) w = cond (same f.word w) f.count (wanted_by fs w)

-- how many numbers a line's word wants
abbrev pub count_of : List (List ℕ) → ℕ
count_of fs = wanted_by forms (field_at fs 0)

-- field k of a line reads: the word is one of the nine; a number is wanted, is there, and is a number
pub data FieldReads (fs : List (List ℕ)) (k : ℕ) : Type 0 where
  word : k ≡ 0 → is_word (field_at fs 0) ≡ true → FieldReads fs k
  number : 1 ≤ k → k ≤ count_of fs → k < length fs → reads_as_number (field_at fs k) ≡ true → FieldReads fs k

-- it does not: the word is unknown; a number that is wanted is not there, or is no number (an empty field is none); or the field is one too many
pub data FieldFails (fs : List (List ℕ)) (k : ℕ) : Type 0 where
  unknown_word : k ≡ 0 → is_word (field_at fs 0) ≡ false → FieldFails fs k
  not_there : 1 ≤ k → k ≤ count_of fs → length fs ≤ k → FieldFails fs k
  no_number : 1 ≤ k → k ≤ count_of fs → k < length fs → reads_as_number (field_at fs k) ≡ false → FieldFails fs k
  one_too_many : k ≡ count_of fs + 1 → k < length fs → FieldFails fs k

-- a line has more than 120 bytes, or its line feed has not come
abbrev pub over_long_or_unfinished : InputLine → Bool
over_long_or_unfinished l = ltb most_bytes (length l.text) || not l.finished
