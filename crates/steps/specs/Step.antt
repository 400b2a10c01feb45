-- One call answered: the book after it, the reply's number, and the page with the reply's line; and the text of an answer's line.
use Rattle.std.specs.Prelude.{ℕ, ◌≤◌, Bool, true, false, Ok, Err, List, [], ◌∷◌, ◌++◌, length, take}
use Rattle.rules.specs.declared.rows.Lot.{Lot}
use Rattle.rules.specs.declared.calls.Call.{Call}
use Rattle.rules.specs.Types.{Answer}
use Rattle.rules.specs.declared.answers.Done.{Done}
use Rattle.rules.specs.Limits.{history_rows}
use Rattle.rules.specs.Lists.{joined}
use Rattle.rules.specs.Lines.{line_feed, tabbed}
use Rattle.rules.specs.State.{Book}
use Rattle.rules.specs.Replies.{told}
use Rattle.rules.specs.Answer.{Outcome}
use Rattle.rules.specs.Transcript.{piece_values, reply_text}
use Rattle.pages.specs.Writing.{Page, put}
use Rattle.replies.specs.Writing.{reply_start}

pub record Replied : Type 0 where
  pub book : Book
  pub number : ℕ
  pub text : Page

-- what a step answers, and what it leaves
abbrev pub replied_of : ℕ → Book → Page → Replied
replied_of number book text = record { book = book; number = number; text = text }

-- what an outcome is to leave, as line n of what is written
abbrev pub replied : ℕ → Page → Outcome → Replied
replied n p o = record { book = o.book; number = o.reply.number; text = put p (reply_text n o) }

-- a trace: the one call that hands out pieces
abbrev pub is_trace : Call → Bool
is_trace (Call.Deposit d) = false
is_trace (Call.Claim c) = false
is_trace (Call.Transfer t) = false
is_trace (Call.Withdraw w) = false
is_trace Call.Send = false
is_trace (Call.Settle n) = false
is_trace (Call.Grant g) = false
is_trace (Call.Sign g) = false
is_trace (Call.Trace n) = true

-- the pieces that an answer hands out: of a done trace so many first rows of their table, of any other none
unfoldable pub handed : Answer → List Lot → List Lot
handed (Ok Done.Plain) ps = []
handed (Ok (Done.Sent x)) ps = []
handed (Ok (Done.Traced n)) ps = take n ps
handed (Err why) ps = []

-- an answer's line, with the pieces that lie in their table
unfoldable pub answer_text : ℕ → Answer → List Lot → List ℕ
answer_text n a ps = reply_start n (told a) ++ tabbed (joined piece_values (handed a ps)) ++ (line_feed ∷ [])

-- the two tables of a trace have a row for each of so many records, if a history can have as many
pub record HasTables (records : ℕ) (work pieces : List Lot) : Type 0 where
  pub rows : records ≤ history_rows → records ≤ length work
  pub places : records ≤ history_rows → records ≤ length pieces
