-- Words for what carries the demands to the code: the calls that an input makes, and a chain of reads as the contracts of the book runner's functions have it. What is promised of them stands in Promises.
use Rattle.std.specs.Prelude.{ℕ, ◌≡◌, List, [], ◌∷◌, ◌++◌, length, take, Ok, Err}
use Rattle.promises.specs.Types.{Nonce, Lot, Desk, Call, Line, Answer}
use Rattle.rules.specs.Limits.{inbox_rows, outbox_rows, history_rows}
use Rattle.rules.specs.Lists.{those, joined}
use Rattle.rules.specs.Tables.{deposit_shape, payment_shape, record_shape}
use Rattle.rules.specs.State.{Book, blank}
use Rattle.rules.specs.Transcript.{InputLine, input_lines, read_input, transcript}
use Rattle.rules.specs.Answer.{answer, book_of, outcome_of, trace_answer}
use Rattle.history.specs.Tracing.{trace_outcome_of}
use Rattle.pages.specs.Writing.{page}
use Rattle.runner.specs.Machine.{Machine, Counted, FewHeld, machine_with, begun, begun_desk, start, feeds}
use Rattle.runner.specs.Kept.{Kept, on_page, RunSome}

-- ---- the calls of an input
-- the call that a line reads as; a Malformed line is none
unfoldable pub call_of : Line → List Call
call_of (Ok c) = c ∷ []
call_of (Err e) = []

-- the calls that these lines read as, in order
unfoldable pub calls_of : List InputLine → List Call
calls_of ls = joined (λ l. call_of (read_input l)) ls

-- the calls that these bytes make: those of the first 100,000 lines. A last line whose line feed has not come is Malformed, so it is none
abbrev pub calls_in : List ℕ → List Call
calls_in input = calls_of (input_lines input)

-- the lines whose line feed has come
unfoldable pub ended : List InputLine → List InputLine
ended ls = those (λ l. l.finished) ls

-- ---- the book runner as a machine (crate runner, specs/Machine)
-- the machine after these bytes, from the start
abbrev pub after : List ℕ → Machine
after input = feeds start input

-- the text is a beginning of the transcript of these bytes, whatever bytes come after them
abbrev pub Beginning : List ℕ → List ℕ → Type 0
Beginning input text = (more : List ℕ) → take (length text) (transcript (input ++ more)) ≡ text

-- ---- the book runner as code, by its contracts (crate runner, specs/Kept). What it keeps is a session and its book, which a contract sees together as a machine, and a page
-- a new session, as the contract of `Session::new` has it, beside its book
abbrev pub opened : Book → Machine
opened b = machine_with begun b

-- the beginning: the desk that `empty_desk` hands back, by its contract, and tables of zeros; a new session beside this book; and any page on which nothing is written
pub record Begun (k : Kept) : Type 0 where
  pub desk : Desk
  pub empty : desk ≡ begun_desk
  pub session : k.machine ≡ opened (book_of desk (blank deposit_shape inbox_rows) (blank payment_shape outbox_rows) (blank record_shape history_rows))
  pub upto : k.page.upto ≡ 0

-- what a session is by its type: no count has passed the lines that were answered, and at most 121 bytes are held
pub record Ready (m : Machine) : Type 0 where
  pub counted : Counted m.tally m.line
  pub held : FewHeld (length m.held)

-- the page is given out, and the same page or another is written from its beginning
abbrev pub turned : Kept → List ℕ → Kept
turned k out = record { machine = k.machine; page = page out 0 }

-- a chain of reads: `read` are the bytes that were taken so far, `given` are those that were given out. It begins; `run_some` is called, with any bytes and however far it came; the page is given out, at any time
pub data Chain : List ℕ → List ℕ → Kept → Type 0 where
  begins : {k : Kept} → Begun k → Chain [] [] k
  reads : {read given : List ℕ} {before left : Kept} (chunk : List ℕ) (next : ℕ) → Chain read given before → RunSome before chunk next left → Chain (read ++ take next chunk) given left
  gives : {read given : List ℕ} {k : Kept} (out : List ℕ) → Chain read given k → Chain read (given ++ on_page k) (turned k out)

-- calls one after the other, from some book on, as the library does them: one of the eight with the equation of its contract (crates inbox, ledger, outbox), a trace with that of its own (crate history), whatever two tables it is lent. None of these contracts asks for anything, so the call may be refused
pub data Steps : Book → List Call → Book → Type 0 where
  none : {b : Book} → Steps b [] b
  call : {b met left : Book} {cs : List Call} (c : Call) (a : Answer)
      → Steps b cs met → outcome_of a left ≡ answer met c
      → Steps b (cs ++ (c ∷ [])) left
  trace : {b met : Book} {cs : List Call} (n : Nonce) (work pieces workLeft piecesLeft : List Lot) (a : Answer)
      → Steps b cs met → trace_outcome_of a workLeft piecesLeft ≡ trace_answer met work pieces n
      → Steps b (cs ++ (Call.Trace n ∷ [])) met
