-- What is promised, in the order of the demands, from top to bottom. Each promise is said in words and then exactly; the words that it cites are those of the rules (crate rules; what an accepted call rests on: its specs/Facts), of traces (crate lots), of the book runner (crates steps and runner), and of Demand1, Demand2, Started and Carried beside this page.
use Rattle.std.specs.Prelude.{ℕ, ◌+◌, ◌≤◌, ◌<◌, ◌≡◌, ◌≢◌, ◌↔◌, ◌⊎◌, true, false, not, ◌&&◌, ◌||◌, List, [], ◌∷◌, ◌++◌, map, leb, eqb, length, get_or, take, drop, replicate, Ok}
use Rattle.promises.specs.Types.{Nonce, Lot, Call, Line, Done}
use Rattle.rules.specs.Facts.{Accepted, Within, Fit, Room}
use Rattle.rules.specs.Limits.{member_count, asset_count, highest_field, most_lines, most_bytes}
use Rattle.rules.specs.Lists.{all, any, joined, those}
use Rattle.rules.specs.Tables.{edited_table, deposit_shape, payment_shape, record_shape}
use Rattle.rules.specs.State.{Book, Empty, view, desk_of, first_holders, empty_book}
use Rattle.rules.specs.Replies.{told, Reply}
use Rattle.rules.specs.Effects.{effect, edits, changes_nothing, balance, holder, total, oldest, records_of}
use Rattle.rules.specs.Frame.{in_frame}
use Rattle.rules.specs.History.{provenance_of, withdrawals, history_in_frame}
use Rattle.rules.specs.Lots.{no_lot, in_line}
use Rattle.rules.specs.Answer.{Outcome, answer, trace_answer, provenance_answer}
use Rattle.rules.specs.Runs.{run, accepted, deposits, sends, settlements, sent_after}
use Rattle.rules.specs.Sheet.{up_from, accepted_deposits, settled_sum, unclaimed_sum, balances_sum, outbox_sum, BalanceSheet, chain_total}
use Rattle.rules.specs.Views.{seen_outside, outside_view, seen_by, shown_to, member_view, asks, has_room}
use Rattle.rules.specs.Lines.{tab, fields, read_line, numbers_of, write_line, failing}
use Rattle.rules.specs.Transcript.{InputLine, lines_from, input_lines, read_input, answer_line, reply_text, end_text, transcript}
use Rattle.lots.specs.Traces.{worth, is_positive, coins, before_payment}
use Rattle.runner.specs.Machine.{start, writes, closing, writes_all}
use Rattle.pages.specs.Writing.{Page}
use Rattle.runner.specs.Kept.{Kept, book_in, text_of, on_page, Closed}
use Rattle.promises.specs.Demand1.{possible, is_one_of, applying, outcomes, reply_texts, done_count, other_count, answered, line_feeds, as_read, field_at, is_empty, count_of, FieldReads, FieldFails, over_long_or_unfinished}
use Rattle.promises.specs.Demand2.{holder_by, nonce_of, queued, send_calls, waiting_in, no_payment, claims, is_claimed, claims_lot, made, record_of, payment_by, traced, coins_in}
use Rattle.promises.specs.Started.{Started, Since}
use Rattle.promises.specs.Carried.{calls_of, calls_in, ended, after, Beginning, Ready, Chain, Steps}

-- ======== Demand 1. "Every call on every book, and every input line up to line 100,000, ends with an answer from the fixed table. The ledger checks for itself. A refused call changes no record, and an absent number is refused, never read as nought."

-- the number that a call on a book gets
pub record Numbered (b : Book) (c : Call) : Type 0 where
  -- it is one of those that document 01's table has for this call, none above 21
  pub one_of_its_own : is_one_of (answer b c).reply.number (possible c) ≡ true
  -- a refusal that is given applies
  pub applies : (answer b c).reply.number ≢ 0 → is_one_of (answer b c).reply.number (applying b c) ≡ true
  -- "Where several of a call's refusals apply, the smallest number is given": beside each that applies, the number is not 0 and not above it
  pub smallest : all (λ n. leb 1 (answer b c).reply.number && leb (answer b c).reply.number n) (applying b c) ≡ true

-- the book is as found, and neither values nor pieces are told
pub record Unchanged (b : Book) (o : Outcome) : Type 0 where
  pub book : o.book ≡ b
  pub values : o.reply.values ≡ []
  pub pieces : o.pieces ≡ []

-- what an accepted call leaves: its effect; said of the desk, the numbers after that effect; and said of each flat table, its one edit. Every other number of the table is as it was, those of the unused rows too
pub record Leaves (b : Book) (c : Call) : Type 0 where
  pub state : view (answer b c).book ≡ effect c (view b)
  pub desk : (answer b c).book.desk ≡ desk_of (effect c (view b))
  pub inbox : (answer b c).book.inbox ≡ edited_table deposit_shape (edits c (view b)).inbox b.desk.counts.unclaimed b.inbox
  pub outbox : (answer b c).book.outbox ≡ edited_table payment_shape (edits c (view b)).outbox b.desk.counts.payments b.outbox
  pub history : (answer b c).book.history ≡ edited_table record_shape (edits c (view b)).history b.desk.counts.records b.history

-- the line, read as a call or not, gets a number up to 21, and unless that is 0 it leaves the book as found, and neither pieces are told nor values but the field of a Malformed
pub record LineAnswered (b : Book) (l : Line) : Type 0 where
  pub at_most : (answer_line b l).reply.number ≤ 21
  pub book : (answer_line b l).reply.number ≢ 0 → (answer_line b l).book ≡ b
  pub values : (answer_line b l).reply.number ≢ 0 → (answer_line b l).reply.number ≢ 1 → (answer_line b l).reply.values ≡ []
  pub pieces : (answer_line b l).reply.number ≢ 0 → (answer_line b l).pieces ≡ []

-- these lines are these bytes, cut after each of so many line feeds: put together again they are the bytes, none holds a line feed, as many are finished as there are line feeds, and one more that has a byte may follow
pub record CutInto (read : List ℕ) (feeds : ℕ) (ls : List InputLine) : Type 0 where
  pub whole : joined as_read ls ≡ read
  pub no_feeds : all (λ l. eqb (line_feeds l.text) 0) ls ≡ true
  pub finished : all (λ l. l.finished) (take feeds ls) ≡ true
  pub at_least : feeds ≤ length ls
  pub at_most : length ls ≤ feeds + 1
  pub some_byte : all (λ l. l.finished || leb 1 (length l.text)) ls ≡ true

-- what is written is one reply for each of the first 100,000 lines (by definition, `input_lines`), numbered 1, 2, 3, .., and then the tally, whose two numbers sum to the count of lines; each reply and the tally is one line
pub record Answers (input : List ℕ) : Type 0 where
  pub text : transcript input ≡ reply_texts 1 (answered input) ++ end_text (record { done = done_count (answered input); other = other_count (answered input) })
  pub one_each : length (answered input) ≡ length (input_lines input)
  pub tally : done_count (answered input) + other_count (answered input) ≡ length (input_lines input)
  pub one_line : (n : ℕ) (o : Outcome) → line_feeds (reply_text n o) ≡ 1
  pub lines : line_feeds (transcript input) ≡ length (input_lines input) + 1

-- field k is the first that does not read: every field before it reads
pub record FirstFails (fs : List (List ℕ)) (k : ℕ) : Type 0 where
  pub before : (i : ℕ) → i < k → FieldReads fs i
  pub here : FieldFails fs k

-- every field that the word wants reads, there is no other, and with the word they are k
pub record AllRead (fs : List (List ℕ)) (k : ℕ) : Type 0 where
  pub each : (i : ℕ) → i < k → FieldReads fs i
  pub wanted : k ≡ count_of fs + 1
  pub count : k ≡ length fs

-- "Say which field": what is told of a line that is no call
pub record WhichField : Type 0 where
  -- the fields are the line, parted at its tabs: each put after a tab, they are a tab and the line, and none has a tab
  pub parted : (s : List ℕ) → joined (λ f. tab ∷ f) (fields s) ≡ tab ∷ s
  pub no_tabs : (s : List ℕ) → all (λ f. all (λ b. not (eqb b tab)) f) (fields s) ≡ true
  -- the field is exactly the first that does not read or, where all read and the line is over-long or unfinished, their count with the word
  pub exactly : (l : InputLine) (k : ℕ) → read_input l ≡ failing k ↔ FirstFails (fields l.text) k ⊎ (AllRead (fields l.text) k × (over_long_or_unfinished l ≡ true))
  -- it is told after reply 1, on every book
  pub told : (b : Book) (k : ℕ) → (answer_line b (failing k)).reply ≡ record { number = 1; values = k ∷ [] }
  -- an empty field before which every field reads is told by its own number: the absent amount of a notice is named
  pub empty_field : (l : InputLine) (k : ℕ) → k < length (fields l.text) → is_empty (field_at (fields l.text) k) ≡ true → ((i : ℕ) → i < k → FieldReads (fields l.text) i) → read_input l ≡ failing k
  -- and a line with an empty field is no call, whatever stands around it: one with two tabs together is such a line, or with a tab first or last
  pub no_call : (l : InputLine) → any is_empty (fields l.text) ≡ true → (c : Call) → read_input l ≢ Ok c

-- the line is this call written out, its word and then its numbers, each after a tab; it has at most 120 bytes, and no number is above the highest of a field
pub record IsWritten (s : List ℕ) (c : Call) : Type 0 where
  pub text : s ≡ write_line c
  pub short : length s ≤ most_bytes
  pub numbers : all (λ n. leb n highest_field) (numbers_of c) ≡ true

-- a finished line is read, and an unfinished one is no call; and a line reads as a call exactly if it is that call written out, so any other line is Malformed: no number is read as nought that is not there, and no word or number in two ways
pub record Reading : Type 0 where
  pub finished : (s : List ℕ) → read_input (record { text = s; finished = true }) ≡ read_line s
  pub unfinished : (s : List ℕ) (c : Call) → read_input (record { text = s; finished = false }) ≢ Ok c
  pub exactly : (s : List ℕ) (c : Call) → read_line s ≡ Ok c ↔ IsWritten s c

-- the library's trace, lent any two tables: it gets 0, 2, 20 or 21, and refused it tells no values and leaves both tables as found
pub record LentTrace (b : Book) (work out : List Lot) (n : Nonce) : Type 0 where
  pub one_of_its_own : is_one_of (trace_answer b work out n).reply.number (0 ∷ 2 ∷ 20 ∷ 21 ∷ []) ≡ true
  pub no_values : (trace_answer b work out n).reply.number ≢ 0 → (trace_answer b work out n).reply.values ≡ []
  pub work_kept : (trace_answer b work out n).reply.number ≢ 0 → (trace_answer b work out n).work ≡ work
  pub pieces_kept : (trace_answer b work out n).reply.number ≢ 0 → (trace_answer b work out n).pieces ≡ out

pub record Demand1 : Type 0 where
  -- every call on every book ends with an answer from the table
  pub calls : (b : Book) (c : Call) → Numbered b c
  -- a refused call changes no record, nor anything else
  pub refused : (b : Book) (c : Call) → (answer b c).reply.number ≢ 0 → Unchanged b (answer b c)
  -- an accepted one leaves its effect, on every book
  pub leaves : (b : Book) (c : Call) → Accepted b c → Leaves b c
  -- a sign request and a trace change nothing, accepted or refused
  pub nothing : (b : Book) (c : Call) → changes_nothing c ≡ true → (answer b c).book ≡ b
  -- a trace that is lent its tables, whatever they are, is refused in the same way; and the library's question for a provenance gets 0, 2, 3 or 4
  pub lent_traces : (b : Book) (work out : List Lot) (n : Nonce) → LentTrace b work out n
  pub questions : (b : Book) (m a : ℕ) → is_one_of (provenance_answer b m a).number (0 ∷ 2 ∷ 3 ∷ 4 ∷ []) ≡ true
  -- a call to trace is never answered 20 TableSmall: its tables have a row for every record that a book in frame can have
  pub never_small : (b : Book) (n : Nonce) → (answer b (Call.Trace n)).reply.number ≢ 20
  -- the same of every line on every book
  pub lines : (b : Book) (l : Line) → LineAnswered b l
  -- every input, whatever its bytes, is cut into lines
  pub cut : (input : List ℕ) → CutInto input (line_feeds input) (lines_from [] input)
  -- and every one of them up to line 100,000 is answered, once and in order
  pub answers : (input : List ℕ) → Answers input
  -- an absent number is refused, and told by the number of its field
  pub which_field : WhichField
  -- never read as nought
  pub reading : Reading

-- ======== Demand 2. "From an empty book, every answer, balance, queue, history record and trace is what the transition rules of the PASS paper give, as document 01 amends them, and each kept balance equals the provenance worked out from the history alone."

-- the book is in frame, its history too, so that no call, no trace and no question is answered 2 BadBook
pub record InFrame (b : Book) : Type 0 where
  pub book : in_frame b ≡ true
  pub history : history_in_frame (view b).history ≡ true
  pub no_bad_call : (c : Call) → (answer b c).reply.number ≢ 2
  pub no_bad_trace : (work out : List Lot) (n : Nonce) → (trace_answer b work out n).reply.number ≢ 2
  pub no_bad_question : (m a : ℕ) → (provenance_answer b m a).number ≢ 2

-- every balance is the provenance, and the library question gives it; every holder is the one by the grants, from member 1 on, who holds every domain at first; the next nonce is the number of withdrawals
pub record ByHistory (b : Book) : Type 0 where
  pub balances : (m a : ℕ) → balance (view b).balances m a ≡ provenance_of m a (view b).history
  pub asked : (m a : ℕ) → Within 1 member_count m → Within 1 asset_count a
      → provenance_answer b m a ≡ record { number = 0; values = balance (view b).balances m a ∷ [] }
  pub holders : (d : ℕ) → holder (view b).holders d ≡ holder_by first_holders d (view b).history
  pub next : (view b).outside.next.0 ≡ withdrawals (view b).history

-- the balance sheet of an asset; the desk's two totals are the sums over the accepted calls; what has settled is never more than what was deposited, and the chain total is what the book still holds
pub record Sheet (a : ℕ) (b : Book) (cs : List Call) : Type 0 where
  pub sheet : BalanceSheet a b cs
  pub lifetime : total (view (run b cs)).outside.lifetime a ≡ accepted_deposits a b cs
  pub settled : total (view (run b cs)).outside.settled a ≡ settled_sum a b cs
  pub less : settled_sum a b cs ≤ accepted_deposits a b cs
  pub chain : chain_total a b cs ≡ unclaimed_sum a (run b cs) + balances_sum a (run b cs) + outbox_sum a (run b cs)

-- deposit numbers are 1, 2, 3, ..; the nonces of the payments made, sent and waiting, are 0, 1, 2, .. up to the next nonce; and the payments sent are those that settled, then those in flight
pub record InOrder (b : Book) (cs : List Call) : Type 0 where
  pub numbers : map (λ d. d.number.0) (deposits b cs) ≡ up_from 1 (length (deposits b cs))
  pub last : (view (run b cs)).outside.last.0 ≡ length (deposits b cs)
  pub nonces : map nonce_of (made b cs) ≡ up_from 0 (view (run b cs)).outside.next.0
  pub sent_nonces : map nonce_of (sends b cs) ≡ up_from 0 (length (sends b cs))
  pub settled : sends b cs ≡ settlements b cs ++ (view (run b cs)).outside.inflight

-- the queue of a book, whatever calls come next
pub record Queue (b : Book) (further : List Call) : Type 0 where
  -- a send is accepted whenever something waits, and answers the oldest
  pub accepted : 1 ≤ length (waiting_in b) → Accepted b Call.Send
  pub answers : 1 ≤ length (waiting_in b) → (answer b Call.Send).reply ≡ told (Ok (Done.Sent (oldest (waiting_in b))))
  -- what is sent and then waits is what waited and then was queued, in this order
  pub order : sends b further ++ waiting_in (run b further) ≡ waiting_in b ++ queued b further
  -- "A waiting payment with k waiting before it is sent by the (k+1)th send", with its own nonce, asset, amount and payee
  pub sent : (k : ℕ) → k < length (waiting_in b) → k < length (sends b further) → sent_after k b further ≡ get_or (waiting_in b) k no_payment ∷ []
  -- and k + 1 sends, accepted or not, suffice
  pub suffice : (k : ℕ) → k < length (waiting_in b) → k < send_calls further → k < length (sends b further)

-- payment n, and its trace
pub record PaymentTraced (b : Book) (cs : List Call) (n : Nonce) : Type 0 where
  -- the payment made with n before it is the withdrawal with n withdrawals before it in the history, and carries nonce n
  pub payment : get_or (made b cs) n.0 no_payment ≡ payment_by (record_of b cs n) n
  -- its trace is Done, with the count of the pieces
  pub done : (answer (run b cs) (Call.Trace n)).reply ≡ record { number = 0; values = length (traced b cs n) ∷ [] }
  -- the pieces sum to the amount
  pub amount : worth (traced b cs n) ≡ (record_of b cs n).amount
  -- each is of the payer and of the payment's asset, and none is of nothing
  pub owned : all (in_line (record_of b cs n).first (record_of b cs n).asset) (traced b cs n) ≡ true
  pub positive : all is_positive (traced b cs n) ≡ true
  -- each is from a deposit that was accepted, and claimed by an accepted claim with exactly its four fields
  pub sourced : all (λ l. any (claims_lot (deposits b cs) l) (claims b cs)) (traced b cs n) ≡ true
  -- coin by coin they are the oldest in the payer's line, as the records before the payment left it
  pub oldest_first : coins (traced b cs n)
      ≡ take (record_of b cs n).amount (coins_in (before_payment n.0 (view (run b cs)).history) (record_of b cs n).first (record_of b cs n).asset)
  -- lent two tables, "each with at least as many rows as the history has records", it gives the same reply; every row of the work table ends as zeros, and the pieces fill the first rows of theirs, the rest as it was
  pub lent : (work out : List Lot) → length (view (run b cs)).history ≤ length work → length (view (run b cs)).history ≤ length out
      → trace_answer (run b cs) work out n
      ≡ record {
        reply = (answer (run b cs) (Call.Trace n)).reply;
        work = replicate (length work) no_lot;
        pieces = traced b cs n ++ drop (length (traced b cs n)) out;
      }

-- after any calls from an empty book
pub record Demand2 (b : Book) (cs : List Call) : Type 0 where
  -- the book stays in frame
  pub frame : InFrame (run b cs)
  -- every answer is what the rules give: a call is accepted exactly if its facts hold (Facts): fields in their limits, the next number, enough, the holder; and the tables have room; and it leaves its effect
  pub accepting : (c : Call) → Accepted (run b cs) c ↔ Fit (view (run b cs)) c × Room (view (run b cs)) c
  pub leaves : (c : Call) → Accepted (run b cs) c → Leaves (run b cs) c
  -- every record is what the rules give: the history is the records of the accepted calls, in order
  pub records : (view (run b cs)).history ≡ joined records_of (accepted b cs)
  -- the inbox is the accepted deposits that no accepted claim took, in order
  pub inbox : (view (run b cs)).inbox ≡ those (λ d. not (is_claimed (claims b cs) d)) (deposits b cs)
  -- each kept balance equals the provenance worked out from the history alone, and so for holders and the next nonce
  pub by_history : ByHistory (run b cs)
  -- the balance sheet holds for each asset
  pub sheet : (a : ℕ) → Sheet a b cs
  -- numbers and nonces miss none and repeat none
  pub order : InOrder b cs
  -- whatever calls come next, the queue is served in its order
  pub queue : (further : List Call) → Queue (run b cs) further
  -- there are as many payments as withdrawals in the history, and every one has its trace
  pub payments : length (made b cs) ≡ withdrawals (view (run b cs)).history
  pub traces : (n : Nonce) → n.0 < (view (run b cs)).outside.next.0 → PaymentTraced b cs n

-- ======== Demand 3. "Take two runs from an empty book. If their accepted deposits, withdrawals, sends and settlements agree in order, the withdrawing member aside, the outside world sees the same payments, nonces, settlements and chain totals. If the accepted calls that name one member, with deposits for that member, agree in order, that member's balances, unclaimed deposits, domains and statement agree, and the member's next claim, transfer, grant, withdrawal or sign request gets the same answer, provided that neither book's history or outbox is full."
-- All of it is said over `accepted`, `run` and `answer`, the definitions of demand 2, and over nothing weaker: a ledger that refuses all calls, or that replies rightly and stores nothing, would have such a property too, but its calls are not accepted, or its books not left, as `answer` says, so it does not meet demand 2.

-- the outside: if the accepted deposits, withdrawals (the member aside), sends and settlements are the same, in order, then so are the payments in flight and waiting, the next nonce, the answers of the sends, the settlements, and every asset's chain total
abbrev pub OutsideTold : Type 0
OutsideTold = (b b' : Book) → Empty b → Empty b' → (cs cs' : List Call) → seen_outside b cs ≡ seen_outside b' cs' → outside_view b cs ≡ outside_view b' cs'

-- and so is everything else that the outside has a part in: the lifetime deposits and the settled total of every asset, and the last deposit number
abbrev pub OutsideAgreed : Type 0
OutsideAgreed = (b b' : Book) → Empty b → Empty b' → (cs cs' : List Call) → seen_outside b cs ≡ seen_outside b' cs' → (view (run b cs)).outside ≡ (view (run b' cs')).outside

-- a member, 1 to 16 (or any number: nothing turns on it): if the accepted calls that name the member, deposits for the member among them, are the same, in order, then so are the eight balances, the unclaimed deposits, the domains held, and the statement
abbrev pub MemberTold : Type 0
MemberTold = (m : ℕ) (b b' : Book) → Empty b → Empty b' → (cs cs' : List Call) → seen_by m b cs ≡ seen_by m b' cs' → member_view m b cs ≡ member_view m b' cs'

-- the reply says of no table that it is full: it is neither 16 OutboxFull nor 17 HistoryFull
pub record NoneFull (r : Reply) : Type 0 where
  pub outbox : r.number ≢ 16
  pub history : r.number ≢ 17

-- the member's next call: if moreover neither reply says that a table is full, then the member's next claim, transfer, withdrawal, grant or sign request gets the same reply from both, Done or refused
abbrev pub MemberAnswered : Type 0
MemberAnswered =
    (m : ℕ) (b b' : Book) → Empty b → Empty b' → (cs cs' : List Call) → seen_by m b cs ≡ seen_by m b' cs'
    → (c : Call) → asks m c ≡ true → NoneFull (answer (run b cs) c).reply → NoneFull (answer (run b' cs') c).reply
    → (answer (run b cs) c).reply ≡ (answer (run b' cs') c).reply

-- so it does, as the demand has it, "provided that neither book's history or outbox is full"
abbrev pub MemberAnsweredWithRoom : Type 0
MemberAnsweredWithRoom =
    (m : ℕ) (b b' : Book) → Empty b → Empty b' → (cs cs' : List Call) → seen_by m b cs ≡ seen_by m b' cs'
    → (c : Call) → asks m c ≡ true → has_room (view (run b cs)) ≡ true → has_room (view (run b' cs')) ≡ true
    → (answer (run b cs) c).reply ≡ (answer (run b' cs') c).reply

-- for every two lists of calls, from any two empty books
pub record Demand3 : Type 0 where
  -- they look the same from outside
  pub outside : OutsideTold
  pub agreed : OutsideAgreed
  -- they look the same to that member
  pub member : MemberTold
  -- and go on to do so
  pub next : MemberAnswered
  pub next_with_room : MemberAnsweredWithRoom

-- ======== What the code does is this. The contracts of the book runner's functions are said over a machine that is fed one byte at a time, from an empty book on (crate runner, specs/Machine). What the machine holds and writes is what the rules give, at every byte; and a chain of reads that meets the contracts is at every point that machine.

-- the machine after any bytes
pub record EveryByte (input : List ℕ) : Type 0 where
  -- the book that it holds is the one that the calls in these bytes lead to
  pub book : (after input).book ≡ run empty_book (calls_in input)
  -- so all of demand 2 holds of it
  pub demand2 : Demand2 empty_book (calls_in input)
  -- what it has written is the replies to the lines whose line feed has come, numbered 1, 2, 3, ..
  pub replies : writes start input ≡ reply_texts 1 (outcomes empty_book (ended (input_lines input)))
  -- that is a beginning of the transcript, whatever comes next; and with what it writes at the end of the input, all of it
  pub beginning : Beginning input (writes start input)
  pub whole : writes start input ++ closing (after input) ≡ transcript input

-- however the input is cut into reads, what is written for them, joined, is the transcript of all of it
abbrev pub HoweverCut : Type 0
HoweverCut = (reads : List (List ℕ)) → writes_all start reads ≡ transcript (joined (λ r. r) reads)

-- each line is answered from the book that the calls of the lines before it lead to
abbrev pub EachAnswered : Type 0
EachAnswered = (before : List InputLine) (l : InputLine) → outcomes empty_book (before ++ (l ∷ [])) ≡ outcomes empty_book before ++ (answer_line (run empty_book (calls_of before)) (read_input l) ∷ [])

-- demand 3 of the machine, after any two inputs: of their calls, and of the books that it holds
pub record Alike (input input' : List ℕ) : Type 0 where
  pub outside : seen_outside empty_book (calls_in input) ≡ seen_outside empty_book (calls_in input') → outside_view empty_book (calls_in input) ≡ outside_view empty_book (calls_in input')
  pub agreed : seen_outside empty_book (calls_in input) ≡ seen_outside empty_book (calls_in input') → (view (after input).book).outside ≡ (view (after input').book).outside
  pub member : (m : ℕ) → seen_by m empty_book (calls_in input) ≡ seen_by m empty_book (calls_in input') → shown_to m (view (after input).book) ≡ shown_to m (view (after input').book)
  pub next : (m : ℕ) → seen_by m empty_book (calls_in input) ≡ seen_by m empty_book (calls_in input')
      → (c : Call) → asks m c ≡ true → NoneFull (answer (after input).book c).reply → NoneFull (answer (after input').book c).reply
      → (answer (after input).book c).reply ≡ (answer (after input').book c).reply

-- the code, after any chain of reads that meets its contracts
pub record Reached (read given : List ℕ) (k : Kept) : Type 0 where
  -- desk, tables, tally, line number and held bytes are those of the machine after the bytes that were read
  pub machine : k.machine ≡ after read
  -- so the book in the desk and the tables is the one that the calls in these bytes lead to
  pub book : book_in k ≡ run empty_book (calls_in read)
  -- what was given out, and what stands on the page, is the replies to the lines whose line feed has come
  pub replies : given ++ on_page k ≡ reply_texts 1 (outcomes empty_book (ended (input_lines read)))
  -- so it is a beginning of the transcript, whatever is read next
  pub beginning : Beginning read (given ++ on_page k)
  -- what the session's type asks is so, and what `run_some` requires, and what `close` requires but for the room on its page
  pub ready : Ready k.machine
  pub within : k.page.upto ≤ length k.page.bytes
  -- after `close`, all that was given out, and what stands on the page that it leaves, is the transcript
  pub closed : (left : Page) → Closed k.machine k.page left → given ++ text_of left ≡ transcript read
  -- once 100,000 lines are answered, nothing that may still come changes the transcript: bytes that are never read do not matter
  pub stops : most_lines < k.machine.line → (more : List ℕ) → transcript (read ++ more) ≡ transcript read

pub record TheCode : Type 0 where
  pub every_byte : (input : List ℕ) → EveryByte input
  pub cut : HoweverCut
  pub each : EachAnswered
  pub alike : (input input' : List ℕ) → Alike input input'
  pub chain : (read given : List ℕ) (k : Kept) → Chain read given k → Reached read given k
  -- and of any calls of the library, from any book on: the book that they leave is the one that the rules lead to
  pub steps : (b left : Book) (cs : List Call) → Steps b cs left → left ≡ run b cs

-- ======== the whole
pub record Promises : Type 0 where
  pub demand1 : Demand1
  pub demand2 : (b : Book) (cs : List Call) → Empty b → Demand2 b cs
  -- and from any book on that calls can start from: an empty one is such a book, and so is every book that calls led to
  pub starts : (b : Book) → Empty b → Started b
  pub since : (b : Book) (cs : List Call) → Started b → Since b cs
  pub demand3 : Demand3
  pub the_code : TheCode
