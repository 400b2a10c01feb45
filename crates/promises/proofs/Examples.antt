-- Demands 1 and 2 are not empty: for each promise something that happens, with its numbers. All by computation.
use Rattle.std.specs.Prelude.{Ok, Err}
use mathlib.Core.Path.{◌≡◌, refl}
use mathlib.Core.Bool.{true, not}
use mathlib.Core.List.{[], ◌∷◌, ◌++◌, map}
use lib.ListN.{get_or, take, drop, replicate}
use Rattle.promises.specs.Types.{Refusal}
use Rattle.rules.specs.Lists.{any, those, bytes}
use Rattle.rules.specs.State.{first_holders, empty_book, inbox_of, history_of}
use Rattle.rules.specs.Replies.{told, plain}
use Rattle.rules.specs.Effects.{balance, holder, total}
use Rattle.rules.specs.Frame.{in_frame}
use Rattle.rules.specs.History.{provenance_of, history_in_frame}
use Rattle.rules.specs.Lots.{no_lot}
use Rattle.rules.specs.Answer.{answer, trace_answer, provenance_answer}
use Rattle.rules.specs.Runs.{run, deposits, sends, settlements, sent_after}
use Rattle.rules.specs.Sheet.{accepted_deposits, settled_sum, unclaimed_sum, balances_sum, outbox_sum, chain_total}
use Rattle.rules.specs.Lines.{fields, Numbers, wanted, read_line, form_of, numbers_of, write_line, failing}
use Rattle.rules.specs.Transcript.{lines_from, answer_line, transcript}
use Rattle.rules.specs.Cases.{deposit, transfer, withdraw, trace, with300}
use Rattle.rules.proofs.Compute.{compute}
use Rattle.lots.specs.Traces.{worth, coins}
use Rattle.promises.specs.Demand1.{applying, is_empty}
use Rattle.promises.specs.Demand2.{held_as, held_after, holder_by, nonce_of, is_send, send_calls, waiting_in, claiming, claims, is_claimed, made, traced, coins_as, coins_after, coins_in}
use Rattle.promises.specs.Demand3Examples.{deposited, payment}
use Rattle.promises.specs.Examples.{one_of_each, written, three_lines, absent, nought, transfer_line, nearly, nearly_fields, three_payments, worked, second_claimed, worked_records, three_sends, piece}

-- ======== demand 1
-- a reply of each kind; 1 is a line's, and 20 is given where the lent tables are short (below)
pub each_number : map (λ p. (answer p.0 p.1).reply.number) one_of_each
    ≡ 0 ∷ 2 ∷ 3 ∷ 4 ∷ 5 ∷ 6 ∷ 7 ∷ 8 ∷ 9 ∷ 10 ∷ 11 ∷ 12 ∷ 13 ∷ 14 ∷ 15 ∷ 16 ∷ 17 ∷ 18 ∷ 19 ∷ 21 ∷ []
unfolding compute one_of_each
each_number = refl

-- of two refusals that apply, the smaller is given
pub two_apply : (applying empty_book (transfer 2 2 3 5) ≡ 8 ∷ 14 ∷ []) × ((answer empty_book (transfer 2 2 3 5)).reply ≡ plain 8)
unfolding compute
two_apply = (refl, refl)

pub table_small : (trace_answer (run empty_book worked) (replicate 7 no_lot) (replicate 8 no_lot) (record { 0 = 0 })).reply ≡ plain 20
unfolding compute worked three_payments
table_small = refl

-- a refused call leaves the book, with what is in it
pub refused-here : ((answer (run empty_book with300) (withdraw 2 3 301 77)).reply ≡ plain 14) × ((answer (run empty_book with300) (withdraw 2 3 301 77)).book ≡ run empty_book with300)
unfolding compute
refused-here = (refl, refl)

-- the same of lines: one that reads as that call, and one that reads as none
pub line_refused : map (λ s. (answer_line (run empty_book with300) (read_line (bytes s))).reply) ("withdraw\t2\t3\t301\t77" ∷ "withdraw 2 3 301 77" ∷ []) ≡ plain 14 ∷ told (Err (Refusal.Malformed 0)) ∷ []
unfolding compute
line_refused = refl

pub line-leaves : map (λ s. (answer_line (run empty_book with300) (read_line (bytes s))).book) ("withdraw\t2\t3\t301\t77" ∷ "withdraw 2 3 301 77" ∷ []) ≡ run empty_book with300 ∷ run empty_book with300 ∷ []
unfolding compute
line-leaves = refl

-- an input is cut into its lines, and each is answered
pub cut-here : lines_from [] (bytes written) ≡ three_lines
unfolding compute
cut-here = refl

pub answered-here : transcript (bytes written) ≡ bytes "1\t0\n2\t14\n3\t1\t1\nend\t1\t2\n"
unfolding compute
answered-here = refl

-- an absent number is refused, with 1 and the number of its field ..
pub empty_field_lem : any is_empty (fields (bytes "deposit\t1\t3\t\t2")) ≡ true
unfolding compute
empty_field_lem = refl

pub absent-refused : map (λ s. (answer_line empty_book (read_line (bytes s))).reply) absent ≡ map (λ k. told (Err (Refusal.Malformed k))) (3 ∷ 4 ∷ 4 ∷ [])
unfolding compute
absent-refused = refl

-- .. and never read as nought, which gets 3 here; every number of a call that is read stands in a field
pub nought_read : (read_line (bytes nought) ≡ Ok (deposit 1 3 500 0)) × ((answer_line empty_book (read_line (bytes nought))).reply ≡ plain 3)
unfolding compute
nought_read = (refl, refl)

pub fields_read : wanted 1 4 (drop 1 (fields (bytes nought))) ≡ Numbers.all_read (1 ∷ 3 ∷ 500 ∷ 0 ∷ [])
unfolding compute
fields_read = refl

-- a line is read that is a call written out, and none that is nearly so
pub written-here : (write_line (transfer 2 4 3 200) ≡ bytes transfer_line) × (read_line (bytes transfer_line) ≡ Ok (transfer 2 4 3 200))
unfolding compute form_of numbers_of write_line
written-here = (refl, refl)

pub nearly-refused : map (λ s. read_line (bytes s)) nearly ≡ map failing nearly_fields
unfolding compute
nearly-refused = refl

-- ======== demand 2
-- the worked book is in frame, and so is its history
pub framed-here : (in_frame (run empty_book worked) ≡ true) × (history_in_frame (history_of (run empty_book worked)) ≡ true)
unfolding compute worked three_payments
framed-here = (refl, refl)

-- a withdrawal of all that there is is accepted, one of more is not; what the first leaves: nothing, and the payment last in line
pub accepts_here : map (λ x. (answer (run empty_book worked) (withdraw 2 3 x 80)).reply.number) (200 ∷ 201 ∷ []) ≡ 0 ∷ 14 ∷ []
unfolding compute worked three_payments
accepts_here = refl

pub leaves-here : (balance (answer (run empty_book worked) (withdraw 2 3 200 80)).book.desk.balances 2 3 ≡ 0)
    × (waiting_in (answer (run empty_book worked) (withdraw 2 3 200 80)).book ≡ payment 3 50 79 2 ∷ payment 3 200 80 3 ∷ [])
unfolding compute worked three_payments
leaves-here = (refl, refl)

-- the records of the accepted calls
pub records-here : history_of (run empty_book worked) ≡ worked_records
unfolding compute worked three_payments worked_records
records-here = refl

-- the inbox is the deposits that were not claimed, in order
pub inbox-here : (inbox_of (run empty_book second_claimed) ≡ deposited 1 3 500 2 ∷ deposited 3 3 300 4 ∷ [])
    × (deposits empty_book second_claimed ≡ deposited 1 3 500 2 ∷ deposited 2 3 300 4 ∷ deposited 3 3 300 4 ∷ [])
    × (those (λ d. not (is_claimed (claims empty_book second_claimed) d)) (deposits empty_book second_claimed) ≡ deposited 1 3 500 2 ∷ deposited 3 3 300 4 ∷ [])
unfolding compute second_claimed claiming
inbox-here = (refl, refl, refl)

-- balances = provenance: member 2 has 500 - 200 - 100, member 4 has 200 + 300 - 350 - 50, member 7 nothing; the question answers so
pub balances-here : map (λ m. balance (run empty_book worked).desk.balances m 3) (2 ∷ 4 ∷ 7 ∷ []) ≡ 200 ∷ 100 ∷ 0 ∷ []
unfolding compute worked three_payments
balances-here = refl

pub provenances_here : map (λ m. provenance_of m 3 worked_records) (2 ∷ 4 ∷ 7 ∷ []) ≡ 200 ∷ 100 ∷ 0 ∷ []
unfolding compute worked_records
provenances_here = refl

pub asked_here : map (λ m. provenance_answer (run empty_book worked) m 3) (2 ∷ 4 ∷ 17 ∷ []) ≡ record { number = 0; values = 200 ∷ [] } ∷ record { number = 0; values = 100 ∷ [] } ∷ plain 3 ∷ []
unfolding compute worked three_payments
asked_here = refl

-- a holder after two grants, and one after none
pub holders-here : (map (holder (run empty_book worked).desk.holders) (5 ∷ 6 ∷ []) ≡ 4 ∷ 1 ∷ []) × (map (λ d. holder_by first_holders d worked_records) (5 ∷ 6 ∷ []) ≡ 4 ∷ 1 ∷ [])
unfolding compute worked three_payments worked_records held_as held_after
holders-here = (refl, refl)

-- the balance sheet, 840 = 40 + 300 + 150 + 350, with the desk's two totals and the chain total
pub sheet-here : accepted_deposits 3 empty_book worked
    ∷ unclaimed_sum 3 (run empty_book worked)
    ∷ balances_sum 3 (run empty_book worked)
    ∷ outbox_sum 3 (run empty_book worked)
    ∷ settled_sum 3 empty_book worked
    ∷ total (run empty_book worked).desk.lifetime 3
    ∷ total (run empty_book worked).desk.settled 3
    ∷ chain_total 3 empty_book worked
    ∷ []
    ≡ 840 ∷ 40 ∷ 300 ∷ 150 ∷ 350 ∷ 840 ∷ 350 ∷ 490 ∷ []
unfolding compute worked three_payments
sheet-here = refl

-- numbers 1, 2, 3 and nonces 0, 1, 2
pub numbers-here : (map (λ d. d.number.0) (deposits empty_book worked) ≡ 1 ∷ 2 ∷ 3 ∷ []) × (map nonce_of (made empty_book worked) ≡ 0 ∷ 1 ∷ 2 ∷ [])
unfolding compute worked three_payments
numbers-here = (refl, refl)

-- what was sent is what settled and what is in flight
pub sent-here : (sends empty_book worked ≡ payment 3 350 77 0 ∷ payment 3 100 78 1 ∷ []) × (settlements empty_book worked ≡ payment 3 350 77 0 ∷ [])
unfolding compute worked three_payments
sent-here = (refl, refl)

-- a payment with 2 waiting before it is sent by the third of three sends
pub third_send : (waiting_in (run empty_book three_payments) ≡ payment 3 350 77 0 ∷ payment 3 100 78 1 ∷ payment 3 50 79 2 ∷ []) × (send_calls three_sends ≡ 3)
    × (sent_after 2 (run empty_book three_payments) three_sends ≡ payment 3 50 79 2 ∷ [])
unfolding compute three_payments three_sends is_send send_calls
third_send = (refl, refl, refl)

-- a trace with two pieces: 200 of deposit 1, which came by a transfer, and 150 of deposit 2, together the 350 of payment 0; and one of one piece
pub traced-here : ((answer (run empty_book worked) (trace 0)).reply ≡ record { number = 0; values = 2 ∷ [] })
    × (traced empty_book worked (record { 0 = 0 }) ≡ piece 4 3 1 200 ∷ piece 4 3 2 150 ∷ [])
    × (traced empty_book worked (record { 0 = 2 }) ≡ piece 4 3 2 50 ∷ [])
unfolding compute worked three_payments
traced-here = (refl, refl, refl)

pub pieces-sum : (worth (traced empty_book worked (record { 0 = 0 })) ≡ 350) × (get_or (made empty_book worked) 0 (payment 0 0 0 0) ≡ payment 3 350 77 0)
unfolding compute worked three_payments
pieces-sum = (refl, refl)

-- both deposits were claimed
pub claimed_here : map (λ c. c.number.0) (claims empty_book worked) ≡ 1 ∷ 2 ∷ []
unfolding compute worked three_payments claiming
claimed_here = refl

-- coin by coin: member 4's line before payment 0 is 200 coins of deposit 1 and then 300 of deposit 2, of which it takes the first 350
pub coins-here : (coins_in (take 3 worked_records) 4 3 ≡ replicate 200 1 ++ replicate 300 2) × (coins (traced empty_book worked (record { 0 = 0 })) ≡ replicate 200 1 ++ replicate 150 2)
unfolding compute worked three_payments worked_records coins_as coins_after
coins-here = (refl, refl)
