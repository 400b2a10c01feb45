-- Demands 1 and 2 are not empty: books, lines and one worked session in which the premises hold and something happens. What they come to is computed in proofs/Examples.
use Rattle.std.specs.Prelude.{ℕ, true, false, List, [], ◌∷◌, ◌++◌, map}
use Prim.Native.String.{String}
use Rattle.promises.specs.Types.{Record, Lot, Call}
use Rattle.rules.specs.Limits.{ceiling}
use Rattle.rules.specs.Lists.{bytes}
use Rattle.rules.specs.State.{Book, empty_book}
use Rattle.rules.specs.Runs.{run}
use Rattle.rules.specs.Sheet.{up_from}
use Rattle.rules.specs.Transcript.{InputLine}
use Rattle.rules.specs.Cases.{deposit, claim, transfer, withdraw, settle, grant, sign, trace, with300}
use Rattle.rules.specs.FrameCases.{unclaimed_as, records_as}
use Rattle.promises.specs.Demand3Examples.{recorded}

-- ======== demand 1
-- an empty book but for two counts: how many deposits lie unclaimed, and how many records there are
abbrev pub counting : ℕ → ℕ → Book
counting unclaimed records =
    record {
      desk = unclaimed_as unclaimed (records_as records empty_book.desk);
      inbox = empty_book.inbox;
      outbox = empty_book.outbox;
      history = empty_book.history;
    }

-- a call on a book that calls lead to, or on any book
abbrev pub call_after : List Call → Call → Book × Call
call_after cs c = (run empty_book cs, c)

-- for each number that a call can get, in order, a call that gets it; BadBook where 65 deposits are counted, InboxFull after 64, OutboxFull after 32 payments, HistoryFull where 1,024 records are counted
unfoldable pub one_of_each : List (Book × Call)
one_of_each =
    call_after [] (deposit 1 3 500 2)
    ∷ (counting 65 0, deposit 1 3 500 2)
    ∷ call_after [] (deposit 1 3 500 17)
    ∷ call_after [] (transfer 2 4 9 5)
    ∷ call_after [] (sign 1 9)
    ∷ call_after [] (withdraw 2 3 0 77)
    ∷ call_after with300 (withdraw 2 3 5 0)
    ∷ call_after [] (grant 1 1 5)
    ∷ call_after with300 (deposit 1 3 500 2)
    ∷ call_after with300 (deposit 3 3 500 2)
    ∷ call_after with300 (deposit 2 3 ceiling 2)
    ∷ call_after (map (λ n. deposit n 3 1 2) (up_from 1 64)) (deposit 65 3 1 2)
    ∷ call_after [] (claim 2 1 3 500)
    ∷ call_after with300 (withdraw 2 3 301 77)
    ∷ call_after [] (sign 2 5)
    ∷ call_after (with300 ++ map (λ p. withdraw 2 3 1 p) (up_from 1 32)) (withdraw 2 3 1 33)
    ∷ (counting 0 1024, grant 1 2 5)
    ∷ call_after [] Call.Send
    ∷ call_after [] (settle 0)
    ∷ call_after with300 (trace 0)
    ∷ []

-- three lines, of which the last is unfinished
abbrev pub written : String
written = "deposit\t1\t3\t500\t2\nwithdraw\t2\t3\t5\t77\nsend"

abbrev pub three_lines : List InputLine
three_lines =
    record { text = bytes "deposit\t1\t3\t500\t2"; finished = true }
    ∷ record { text = bytes "withdraw\t2\t3\t5\t77"; finished = true }
    ∷ record { text = bytes "send"; finished = false }
    ∷ []

-- a number is absent: an empty field, a tab last, a field too few; in the last nothing is absent, and 0 was written
abbrev pub absent : List String
absent = "deposit\t1\t3\t\t2" ∷ "deposit\t1\t3\t500\t" ∷ "deposit\t1\t3\t500" ∷ []

abbrev pub nought : String
nought = "deposit\t1\t3\t500\t0"

-- a transfer as it is written; and nearly so, each in one way: another word, a sign, a leading zero, a number too high, two fields in one, a blank at the end; and the field that each tells
abbrev pub transfer_line : String
transfer_line = "transfer\t2\t4\t3\t200"

abbrev pub nearly : List String
nearly =
    "pay\t2\t4\t3\t200"
    ∷ "transfer\t2\t4\t3\t+200"
    ∷ "transfer\t2\t4\t3\t0200"
    ∷ "transfer\t2\t4\t3\t18446744073709551616"
    ∷ "transfer\t2\t4\t3 200"
    ∷ "transfer\t2\t4\t3\t200 "
    ∷ []

abbrev pub nearly_fields : List ℕ
nearly_fields = 0 ∷ 4 ∷ 4 ∷ 4 ∷ 3 ∷ 4 ∷ []

-- ======== demand 2
-- two members claim, one pays the other, both pay out, a domain is granted twice, and one deposit stays unclaimed; one call is refused
unfoldable pub three_payments : List Call
three_payments =
    deposit 1 3 500 2
    ∷ deposit 2 3 300 4
    ∷ claim 2 1 3 500
    ∷ transfer 2 4 3 200
    ∷ claim 4 2 3 300
    ∷ withdraw 4 3 350 77
    ∷ withdraw 2 3 301 77
    ∷ grant 1 2 5
    ∷ grant 2 4 5
    ∷ deposit 3 3 40 2
    ∷ withdraw 2 3 100 78
    ∷ withdraw 4 3 50 79
    ∷ []

-- then one payment is sent and settled, and one is in flight; one settlement is refused
unfoldable pub worked : List Call
worked = three_payments ++ (Call.Send ∷ settle 1 ∷ settle 0 ∷ Call.Send ∷ [])

-- three deposits, of which the second is claimed, and claimed again in vain: the third differs from it in its number alone
unfoldable pub second_claimed : List Call
second_claimed = deposit 1 3 500 2 ∷ deposit 2 3 300 4 ∷ claim 4 2 3 300 ∷ deposit 3 3 300 4 ∷ claim 4 2 3 300 ∷ []

-- the records that these leave
unfoldable pub worked_records : List Record
worked_records =
    recorded 1 3 500 2 1
    ∷ recorded 2 3 200 2 4
    ∷ recorded 1 3 300 4 2
    ∷ recorded 3 3 350 4 77
    ∷ recorded 4 5 1 1 2
    ∷ recorded 4 5 1 2 4
    ∷ recorded 3 3 100 2 78
    ∷ recorded 3 3 50 4 79
    ∷ []

-- three sends among other calls
unfoldable pub three_sends : List Call
three_sends = settle 0 ∷ Call.Send ∷ settle 0 ∷ withdraw 4 3 10 80 ∷ Call.Send ∷ sign 4 5 ∷ Call.Send ∷ []

-- a piece by its numbers
abbrev pub piece : ℕ → ℕ → ℕ → ℕ → Lot
piece m a k x = record { member = m; asset = a; number = record { 0 = k }; amount = x }
