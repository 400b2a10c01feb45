-- Demand 3 is not empty: sessions that differ and look the same, to the outside or to member 2, with something to see. What they show is computed in proofs/Demand3Examples.
use Rattle.std.specs.Prelude.{ℕ, ◌*◌, List, [], ◌∷◌, ◌++◌, map, replicate}
use Rattle.promises.specs.Types.{Deposit, Payment, Record, Call}
use Rattle.rules.specs.Limits.{inbox_rows, outbox_rows, history_rows}
use Rattle.rules.specs.Tables.{deposit_shape, payment_shape, record_shape}
use Rattle.rules.specs.State.{Book, Outside, desk_of, empty_state}
use Rattle.rules.specs.Sheet.{up_from}
use Rattle.rules.specs.Cases.{deposit, claim, transfer, withdraw, settle, grant, sign}
use Rattle.rules.specs.Views.{Seen, OutsideView, MemberView}

-- an empty book whose unused rows hold sevens
unfoldable pub written_on : Book
written_on =
    record {
      desk = desk_of empty_state;
      inbox = replicate (inbox_rows * deposit_shape.width) 7;
      outbox = replicate (outbox_rows * payment_shape.width) 7;
      history = replicate (history_rows * record_shape.width) 7;
    }

-- rows by their numbers
abbrev pub deposited : ℕ → ℕ → ℕ → ℕ → Deposit
deposited n a x m = deposit_shape.row (n ∷ a ∷ x ∷ m ∷ [])

abbrev pub payment : ℕ → ℕ → ℕ → ℕ → Payment
payment a x p n = payment_shape.row (a ∷ x ∷ p ∷ n ∷ [])

abbrev pub recorded : ℕ → ℕ → ℕ → ℕ → ℕ → Record
recorded k a x first second = record_shape.row (k ∷ a ∷ x ∷ first ∷ second ∷ [])

-- ---- the outside
-- member 2 claims, and pays three times; the first payment is sent and settled, the second is in flight
unfoldable pub one_pays : List Call
one_pays =
    deposit 1 3 500 2
    ∷ claim 2 1 3 500
    ∷ withdraw 2 3 350 77
    ∷ withdraw 2 3 50 78
    ∷ withdraw 2 3 20 79
    ∷ Call.Send
    ∷ settle 0
    ∷ Call.Send
    ∷ []

-- to the outside the same: inside, most of it passes to member 4, who pays twice; a domain is granted and used; and three calls are refused
unfoldable pub two_pay : List Call
two_pay =
    Call.Send
    ∷ grant 1 2 5
    ∷ deposit 1 3 500 2
    ∷ claim 2 1 3 500
    ∷ transfer 2 4 3 450
    ∷ withdraw 4 3 350 77
    ∷ sign 2 5
    ∷ withdraw 4 3 101 78
    ∷ withdraw 4 3 50 78
    ∷ withdraw 2 3 20 79
    ∷ Call.Send
    ∷ settle 1
    ∷ settle 0
    ∷ Call.Send
    ∷ []

-- what the outside sees of either
unfoldable pub both_seen : List Seen
both_seen =
    Seen.deposit (deposited 1 3 500 2)
    ∷ Seen.withdrawal 3 350 77
    ∷ Seen.withdrawal 3 50 78
    ∷ Seen.withdrawal 3 20 79
    ∷ Seen.send
    ∷ Seen.settlement (record { 0 = 0 })
    ∷ Seen.send
    ∷ []

-- what both show
unfoldable pub both_show : OutsideView
both_show =
    record {
      inflight = payment 3 50 78 1 ∷ [];
      waiting = payment 3 20 79 2 ∷ [];
      next = record { 0 = 3 };
      send_answers = payment 3 350 77 0 ∷ payment 3 50 78 1 ∷ [];
      settlements = payment 3 350 77 0 ∷ [];
      chain_totals = 0 ∷ 0 ∷ 150 ∷ 0 ∷ 0 ∷ 0 ∷ 0 ∷ 0 ∷ [];
    }

unfoldable pub both_outside : Outside
both_outside =
    record {
      lifetime = 0 ∷ 0 ∷ 500 ∷ 0 ∷ 0 ∷ 0 ∷ 0 ∷ 0 ∷ [];
      settled = 0 ∷ 0 ∷ 350 ∷ 0 ∷ 0 ∷ 0 ∷ 0 ∷ 0 ∷ [];
      last = record { 0 = 1 };
      next = record { 0 = 3 };
      inflight = payment 3 50 78 1 ∷ [];
      waiting = payment 3 20 79 2 ∷ [];
    }

-- ---- member 2
-- member 4 claims a deposit, and pays
unfoldable pub another_pays : List Call
another_pays =
    deposit 1 3 500 2
    ∷ deposit 2 3 300 4
    ∷ claim 2 1 3 500
    ∷ grant 1 2 5
    ∷ transfer 2 4 3 200
    ∷ claim 4 2 3 300
    ∷ withdraw 4 3 350 77
    ∷ deposit 3 6 40 2
    ∷ []

-- to member 2 the same: the other deposit is member 1's and stays unclaimed, a domain passes from 1 to 4, and the payment is another
unfoldable pub another_grants : List Call
another_grants =
    deposit 1 3 500 2
    ∷ claim 2 1 3 500
    ∷ grant 1 4 6
    ∷ grant 1 2 5
    ∷ transfer 2 4 3 200
    ∷ deposit 2 1 9 1
    ∷ withdraw 4 3 10 65
    ∷ Call.Send
    ∷ deposit 3 6 40 2
    ∷ []

-- what member 2 sees of either
unfoldable pub both_seen_by : List Call
both_seen_by = deposit 1 3 500 2 ∷ claim 2 1 3 500 ∷ grant 1 2 5 ∷ transfer 2 4 3 200 ∷ deposit 3 6 40 2 ∷ []

-- what both show member 2
unfoldable pub both_show_member : MemberView
both_show_member =
    record {
      balances = 0 ∷ 0 ∷ 300 ∷ 0 ∷ 0 ∷ 0 ∷ 0 ∷ 0 ∷ [];
      unclaimed = deposited 3 6 40 2 ∷ [];
      domains = 5 ∷ [];
      statement = recorded 1 3 500 2 1 ∷ recorded 4 5 1 1 2 ∷ recorded 2 3 200 2 4 ∷ [];
    }

-- ---- member 2's next call
-- one done and one refused of each kind; 4 holds domain 6 after the second session and 1 after the first, and member 2 hears the same
unfoldable pub asked : List Call
asked =
    claim 2 3 6 40
    ∷ claim 2 2 3 300
    ∷ transfer 2 7 3 300
    ∷ transfer 2 7 3 301
    ∷ withdraw 2 3 300 9
    ∷ withdraw 2 3 301 9
    ∷ grant 2 4 5
    ∷ grant 2 4 6
    ∷ sign 2 5
    ∷ sign 2 6
    ∷ []

-- the first session again, and then member 4 fills the outbox: there is no room, and to member 2 all of it is the same
unfoldable pub crowded : List Call
crowded = another_pays ++ map (λ p. withdraw 4 3 1 p) (up_from 1 31)

-- the numbers that both give, each alone
unfoldable pub both_reply : List ℕ
both_reply = 0 ∷ 13 ∷ 0 ∷ 14 ∷ 0 ∷ 14 ∷ 0 ∷ 15 ∷ 0 ∷ 15 ∷ []

-- and those that the crowded book gives: one withdrawal gets 16, and every other call what it got
unfoldable pub crowded_reply : List ℕ
crowded_reply = 0 ∷ 13 ∷ 0 ∷ 14 ∷ 16 ∷ 14 ∷ 0 ∷ 15 ∷ 0 ∷ 15 ∷ []
