-- Document 01, "Readings that look right", and of document 02 "Say which field": for each a session in which the wrong reading would write other lines. What the rules write stands beside it; what the wrong reading would write is said above.
use Prim.Native.String.{String}
use Rattle.std.specs.Prelude.{List, [], ◌∷◌}
use Rattle.rules.specs.Types.{Call}
use Rattle.rules.specs.Cases.{deposit, claim, withdraw, settle}

pub record Reading : Type 0 where
  pub written : String
  pub answered : String

abbrev pub reading : String → String → Reading
reading written answered = record { written = written; answered = answered }

-- "The paper queues ν and raises it at broadcast, so two waiting payments share a nonce. Ours differ." Both wait before the first is sent; by the paper both would be sent with nonce 0.
abbrev pub two_waiting : Reading
two_waiting =
    reading
    "deposit\t1\t3\t500\t2\nclaim\t2\t1\t3\t500\nwithdraw\t2\t3\t100\t7\nwithdraw\t2\t3\t100\t7\nsend\nsend\n"
    "1\t0\n2\t0\n3\t0\n4\t0\n5\t0\t0\t3\t100\t7\n6\t0\t1\t3\t100\t7\nend\t6\t0\n"

-- "A separate refusal for another member's deposit. It tells the asker that the deposit exists." Member 4 claims what is member 2's, and then what nobody has: the same number.
abbrev pub anothers_deposit : Reading
anothers_deposit = reading "deposit\t1\t3\t500\t2\nclaim\t4\t1\t3\t500\nclaim\t4\t9\t3\t500\n" "1\t0\n2\t13\n3\t13\nend\t1\t2\n"

-- "Taking a lost notice as a deposit of nothing and going on." Notice 2 is lost: 3 is a Gap, and again, until 2 comes; 4 with no amount is Malformed at field 3 and does not use its number.
abbrev pub lost_notice : Reading
lost_notice =
    reading
    "deposit\t1\t3\t500\t2\ndeposit\t3\t3\t50\t2\ndeposit\t3\t3\t50\t2\ndeposit\t2\t3\t20\t4\ndeposit\t3\t3\t50\t2\ndeposit\t4\t3\t\t2\ndeposit\t5\t3\t10\t2\n"
    "1\t0\n2\t10\n3\t10\n4\t0\n5\t0\n6\t1\t3\n7\t10\nend\t3\t4\n"

-- "Splitting the newest lot, or putting a remainder at the back." Lots 1 and 2 of 100 each; 60 leave, and 60 again. Newest first, trace 0 would be 2 60. With the remainder at the back, trace 1 would be 2 60.
abbrev pub split_lot : Reading
split_lot =
    reading
    "deposit\t1\t3\t100\t2\ndeposit\t2\t3\t100\t2\nclaim\t2\t1\t3\t100\nclaim\t2\t2\t3\t100\nwithdraw\t2\t3\t60\t7\nwithdraw\t2\t3\t60\t7\ntrace\t0\ntrace\t1\n"
    "1\t0\n2\t0\n3\t0\n4\t0\n5\t0\n6\t0\n7\t0\t1\t1\t60\n8\t0\t2\t1\t40\t2\t20\nend\t8\t0\n"

-- the same in a transfer: 60 of lot 1 pass to member 4, whose own lot 3 came before. Member 2's next 60 are 1 40 2 20; member 4's 80 are 3 50 1 30. With the pieces put in front, member 4's would be 1 60 3 20.
abbrev pub split_transfer : Reading
split_transfer =
    reading
    "deposit\t1\t3\t100\t2\ndeposit\t2\t3\t100\t2\ndeposit\t3\t3\t50\t4\nclaim\t2\t1\t3\t100\nclaim\t2\t2\t3\t100\nclaim\t4\t3\t3\t50\ntransfer\t2\t4\t3\t60\nwithdraw\t2\t3\t60\t7\nwithdraw\t4\t3\t80\t7\ntrace\t0\ntrace\t1\n"
    "1\t0\n2\t0\n3\t0\n4\t0\n5\t0\n6\t0\n7\t0\n8\t0\n9\t0\n10\t0\t2\t1\t40\t2\t20\n11\t0\t2\t3\t50\t1\t30\nend\t11\t0\n"

-- "the pieces join the receiver's line in the order taken": 150 of lots 1 and 2 pass to member 4, first 30 of lot 1 and then 70 of it with 50 of lot 2, who pays 120. In another order they would be 1 30 2 50 1 40. Equal numbers are not joined: lot 1 comes to member 4 twice, and pays as two pieces.
abbrev pub pieces_in_order : Reading
pieces_in_order =
    reading
    "deposit\t1\t3\t100\t2\ndeposit\t2\t3\t100\t2\nclaim\t2\t1\t3\t100\nclaim\t2\t2\t3\t100\ntransfer\t2\t4\t3\t30\ntransfer\t2\t4\t3\t120\nwithdraw\t4\t3\t120\t7\ntrace\t0\n"
    "1\t0\n2\t0\n3\t0\n4\t0\n5\t0\n6\t0\n7\t0\n8\t0\t3\t1\t30\t1\t70\t2\t20\nend\t8\t0\n"

-- Document 02, "Say which field": an unknown word, none, one in capitals, an empty one; an empty amount; a number that is not there; no number; one too many, empty or not, after four and after none; and the first field that does not read, not the last. With the word counted as field 1 each would be one higher.
abbrev pub which_field : Reading
which_field =
    reading
    "pay\t2\t4\t3\t200\n\nSEND\n\tsend\ndeposit\t3\t3\t\t2\ndeposit\t1\t3\ntransfer\t2\t4\t3\t2x0\ntransfer\t2\t4\t3\t200\t1\ntransfer\t2\t4\t3\t200\t\nsend\t\ntransfer\t02\t4\t3\t200\t1\n"
    "1\t1\t0\n2\t1\t0\n3\t1\t0\n4\t1\t0\n5\t1\t3\n6\t1\t3\n7\t1\t4\n8\t1\t5\n9\t1\t5\n10\t1\t1\n11\t1\t1\nend\t0\t11\n"

-- "An over-long .. line gives the first field that does not read": an unknown word; one number too many, of 130 digits; a number of 130 digits; and an empty field before one of 130 digits. With the field in which the line grows too long the last would be 4.
abbrev pub which_of_long : Reading
which_of_long =
    reading
    "ppp\t777777777777777777777777777777777777777777777777777777777777777777777777777777777777777777777777777777777777777777777777777777\nsettle\t0\t1111111111111111111111111111111111111111111111111111111111111111111111111111111111111111111111111111111111111111111111111111111111\ngrant\t1\t2222222222222222222222222222222222222222222222222222222222222222222222222222222222222222222222222222222222222222222222222222222222\ntransfer\t2\t\t3\t9999999999999999999999999999999999999999999999999999999999999999999999999999999999999999999999999999999999999999999999999999999999\n"
    "1\t1\t0\n2\t1\t2\n3\t1\t2\n4\t1\t2\nend\t0\t4\n"

-- "An .. unfinished line gives .. if all read, their count with the word": the word alone, and a word with one number; where one is missing, that one. With the last field that came they would be 0, 1 and 3.
abbrev pub unfinished_send : Reading
unfinished_send = reading "send" "1\t1\t1\nend\t0\t1\n"

abbrev pub unfinished_settle : Reading
unfinished_settle = reading "settle\t0" "1\t1\t2\nend\t0\t1\n"

abbrev pub unfinished_transfer : Reading
unfinished_transfer = reading "transfer\t2\t4\t3" "1\t1\t4\nend\t0\t1\n"

unfoldable pub readings : List Reading
readings =
    two_waiting
    ∷ anothers_deposit
    ∷ lost_notice
    ∷ split_lot
    ∷ split_transfer
    ∷ pieces_in_order
    ∷ which_field
    ∷ which_of_long
    ∷ unfinished_send
    ∷ unfinished_settle
    ∷ unfinished_transfer
    ∷ []

-- "The paper's Proposition 3 equates balances with net deposits. That fails while anything is unclaimed or in the outbox": 300 unclaimed, 350 in balances, 100 in the outbox and 50 settled, of 800 deposited
unfoldable pub unclaimed_and_queued : List Call
unclaimed_and_queued =
    deposit 1 3 500 2
    ∷ deposit 2 3 300 4
    ∷ claim 2 1 3 500
    ∷ withdraw 2 3 50 7
    ∷ withdraw 2 3 100 8
    ∷ Call.Send
    ∷ settle 0
    ∷ []
