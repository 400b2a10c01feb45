-- Document 01, "Either side of each limit": the cases marked P as one list, each a call on the book that some calls lead to, and the number that it must get.
use Rattle.std.specs.Prelude.{ℕ, List, [], ◌∷◌}
use Rattle.rules.specs.Types.{Call}
use Rattle.rules.specs.Limits.{ceiling}
use Rattle.rules.specs.State.{empty_book}
use Rattle.rules.specs.Answer.{answer}
use Rattle.rules.specs.Runs.{run}

-- the calls by their words and fields, as lines have them
abbrev pub deposit : ℕ → ℕ → ℕ → ℕ → Call
deposit n a x m = Call.Deposit (record { number = record { 0 = n }; asset = a; amount = x; member = m })

abbrev pub claim : ℕ → ℕ → ℕ → ℕ → Call
claim m n a x = Call.Claim (record { member = m; number = record { 0 = n }; asset = a; amount = x })

abbrev pub transfer : ℕ → ℕ → ℕ → ℕ → Call
transfer m n a x = Call.Transfer (record { from = m; to = n; asset = a; amount = x })

abbrev pub withdraw : ℕ → ℕ → ℕ → ℕ → Call
withdraw m a x p = Call.Withdraw (record { member = m; asset = a; amount = x; payee = p })

abbrev pub settle : ℕ → Call
settle n = Call.Settle (record { 0 = n })

abbrev pub grant : ℕ → ℕ → ℕ → Call
grant m n d = Call.Grant (record { from = m; to = n; domain = d })

abbrev pub sign : ℕ → ℕ → Call
sign m d = Call.Sign (record { member = m; domain = d })

abbrev pub trace : ℕ → Call
trace n = Call.Trace (record { 0 = n })

pub record Case : Type 0 where
  pub before : List Call
  pub asked : Call
  pub expected : ℕ

abbrev pub case : List Call → Call → ℕ → Case
case before asked expected = record { before = before; asked = asked; expected = expected }

-- what the rules give
unfoldable pub given : Case → ℕ
given c = (answer (run empty_book c.before) c.asked).reply.number

-- member 2 with a balance of 300 in asset 3
abbrev pub with300 : List Call
with300 = deposit 1 3 300 2 ∷ claim 2 1 3 300 ∷ []

unfoldable pub cases : List Case
cases =
    -- P1 claim 2 1 3 500 on an empty book: 13
    case [] (claim 2 1 3 500) 13
    -- P2 deposit 1 of the ceiling: 0, then deposit 2 of 1 in that asset: 11
    ∷ case [] (deposit 1 3 ceiling 2) 0
    ∷ case (deposit 1 3 ceiling 2 ∷ []) (deposit 2 3 1 2) 11
    -- P3 amount 0: 6
    ∷ case [] (deposit 1 3 0 2) 6
    ∷ case [] (claim 2 1 3 0) 6
    ∷ case [] (transfer 2 4 3 0) 6
    ∷ case [] (withdraw 2 3 0 77) 6
    -- P4 on an empty book deposit 0: 9, deposit 2: 10
    ∷ case [] (deposit 0 3 500 2) 9
    ∷ case [] (deposit 2 3 500 2) 10
    -- P5 transfer 2 2 3 5 on an empty book: 8, not 14
    ∷ case [] (transfer 2 2 3 5) 8
    -- P6 member 17: 3
    ∷ case [] (deposit 1 3 500 17) 3
    ∷ case [] (claim 17 1 3 500) 3
    ∷ case [] (transfer 17 4 3 5) 3
    ∷ case [] (transfer 2 17 3 5) 3
    ∷ case [] (withdraw 17 3 5 77) 3
    ∷ case [] (grant 17 2 5) 3
    ∷ case [] (grant 1 17 5) 3
    ∷ case [] (sign 17 5) 3
    -- P7 with balance 300, withdraw 300: 0
    ∷ case with300 (withdraw 2 3 300 77) 0
    -- P8 with balance 300, withdraw 301: 14
    ∷ case with300 (withdraw 2 3 301 77) 14
    -- P9 on an empty book sign 1 5: 0, sign 2 5: 15
    ∷ case [] (sign 1 5) 0
    ∷ case [] (sign 2 5) 15
    -- P10 after grant 1 2 5 these two change over
    ∷ case (grant 1 2 5 ∷ []) (sign 1 5) 15
    ∷ case (grant 1 2 5 ∷ []) (sign 2 5) 0
    -- P11 empty book: send 18, settle 0: 19
    ∷ case [] Call.Send 18
    ∷ case [] (settle 0) 19
    -- P12 a claim by the wrong member: 13
    ∷ case (deposit 1 3 500 2 ∷ []) (claim 4 1 3 500) 13
    ∷ []
