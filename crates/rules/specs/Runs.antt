-- Lists of calls, one after the other, from some book on: the book they lead to, which of them are accepted, and what accepted calls leave behind.
use Rattle.std.specs.Prelude.{ℕ, List, [], ◌∷◌, ◌++◌, take, drop}
use Rattle.rules.specs.Types.{Deposit, Payment, Call}
use Rattle.rules.specs.State.{Book, view}
use Rattle.rules.specs.Replies.{if_done}
use Rattle.rules.specs.Effects.{oldest}
use Rattle.rules.specs.Answer.{answer, reply_number}

-- the book after one call, and after a list of calls
abbrev pub book_after : Book → Call → Book
book_after b c = (answer b c).book

unfoldable pub run : Book → List Call → Book
run b [] = b
run b (c ∷ cs) = run (book_after b c) cs

-- what the accepted calls among them leave behind, each by the book that it met
unfoldable pub gather : {A : Type 0} → (Book → Call → List A) → Book → List Call → List A
gather out b [] = []
gather out b (c ∷ cs) = if_done (reply_number b c) (out b c) [] ++ gather out (book_after b c) cs

abbrev pub itself : Book → Call → List Call
itself b c = c ∷ []

-- the accepted calls
abbrev pub accepted : Book → List Call → List Call
accepted b cs = gather itself b cs

-- the deposit that a call brings; the payment that it sends; the payment that it settles
unfoldable pub depositing : Book → Call → List Deposit
depositing b (Call.Deposit d) = d ∷ []
depositing b (Call.Claim c) = []
depositing b (Call.Transfer t) = []
depositing b (Call.Withdraw w) = []
depositing b Call.Send = []
depositing b (Call.Settle n) = []
depositing b (Call.Grant g) = []
depositing b (Call.Sign g) = []
depositing b (Call.Trace n) = []

unfoldable pub sending : Book → Call → List Payment
sending b (Call.Deposit d) = []
sending b (Call.Claim c) = []
sending b (Call.Transfer t) = []
sending b (Call.Withdraw w) = []
sending b Call.Send = oldest (view b).outside.waiting ∷ []
sending b (Call.Settle n) = []
sending b (Call.Grant g) = []
sending b (Call.Sign g) = []
sending b (Call.Trace n) = []

unfoldable pub settling : Book → Call → List Payment
settling b (Call.Deposit d) = []
settling b (Call.Claim c) = []
settling b (Call.Transfer t) = []
settling b (Call.Withdraw w) = []
settling b Call.Send = []
settling b (Call.Settle n) = oldest (view b).outside.inflight ∷ []
settling b (Call.Grant g) = []
settling b (Call.Sign g) = []
settling b (Call.Trace n) = []

-- the deposits that were accepted, the payments that sends answered, and those that settled, in order
abbrev pub deposits : Book → List Call → List Deposit
deposits b cs = gather depositing b cs

abbrev pub sends : Book → List Call → List Payment
sends b cs = gather sending b cs

abbrev pub settlements : Book → List Call → List Payment
settlements b cs = gather settling b cs

-- what the (k+1)th send sends: one payment, or nothing where there are not so many sends
abbrev pub sent_after : ℕ → Book → List Call → List Payment
sent_after k b cs = take 1 (drop k (sends b cs))
