-- Words for demand 2: who holds a domain by the history, the payments that are queued and made, the accepted claims, and the pieces that a trace hands out. What is promised of them stands in Promises.
use Rattle.std.specs.Prelude.{ℕ, ◌+◌, Bool, ◌&&◌, cond, List, [], ◌∷◌, ◌++◌, eqb, take, drop, replicate, Ok, Err}
use Rattle.promises.specs.Types.{Nonce, Deposit, Payment, Record, Lot, ClaimFields, Call, Kind}
use Rattle.rules.specs.Lists.{any}
pub use Rattle.rules.specs.Tables.{no_payment}
use Rattle.rules.specs.State.{Book, view}
use Rattle.rules.specs.Effects.{holder, matches, payment_of}
use Rattle.rules.specs.Kinds.{AnyKind}
use Rattle.rules.specs.History.{kind_of, by_first, by_second}
use Rattle.rules.specs.Answer.{answer}
use Rattle.rules.specs.Runs.{run, gather, sends}
use Rattle.lots.specs.Traces.{nth_withdrawal}

-- ---- what is kept, by the history alone
-- who holds a domain, going by the grants: the one it was last granted to, and where it never was, the one who held it before
unfoldable pub held_as : AnyKind → ℕ → Record → ℕ → ℕ
held_as (Ok Kind.Claim) d r before = before
held_as (Ok Kind.Transfer) d r before = before
held_as (Ok Kind.Withdrawal) d r before = before
held_as (Ok Kind.Grant) d r before = cond (eqb r.asset d) r.second before
held_as (Err e) d r before = before

unfoldable pub held_after : ℕ → ℕ → List Record → ℕ
held_after before d [] = before
held_after before d (r ∷ rs) = held_after (held_as (kind_of r) d r before) d rs

-- from the holders at first on
abbrev pub holder_by : List ℕ → ℕ → List Record → ℕ
holder_by first d h = held_after (holder first d) d h

-- ---- numbers and nonces
-- a payment's nonce
abbrev pub nonce_of : Payment → ℕ
nonce_of p = p.nonce.0

-- ---- the queue
-- the payment that a withdrawal queues
unfoldable pub queueing : Book → Call → List Payment
queueing b (Call.Deposit d) = []
queueing b (Call.Claim c) = []
queueing b (Call.Transfer t) = []
queueing b (Call.Withdraw w) = payment_of w (view b).outside.next ∷ []
queueing b Call.Send = []
queueing b (Call.Settle n) = []
queueing b (Call.Grant g) = []
queueing b (Call.Sign g) = []
queueing b (Call.Trace n) = []

abbrev pub queued : Book → List Call → List Payment
queued b cs = gather queueing b cs

-- how many of the calls are sends, accepted or not
unfoldable pub is_send : Call → ℕ
is_send (Call.Deposit d) = 0
is_send (Call.Claim c) = 0
is_send (Call.Transfer t) = 0
is_send (Call.Withdraw w) = 0
is_send Call.Send = 1
is_send (Call.Settle n) = 0
is_send (Call.Grant g) = 0
is_send (Call.Sign g) = 0
is_send (Call.Trace n) = 0

unfoldable pub send_calls : List Call → ℕ
send_calls [] = 0
send_calls (c ∷ cs) = is_send c + send_calls cs

abbrev pub waiting_in : Book → List Payment
waiting_in b = (view b).outside.waiting

-- ---- claims
-- the claim that a call makes
unfoldable pub claiming : Book → Call → List ClaimFields
claiming b (Call.Deposit d) = []
claiming b (Call.Claim c) = c ∷ []
claiming b (Call.Transfer t) = []
claiming b (Call.Withdraw w) = []
claiming b Call.Send = []
claiming b (Call.Settle n) = []
claiming b (Call.Grant g) = []
claiming b (Call.Sign g) = []
claiming b (Call.Trace n) = []

-- the claims that were accepted, in order
abbrev pub claims : Book → List Call → List ClaimFields
claims b cs = gather claiming b cs

-- the deposit was taken by one of these claims: the claim has exactly its four fields
abbrev pub is_claimed : List ClaimFields → Deposit → Bool
is_claimed ks d = any (λ c. matches c d) ks

-- a claim of the lot's deposit number, in the lot's asset, that met one of these deposits with exactly its four fields
abbrev pub claims_lot : List Deposit → Lot → ClaimFields → Bool
claims_lot ds l c = eqb c.asset l.asset && (eqb c.number.0 l.number.0 && any (matches c) ds)

-- ---- payments
-- the payments that were made: those sent, and then those that wait
abbrev pub made : Book → List Call → List Payment
made b cs = sends b cs ++ waiting_in (run b cs)

-- the record of payment n: the history's withdrawal with n withdrawals before it
abbrev pub record_of : Book → List Call → Nonce → Record
record_of b cs n = nth_withdrawal n.0 (view (run b cs)).history

-- the payment that a withdrawal's record stands for, with this nonce
abbrev pub payment_by : Record → Nonce → Payment
payment_by r n = record { asset = r.asset; amount = r.amount; payee = r.second; nonce = n }

-- ---- traces
-- the pieces that the trace of a nonce hands out
abbrev pub traced : Book → List Call → Nonce → List Lot
traced b cs n = (answer (run b cs) (Call.Trace n)).pieces

-- ---- coins: document 01's rule for traces said once more, with no lots and nothing split
-- every member's line for every asset, coin by coin: each coin is the number of the deposit that it came from, and the oldest stands first
abbrev pub CoinLines : Type 0
CoinLines = ℕ → ℕ → List ℕ

-- what a record makes of the lines: a claim puts as many coins as its amount at the end; a transfer moves the sender's first coins, in their order, to the end of the receiver's line; a withdrawal takes the first coins away
unfoldable pub coins_as : AnyKind → Record → CoinLines → CoinLines
coins_as (Ok Kind.Claim) r lines m a = cond (by_first m a r) (lines m a ++ replicate r.amount r.second) (lines m a)
coins_as (Ok Kind.Transfer) r lines m a =
    cond (by_second m a r) (lines m a ++ take r.amount (lines r.first r.asset)) (cond (by_first m a r) (drop r.amount (lines m a)) (lines m a))
coins_as (Ok Kind.Withdrawal) r lines m a = cond (by_first m a r) (drop r.amount (lines m a)) (lines m a)
coins_as (Ok Kind.Grant) r lines m a = lines m a
coins_as (Err e) r lines m a = lines m a

unfoldable pub coins_after : CoinLines → List Record → CoinLines
coins_after lines [] = lines
coins_after lines (r ∷ rs) = coins_after (coins_as (kind_of r) r lines) rs

-- a member's line for an asset after these records, from an empty book on
abbrev pub coins_in : List Record → ℕ → ℕ → List ℕ
coins_in h m a = coins_after (λ m a. []) h m a
