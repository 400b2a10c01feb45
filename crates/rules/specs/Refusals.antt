-- Document 01, "Reply numbers": for each call its table of refusals, the number and when it is given; those that say that a table is full stand in a table of their own. Two stand apart: Malformed is about the line (Lines), BadBook about the book (Frame, History).
use Rattle.std.specs.Prelude.{ℕ, ◌+◌, Bool, not, ◌||◌, List, [], ◌∷◌, ◌++◌, leb, ltb, eqb, length}
use Rattle.rules.specs.Types.{Nonce, Refusal, Call}
use Rattle.rules.specs.Limits.{is_member, is_asset, is_domain, is_amount, is_payee, ceiling, highest_number, inbox_rows, outbox_rows, history_rows}
use Rattle.rules.specs.Lists.{any}
use Rattle.rules.specs.State.{State, payments}
use Rattle.rules.specs.Replies.{refuse}
use Rattle.rules.specs.Effects.{balance, holder, matches, total, oldest}
use Rattle.rules.specs.History.{withdrawals}

-- "is there room": a table of so many rows, of which these are used, has no row for one more
unfoldable pub full : {A : Type 0} → ℕ → List A → Bool
full rows used = leb rows (length used)

-- 12: 64 unclaimed; 16: 32 payments, waiting or in flight; 17: 1,024 records
abbrev pub inbox_full : State → ℕ × Bool
inbox_full s = refuse Refusal.InboxFull (full inbox_rows s.inbox)

abbrev pub outbox_full : State → ℕ × Bool
outbox_full s = refuse Refusal.OutboxFull (full outbox_rows (payments s.outside))

abbrev pub history_full : State → ℕ × Bool
history_full s = refuse Refusal.HistoryFull (full history_rows s.history)

-- a field outside its limit
abbrev pub bad_member : ℕ → ℕ × Bool
bad_member m = refuse Refusal.BadMember (not (is_member m))

abbrev pub bad_members : ℕ → ℕ → ℕ × Bool
bad_members m n = refuse Refusal.BadMember (not (is_member m) || not (is_member n))

abbrev pub bad_asset : ℕ → ℕ × Bool
bad_asset a = refuse Refusal.BadAsset (not (is_asset a))

abbrev pub bad_domain : ℕ → ℕ × Bool
bad_domain d = refuse Refusal.BadDomain (not (is_domain d))

abbrev pub bad_amount : ℕ → ℕ × Bool
bad_amount x = refuse Refusal.BadAmount (not (is_amount x))

-- 8: transfer or grant to oneself
abbrev pub same_member : ℕ → ℕ → ℕ × Bool
same_member m n = refuse Refusal.SameMember (eqb m n)

-- 14: balance below the amount
abbrev pub short : State → ℕ → ℕ → ℕ → ℕ × Bool
short s m a x = refuse Refusal.Short (ltb (balance s.balances m a) x)

-- 15: the domain is another's
abbrev pub not_holder : State → ℕ → ℕ → ℕ × Bool
not_holder s m d = refuse Refusal.NotHolder (not (eqb (holder s.holders d) m))

-- 20 and 21, with how many rows the two lent tables have: "each with at least as many rows as the history has records"
unfoldable pub trace_refusals : ℕ → ℕ → State → Nonce → List (ℕ × Bool)
trace_refusals workRows pieceRows s n =
    refuse Refusal.TableSmall (ltb workRows (length s.history) || ltb pieceRows (length s.history))
    ∷ refuse Refusal.NoSuchPayment (leb (withdrawals s.history) n.0)
    ∷ []

unfoldable pub refusals : State → Call → List (ℕ × Bool)
refusals s (Call.Deposit d) =
    bad_member d.member
    ∷ bad_asset d.asset
    ∷ bad_amount d.amount
    ∷ refuse Refusal.Old (leb d.number.0 s.outside.last.0)
    ∷ refuse Refusal.Gap (ltb (s.outside.last.0 + 1) d.number.0 || ltb highest_number d.number.0)
    ∷ refuse Refusal.Ceiling (ltb ceiling (total s.outside.lifetime d.asset + d.amount))
    ∷ []
refusals s (Call.Claim c) =
    bad_member c.member
    ∷ bad_asset c.asset
    ∷ bad_amount c.amount
    ∷ refuse Refusal.NoSuchDeposit (not (any (matches c) s.inbox))
    ∷ []
refusals s (Call.Transfer t) =
    bad_members t.from t.to
    ∷ bad_asset t.asset
    ∷ bad_amount t.amount
    ∷ same_member t.from t.to
    ∷ short s t.from t.asset t.amount
    ∷ []
refusals s (Call.Withdraw w) =
    bad_member w.member
    ∷ bad_asset w.asset
    ∷ bad_amount w.amount
    ∷ refuse Refusal.BadPayee (not (is_payee w.payee))
    ∷ short s w.member w.asset w.amount
    ∷ []
refusals s Call.Send = refuse Refusal.NothingWaiting (eqb (length s.outside.waiting) 0) ∷ []
refusals s (Call.Settle n) =
    refuse Refusal.NotNext (eqb (length s.outside.inflight) 0 || not (eqb (oldest s.outside.inflight).nonce.0 n.0)) ∷ []
refusals s (Call.Grant g) =
    bad_members g.from g.to
    ∷ bad_domain g.domain
    ∷ same_member g.from g.to
    ∷ not_holder s g.from g.domain
    ∷ []
refusals s (Call.Sign g) = bad_member g.member ∷ bad_domain g.domain ∷ not_holder s g.member g.domain ∷ []
-- said as with tables of as many rows as a history can have: the book runner's have a row for each record
refusals s (Call.Trace n) = trace_refusals history_rows history_rows s n

-- the tables that a call needs a row of, and that have none
unfoldable pub fulls : State → Call → List (ℕ × Bool)
fulls s (Call.Deposit d) = inbox_full s ∷ []
fulls s (Call.Claim c) = history_full s ∷ []
fulls s (Call.Transfer t) = history_full s ∷ []
fulls s (Call.Withdraw w) = outbox_full s ∷ history_full s ∷ []
fulls s Call.Send = []
fulls s (Call.Settle n) = []
fulls s (Call.Grant g) = history_full s ∷ []
fulls s (Call.Sign g) = []
fulls s (Call.Trace n) = []

-- all that a call can be refused for but 1 Malformed and 2 BadBook
abbrev pub table : State → Call → List (ℕ × Bool)
table s c = refusals s c ++ fulls s c
