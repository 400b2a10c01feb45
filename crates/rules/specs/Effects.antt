-- Document 01, "The calls": what each does where nothing is refused, part by part. What a call does to one part depends on the call and that part alone.
use Rattle.std.specs.Prelude.{ℕ, ◌+◌, ◌-◌, ◌*◌, Bool, true, false, ◌&&◌, cond, List, [], ◌∷◌, ◌++◌, eqb, get_or, set, take, drop}
use Rattle.rules.specs.Types.{Nonce, Deposit, Payment, Record, ClaimFields, TransferFields, WithdrawalFields, GrantFields, Call}
use Rattle.rules.specs.Limits.{is_member, is_asset, is_domain, asset_count}
use Rattle.rules.specs.Lists.{index_of}
use Rattle.rules.specs.Tables.{Edit, edited, appended, no_payment}
use Rattle.rules.specs.State.{Outside, State}

-- ---- balances: the eight of member 1, then those of member 2, and so on
abbrev pub cell : ℕ → ℕ → ℕ
cell m a = (m - 1) * asset_count + (a - 1)

-- a member's balance in an asset; outside the limits there is none, so 0
unfoldable pub balance : List ℕ → ℕ → ℕ → ℕ
balance bs m a = cond (is_member m && is_asset a) (get_or bs (cell m a) 0) 0

unfoldable pub credit : List ℕ → ℕ → ℕ → ℕ → List ℕ
credit bs m a x = set bs (cell m a) (balance bs m a + x)

unfoldable pub debit : List ℕ → ℕ → ℕ → ℕ → List ℕ
debit bs m a x = set bs (cell m a) (balance bs m a - x)

unfoldable pub balances_after : Call → List ℕ → List ℕ
balances_after (Call.Deposit d) bs = bs
balances_after (Call.Claim c) bs = credit bs c.member c.asset c.amount
balances_after (Call.Transfer t) bs = credit (debit bs t.from t.asset t.amount) t.to t.asset t.amount
balances_after (Call.Withdraw w) bs = debit bs w.member w.asset w.amount
balances_after Call.Send bs = bs
balances_after (Call.Settle n) bs = bs
balances_after (Call.Grant g) bs = bs
balances_after (Call.Sign s) bs = bs
balances_after (Call.Trace n) bs = bs

-- ---- holders: of domain 1, then of domain 2, and so on
-- who holds a domain; outside the limits nobody, so 0
unfoldable pub holder : List ℕ → ℕ → ℕ
holder hs d = cond (is_domain d) (get_or hs (d - 1) 0) 0

-- "the domain passes to another member"
unfoldable pub holders_after : Call → List ℕ → List ℕ
holders_after (Call.Deposit d) hs = hs
holders_after (Call.Claim c) hs = hs
holders_after (Call.Transfer t) hs = hs
holders_after (Call.Withdraw w) hs = hs
holders_after Call.Send hs = hs
holders_after (Call.Settle n) hs = hs
holders_after (Call.Grant g) hs = set hs (g.domain - 1) g.to
holders_after (Call.Sign s) hs = hs
holders_after (Call.Trace n) hs = hs

-- ---- inbox
-- "the unclaimed deposit with exactly these four"
unfoldable pub matches : ClaimFields → Deposit → Bool
matches c d = eqb d.number.0 c.number.0 && (eqb d.asset c.asset && (eqb d.amount c.amount && eqb d.member c.member))

-- a deposit is "added at the end of the inbox"; a claimed one "leaves the inbox, the rest keeping their order"
unfoldable pub inbox_edit : Call → List Deposit → Edit Deposit
inbox_edit (Call.Deposit d) inbox = Edit.add d
inbox_edit (Call.Claim c) inbox = Edit.take_out (index_of (matches c) inbox)
inbox_edit (Call.Transfer t) inbox = Edit.keep
inbox_edit (Call.Withdraw w) inbox = Edit.keep
inbox_edit Call.Send inbox = Edit.keep
inbox_edit (Call.Settle n) inbox = Edit.keep
inbox_edit (Call.Grant g) inbox = Edit.keep
inbox_edit (Call.Sign s) inbox = Edit.keep
inbox_edit (Call.Trace n) inbox = Edit.keep

-- ---- outside
-- a total by asset; outside the limits there is none, so 0
unfoldable pub total : List ℕ → ℕ → ℕ
total ts a = cond (is_asset a) (get_or ts (a - 1) 0) 0

unfoldable pub raised : List ℕ → ℕ → ℕ → List ℕ
raised ts a x = set ts (a - 1) (total ts a + x)

-- the oldest payment of a list; of none, zeros
unfoldable pub oldest : List Payment → Payment
oldest ps = get_or ps 0 no_payment

-- "asset, amount, payee and the next nonce join the end of the outbox"
abbrev pub payment_of : WithdrawalFields → Nonce → Payment
payment_of w n = record { asset = w.asset; amount = w.amount; payee = w.payee; nonce = n }

-- the number is used up, and the asset's lifetime deposits grow
unfoldable pub deposited : Deposit → Outside → Outside
deposited d o =
    record { lifetime = raised o.lifetime d.asset d.amount; settled = o.settled; last = d.number; next = o.next; inflight = o.inflight; waiting = o.waiting }

-- the payment waits, last in line, "and the next nonce rises by 1"
unfoldable pub withdrawn : WithdrawalFields → Outside → Outside
withdrawn w o =
    record {
      lifetime = o.lifetime;
      settled = o.settled;
      last = o.last;
      next = record { 0 = o.next.0 + 1 };
      inflight = o.inflight;
      waiting = o.waiting ++ (payment_of w o.next ∷ []);
    }

-- "the oldest waiting payment becomes in flight"
unfoldable pub sent : Outside → Outside
sent o =
    record { lifetime = o.lifetime; settled = o.settled; last = o.last; next = o.next; inflight = o.inflight ++ take 1 o.waiting; waiting = drop 1 o.waiting }

-- the oldest payment in flight "leaves the outbox and the asset's settled total grows"
unfoldable pub settled_one : Outside → Outside
settled_one o =
    record {
      lifetime = o.lifetime;
      settled = raised o.settled (oldest o.inflight).asset (oldest o.inflight).amount;
      last = o.last;
      next = o.next;
      inflight = drop 1 o.inflight;
      waiting = o.waiting;
    }

unfoldable pub outside_after : Call → Outside → Outside
outside_after (Call.Deposit d) o = deposited d o
outside_after (Call.Claim c) o = o
outside_after (Call.Transfer t) o = o
outside_after (Call.Withdraw w) o = withdrawn w o
outside_after Call.Send o = sent o
outside_after (Call.Settle n) o = settled_one o
outside_after (Call.Grant g) o = o
outside_after (Call.Sign s) o = o
outside_after (Call.Trace n) o = o

-- the same as an edit of the outbox's rows, those in flight and then those that wait: a sent payment "keeps its outbox row"
unfoldable pub outbox_edit : Call → Outside → Edit Payment
outbox_edit (Call.Deposit d) o = Edit.keep
outbox_edit (Call.Claim c) o = Edit.keep
outbox_edit (Call.Transfer t) o = Edit.keep
outbox_edit (Call.Withdraw w) o = Edit.add (payment_of w o.next)
outbox_edit Call.Send o = Edit.keep
outbox_edit (Call.Settle n) o = Edit.take_out 0
outbox_edit (Call.Grant g) o = Edit.keep
outbox_edit (Call.Sign s) o = Edit.keep
outbox_edit (Call.Trace n) o = Edit.keep

-- ---- history: "Claim, transfer, withdraw and grant each append one history record"
abbrev pub claim_record : ClaimFields → Record
claim_record c = record { kind = 1; asset = c.asset; amount = c.amount; first = c.member; second = c.number.0 }

abbrev pub transfer_record : TransferFields → Record
transfer_record t = record { kind = 2; asset = t.asset; amount = t.amount; first = t.from; second = t.to }

abbrev pub withdrawal_record : WithdrawalFields → Record
withdrawal_record w = record { kind = 3; asset = w.asset; amount = w.amount; first = w.member; second = w.payee }

abbrev pub grant_record : GrantFields → Record
grant_record g = record { kind = 4; asset = g.domain; amount = 1; first = g.from; second = g.to }

unfoldable pub records_of : Call → List Record
records_of (Call.Deposit d) = []
records_of (Call.Claim c) = claim_record c ∷ []
records_of (Call.Transfer t) = transfer_record t ∷ []
records_of (Call.Withdraw w) = withdrawal_record w ∷ []
records_of Call.Send = []
records_of (Call.Settle n) = []
records_of (Call.Grant g) = grant_record g ∷ []
records_of (Call.Sign s) = []
records_of (Call.Trace n) = []

-- ---- the whole
unfoldable pub effect : Call → State → State
effect c s =
    record {
      balances = balances_after c s.balances;
      holders = holders_after c s.holders;
      inbox = edited (inbox_edit c s.inbox) s.inbox;
      outside = outside_after c s.outside;
      history = s.history ++ records_of c;
    }

-- a sign request "changes nothing", nor does a trace
unfoldable pub changes_nothing : Call → Bool
changes_nothing (Call.Deposit d) = false
changes_nothing (Call.Claim c) = false
changes_nothing (Call.Transfer t) = false
changes_nothing (Call.Withdraw w) = false
changes_nothing Call.Send = false
changes_nothing (Call.Settle n) = false
changes_nothing (Call.Grant g) = false
changes_nothing (Call.Sign s) = true
changes_nothing (Call.Trace n) = true

-- what a call does to the rows of each table: one edit each
pub record Edits : Type 0 where
  pub inbox : Edit Deposit
  pub outbox : Edit Payment
  pub history : Edit Record

unfoldable pub edits : Call → State → Edits
edits c s = record { inbox = inbox_edit c s.inbox; outbox = outbox_edit c s.outside; history = appended (records_of c) }
