-- Demand 3: what the outside sees and which calls it is about; what one member sees and which calls name that member.
use Rattle.std.specs.Prelude.{ℕ, Bool, false, ◌&&◌, ◌||◌, not, List, [], ◌∷◌, map, eqb}
use Rattle.rules.specs.Types.{Nonce, Deposit, Payment, Record, Call}
use Rattle.rules.specs.Limits.{asset_count, domain_count, history_rows, outbox_rows}
use Rattle.rules.specs.Lists.{those, joined}
use Rattle.rules.specs.State.{Book, State, view, payments}
use Rattle.rules.specs.Effects.{balance, holder}
use Rattle.rules.specs.History.{statement}
use Rattle.rules.specs.Refusals.{full}
use Rattle.rules.specs.Runs.{run, accepted, sends, settlements}
use Rattle.rules.specs.Sheet.{up_from, chain_total}

-- ---- the outside
-- "accepted deposits, withdrawals (the member aside), sends and settlements"
pub data Seen : Type 0 where
  deposit : Deposit → Seen
  withdrawal : ℕ → ℕ → ℕ → Seen
  send : Seen
  settlement : Nonce → Seen

unfoldable pub outside_of : Call → List Seen
outside_of (Call.Deposit d) = Seen.deposit d ∷ []
outside_of (Call.Claim c) = []
outside_of (Call.Transfer t) = []
outside_of (Call.Withdraw w) = Seen.withdrawal w.asset w.amount w.payee ∷ []
outside_of Call.Send = Seen.send ∷ []
outside_of (Call.Settle n) = Seen.settlement n ∷ []
outside_of (Call.Grant g) = []
outside_of (Call.Sign g) = []
outside_of (Call.Trace n) = []

-- what the accepted calls show the outside, in order
unfoldable pub seen_outside : Book → List Call → List Seen
seen_outside b cs = joined outside_of (accepted b cs)

-- the payments in flight and waiting, the next nonce, the answers of the sends and the settlements in order, and each asset's chain total
pub record OutsideView : Type 0 where
  pub inflight : List Payment
  pub waiting : List Payment
  pub next : Nonce
  pub send_answers : List Payment
  pub settlements : List Payment
  pub chain_totals : List ℕ

unfoldable pub outside_view : Book → List Call → OutsideView
outside_view b cs =
    record {
      inflight = (view (run b cs)).outside.inflight;
      waiting = (view (run b cs)).outside.waiting;
      next = (view (run b cs)).outside.next;
      send_answers = sends b cs;
      settlements = settlements b cs;
      chain_totals = map (λ a. chain_total a b cs) (up_from 1 asset_count);
    }

-- ---- one member
-- the call names the member; a payee, a deposit number or a nonce never does
unfoldable pub names_member : ℕ → Call → Bool
names_member m (Call.Deposit d) = eqb d.member m
names_member m (Call.Claim c) = eqb c.member m
names_member m (Call.Transfer t) = eqb t.from m || eqb t.to m
names_member m (Call.Withdraw w) = eqb w.member m
names_member m Call.Send = false
names_member m (Call.Settle n) = false
names_member m (Call.Grant g) = eqb g.from m || eqb g.to m
names_member m (Call.Sign g) = eqb g.member m
names_member m (Call.Trace n) = false

-- the accepted calls that name the member, with deposits for the member, in order
unfoldable pub seen_by : ℕ → Book → List Call → List Call
seen_by m b cs = those (names_member m) (accepted b cs)

pub record MemberView : Type 0 where
  pub balances : List ℕ
  pub unclaimed : List Deposit
  pub domains : List ℕ
  pub statement : List Record

-- what a state shows the member: the eight balances, the unclaimed deposits, the domains held, the statement
unfoldable pub shown_to : ℕ → State → MemberView
shown_to m s =
    record {
      balances = map (λ a. balance s.balances m a) (up_from 1 asset_count);
      unclaimed = those (λ d. eqb d.member m) s.inbox;
      domains = those (λ d. eqb (holder s.holders d) m) (up_from 1 domain_count);
      statement = statement m s.history;
    }

abbrev pub member_view : ℕ → Book → List Call → MemberView
member_view m b cs = shown_to m (view (run b cs))

-- the member's own claim, transfer, grant, withdrawal or sign request
unfoldable pub asks : ℕ → Call → Bool
asks m (Call.Deposit d) = false
asks m (Call.Claim c) = eqb c.member m
asks m (Call.Transfer t) = eqb t.from m
asks m (Call.Withdraw w) = eqb w.member m
asks m Call.Send = false
asks m (Call.Settle n) = false
asks m (Call.Grant g) = eqb g.from m
asks m (Call.Sign g) = eqb g.member m
asks m (Call.Trace n) = false

-- neither history nor outbox is full
unfoldable pub has_room : State → Bool
has_room s = not (full history_rows s.history) && not (full outbox_rows (payments s.outside))
