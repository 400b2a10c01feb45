-- Books that calls can start from, and what calls leave from such a book on: demand 2, said of any start. An empty book is one, and so is every book that calls led to.
use Rattle.std.specs.Prelude.{ℕ, ◌+◌, ◌-◌, ◌*◌, ◌≤◌, ◌<◌, ◌≡◌, true, not, ◌||◌, ◌++◌, List, map, length, get_or}
use Rattle.promises.specs.Types.{Nonce, Call}
use Rattle.rules.specs.Limits.{member_count, asset_count, domain_count}
use Rattle.rules.specs.Lists.{all, any, joined, those, sum_of}
use Rattle.rules.specs.State.{State, Book, view, payments, first_holders}
use Rattle.rules.specs.Effects.{balance, total, records_of}
use Rattle.rules.specs.Frame.{in_frame}
use Rattle.rules.specs.History.{withdrawals, Standing, standing_from, history_in_frame}
use Rattle.rules.specs.Runs.{run, accepted, deposits, sends, settlements}
use Rattle.rules.specs.Sheet.{up_from, deposited_in, paid_in, accepted_deposits, settled_sum}
use Rattle.lots.specs.Traces.{standing_through, is_named}
use Rattle.promises.specs.Demand2.{nonce_of, queued, no_payment, claims, is_claimed, claims_lot, record_of, payment_by, traced}

-- ---- a start
-- the lists have their lengths, as a desk's arrays do
pub record Lengths (s : State) : Type 0 where
  pub balances : length s.balances ≡ member_count * asset_count
  pub holders : length s.holders ≡ domain_count
  pub lifetime : length s.outside.lifetime ≡ asset_count
  pub settled : length s.outside.settled ≡ asset_count

-- lifetime deposits of an asset: unclaimed, in balances, in the outbox, settled
abbrev pub Balanced : State → ℕ → Type 0
Balanced s a =
    total s.outside.lifetime a
    ≡ sum_of (deposited_in a) s.inbox + sum_of (λ m. balance s.balances m a) (up_from 1 member_count) + sum_of (paid_in a) (payments s.outside) + total s.outside.settled a

-- the next nonce is the number of withdrawals in the history
abbrev pub Counts : State → Type 0
Counts s = s.outside.next.0 ≡ withdrawals s.history

-- the balances and holders of a state
abbrev pub standing_of : State → Standing
standing_of s = record { balances = s.balances; holders = s.holders }

-- the history passes its test, and its replay comes to the balances and holders that are kept
pub record Replayed (s : State) : Type 0 where
  pub passes : history_in_frame s.history ≡ true
  pub comes_to : standing_through (standing_from first_holders) s.history ≡ standing_of s

-- the parts of a state agree
pub record Agreed (s : State) : Type 0 where
  pub lengths : Lengths s
  pub sheet : (a : ℕ) → Balanced s a
  pub counts : Counts s
  pub replayed : Replayed s

-- a book that calls can start from: it is in frame, and the parts of its state agree
pub record Started (b : Book) : Type 0 where
  pub frame : in_frame b ≡ true
  pub agreed : Agreed (view b)

-- ---- from the start on
-- of an asset: the two totals are what they were, and what was accepted and what settled since
pub record TotalsSince (a : ℕ) (b : Book) (cs : List Call) : Type 0 where
  pub lifetime : total (view (run b cs)).outside.lifetime a ≡ total (view b).outside.lifetime a + accepted_deposits a b cs
  pub settled : total (view (run b cs)).outside.settled a ≡ total (view b).outside.settled a + settled_sum a b cs

-- deposit numbers go on from the last one, and nonces from the next; the payments that were in flight, and then those sent, are those that settled, and then those in flight
pub record OrderSince (b : Book) (cs : List Call) : Type 0 where
  pub numbers : map (λ d. d.number.0) (deposits b cs) ≡ up_from ((view b).outside.last.0 + 1) (length (deposits b cs))
  pub last : (view (run b cs)).outside.last.0 ≡ (view b).outside.last.0 + length (deposits b cs)
  pub nonces : map nonce_of (queued b cs) ≡ up_from (view b).outside.next.0 (length (queued b cs))
  pub next : (view (run b cs)).outside.next.0 ≡ (view b).outside.next.0 + length (queued b cs)
  pub settled : (view b).outside.inflight ++ sends b cs ≡ settlements b cs ++ (view (run b cs)).outside.inflight

-- after any calls from a book that calls can start from
pub record Since (b : Book) (cs : List Call) : Type 0 where
  -- calls can start from the book that they led to
  pub started : Started (run b cs)
  -- the history is what was there, and then the records of the accepted calls
  pub records : (view (run b cs)).history ≡ (view b).history ++ joined records_of (accepted b cs)
  -- the inbox is what was there, and then the accepted deposits, less what an accepted claim took
  pub inbox : (view (run b cs)).inbox ≡ those (λ d. not (is_claimed (claims b cs) d)) ((view b).inbox ++ deposits b cs)
  pub totals : (a : ℕ) → TotalsSince a b cs
  pub order : OrderSince b cs
  -- the payments queued since are the withdrawals recorded since, in their order
  pub payments : (n : Nonce) → (view b).outside.next.0 ≤ n.0 → n.0 < (view (run b cs)).outside.next.0
      → get_or (queued b cs) (n.0 - (view b).outside.next.0) no_payment ≡ payment_by (record_of b cs n) n
  -- each piece of a payment's trace was claimed before the start; or it is from a deposit that lay in the inbox then, or was accepted since, and an accepted claim since has exactly its four fields
  pub sourced : (n : Nonce) → n.0 < (view (run b cs)).outside.next.0
      → all (λ l. is_named (view b).history l || any (claims_lot ((view b).inbox ++ deposits b cs) l) (claims b cs)) (traced b cs n) ≡ true
