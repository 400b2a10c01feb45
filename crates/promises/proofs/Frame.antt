-- Every accepted call leaves the state framed, once the sheet balances and the next nonce counts the withdrawals.
use Prim.Native.Nat.{ℕ, ◌+◌, ◌-◌, ◌≤◌}
use mathlib.Core.Path.{◌≡◌}
use mathlib.Core.Bool.{true}
use mathlib.Core.List.{List}
use native.Mathlib.Omega.{arith}
use lib.ListN.{length, length-append}
use borrow.Author.Tests.{le-leb}
use Rattle.promises.specs.Types.{Record, Call}
use Rattle.rules.specs.Limits.{ceiling, history_rows, highest_number, is_member}
use Rattle.rules.specs.Lists.{all, those}
use Rattle.rules.specs.State.{Outside, State, payments}
use Rattle.rules.specs.Effects.{effect, holders_after, total, raised, deposited, withdrawn, sent, settled_one, outside_after, records_of}
use Rattle.rules.specs.Frame.{up_to_ceiling}
use Rattle.rules.specs.History.{is_withdrawal, withdrawals}
use Rattle.rules.specs.Facts.{Fit, Room}
use Rattle.rules.proofs.Tests.{true_within, all_set}
use Rattle.promises.proofs.Framed.{Framed}
use Rattle.promises.specs.Started.{Lengths, Balanced, Counts}
use Rattle.lots.proofs.ListLaws.{those-append, length-those}
use Rattle.promises.proofs.RowCounts.{inbox-few, outbox-few, history-few}
use Rattle.promises.proofs.InboxFrame.{InboxFramed, inbox-kept}
use Rattle.promises.proofs.OutboxFrame.{OutboxFramed, outbox-kept}
use Rattle.promises.proofs.Ceilings.{balances-below, settled-below}

-- ---- the holders, the last number, the lifetime totals
-- a grant makes a member the holder
holders-kept : (s : State) (c : Call) → Fit s c → Framed s → all is_member (effect c s).holders ≡ true
unfolding effect holders_after
holders-kept s (Call.Deposit d) k f = f.holders
holders-kept s (Call.Claim c) k f = f.holders
holders-kept s (Call.Transfer t) k f = f.holders
holders-kept s (Call.Withdraw w) k f = f.holders
holders-kept s Call.Send k f = f.holders
holders-kept s (Call.Settle n) k f = f.holders
holders-kept s (Call.Grant g) k f = all_set is_member s.holders (g.domain - 1) g.to f.holders (true_within 1 16 g.to k.to)
holders-kept s (Call.Sign g) k f = f.holders
holders-kept s (Call.Trace n) k f = f.holders

-- the last number and the lifetime totals: a deposit alone changes them
pub record DepositsFramed (o : Outside) : Type 0 where
  pub last : o.last.0 ≤ highest_number
  pub lifetime : all up_to_ceiling o.lifetime ≡ true

-- an accepted deposit's number and sum are within their limits
deposits-kept : (s : State) (c : Call) → Fit s c → Framed s → DepositsFramed (effect c s).outside
unfolding effect outside_after deposited withdrawn sent settled_one raised
deposits-kept s (Call.Deposit d) k f =
    record {
      last = k.numbered;
      lifetime =
          all_set up_to_ceiling s.outside.lifetime (d.asset - 1) (total s.outside.lifetime d.asset + d.amount) f.lifetime
          (le-leb (total s.outside.lifetime d.asset + d.amount) ceiling k.below);
    }
deposits-kept s (Call.Claim c) k f = record { last = f.last; lifetime = f.lifetime }
deposits-kept s (Call.Transfer t) k f = record { last = f.last; lifetime = f.lifetime }
deposits-kept s (Call.Withdraw w) k f = record { last = f.last; lifetime = f.lifetime }
deposits-kept s Call.Send k f = record { last = f.last; lifetime = f.lifetime }
deposits-kept s (Call.Settle n) k f = record { last = f.last; lifetime = f.lifetime }
deposits-kept s (Call.Grant g) k f = record { last = f.last; lifetime = f.lifetime }
deposits-kept s (Call.Sign g) k f = record { last = f.last; lifetime = f.lifetime }
deposits-kept s (Call.Trace n) k f = record { last = f.last; lifetime = f.lifetime }

-- ---- the next nonce is the number of withdrawals in the history
-- so it is at most the number of records
withdrawals_most : (h : List Record) → withdrawals h ≤ length h
unfolding withdrawals
withdrawals_most h = length-those is_withdrawal h

-- a withdrawal raises both by 1, and no other call changes either
pub counts-kept : (s : State) (c : Call) → Counts s → Counts (effect c s)
unfolding effect outside_after deposited withdrawn sent settled_one records_of withdrawals those
counts-kept s c h = rw (those-append is_withdrawal s.history (records_of c), length-append (those is_withdrawal s.history) (those is_withdrawal (records_of c))) (go c)
  where
    go : (c : Call) → (outside_after c s.outside).next.0 ≡ length (those is_withdrawal s.history) + length (those is_withdrawal (records_of c))
    go (Call.Deposit d) = omega arith
    go (Call.Claim c) = omega arith
    go (Call.Transfer t) = omega arith
    go (Call.Withdraw w) = omega arith
    go Call.Send = omega arith
    go (Call.Settle n) = omega arith
    go (Call.Grant g) = omega arith
    go (Call.Sign g) = omega arith
    go (Call.Trace n) = omega arith

-- ---- the whole
pub framed_kept : (s : State) (c : Call) → Fit s c → Room s c → Framed s → Lengths (effect c s) → ((a : ℕ) → Balanced (effect c s) a) → Counts (effect c s) → Framed (effect c s)
framed_kept s c k o f l sheet n =
    let inbox : InboxFramed (effect c s).outside.last.0 (effect c s).inbox = inbox-kept s c k f in
    let outbox : OutboxFramed (effect c s).outside.next.0 (payments (effect c s).outside) = outbox-kept s c k f in
    let brought : DepositsFramed (effect c s).outside = deposits-kept s c k f in
    let records : length (effect c s).history ≤ history_rows = history-few s c o f.records in
    record {
      unclaimed = inbox-few s c o f.unclaimed;
      queued = outbox-few s c k o f.queued;
      records = records;
      balances = balances-below (effect c s) l sheet brought.lifetime;
      lifetime = brought.lifetime;
      settled = settled-below (effect c s) l sheet brought.lifetime;
      inbox_fields = inbox.fields;
      outbox_fields = outbox.fields;
      numbers = inbox.numbers;
      nonces = outbox.nonces;
      last = brought.last;
      next = omega (arith, withdrawals_most (effect c s).history);
      holders = holders-kept s c k f;
    }
