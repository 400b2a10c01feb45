-- The desk's lists have their lengths, and keep them.
use Prim.Native.Nat.{◌-◌}
use mathlib.Core.Path.{◌∙◌}
use lib.ListN.{length-set}
use Rattle.promises.specs.Types.{Payment, Call}
use Rattle.rules.specs.State.{State}
use Rattle.rules.specs.Effects.{effect, debit, balances_after, holders_after, oldest, deposited, withdrawn, sent, settled_one, outside_after}
use Rattle.promises.specs.Started.{Lengths}
use Rattle.promises.proofs.Cells.{length-credit, length-debit, length-raised}

-- no call changes how long the lists are
pub lengths-kept : (s : State) (c : Call) → Lengths s → Lengths (effect c s)
unfolding effect balances_after holders_after outside_after deposited withdrawn sent settled_one
lengths-kept s (Call.Deposit d) l =
    record { balances = l.balances; holders = l.holders; lifetime = length-raised s.outside.lifetime d.asset d.amount ∙ l.lifetime; settled = l.settled }
lengths-kept s (Call.Claim c) l =
    record { balances = length-credit s.balances c.member c.asset c.amount ∙ l.balances; holders = l.holders; lifetime = l.lifetime; settled = l.settled }
lengths-kept s (Call.Transfer t) l =
    record {
      balances =
          length-credit (debit s.balances t.from t.asset t.amount) t.to t.asset t.amount
          ∙ length-debit s.balances t.from t.asset t.amount
          ∙ l.balances;
      holders = l.holders;
      lifetime = l.lifetime;
      settled = l.settled;
    }
lengths-kept s (Call.Withdraw w) l =
    record { balances = length-debit s.balances w.member w.asset w.amount ∙ l.balances; holders = l.holders; lifetime = l.lifetime; settled = l.settled }
lengths-kept s Call.Send l = record { balances = l.balances; holders = l.holders; lifetime = l.lifetime; settled = l.settled }
lengths-kept s (Call.Settle n) l =
    let p : Payment = oldest s.outside.inflight in
    record { balances = l.balances; holders = l.holders; lifetime = l.lifetime; settled = length-raised s.outside.settled p.asset p.amount ∙ l.settled }
lengths-kept s (Call.Grant g) l =
    record { balances = l.balances; holders = length-set s.holders (g.domain - 1) g.to ∙ l.holders; lifetime = l.lifetime; settled = l.settled }
lengths-kept s (Call.Sign g) l = record { balances = l.balances; holders = l.holders; lifetime = l.lifetime; settled = l.settled }
lengths-kept s (Call.Trace n) l = record { balances = l.balances; holders = l.holders; lifetime = l.lifetime; settled = l.settled }
