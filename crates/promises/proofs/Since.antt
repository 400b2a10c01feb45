-- What calls leave, from any book that calls can start from on: demand 2 before it is said of an empty book.
use Prim.Native.Nat.{ℕ}
use mathlib.Core.List.{List, []}
use Rattle.promises.specs.Types.{Call}
use Rattle.rules.specs.State.{Book, view}
use Rattle.rules.specs.Runs.{run, depositing, sending, settling, deposits, sends, settlements}
use Rattle.rules.specs.Sheet.{accepted_deposits, settled_sum}
use Rattle.promises.specs.Demand2.{queueing, queued}
use Rattle.promises.specs.Started.{Started, TotalsSince, OrderSince, Since}
use Rattle.promises.proofs.Reached.{started-run, started_keeps}
use Rattle.promises.proofs.Order.{Deposited, none-deposited, deposits_log, Paid, none-paid, payments_log, Numbered, none-numbered, nonces_log}
use Rattle.promises.proofs.Payments.{records-run, queued_nth}
use Rattle.promises.proofs.Unclaimed.{unclaimed-left}
use Rattle.promises.proofs.Traces.{pieces-sourced}

module _ (b : Book) (cs : List Call) (r : Started b) where
  deposited-run : Deposited (view b).outside (deposits b cs) (view (run b cs)).outside
  deposited-run = started_keeps depositing (λ b c. []) (λ ds (ys : List ℕ) s. Deposited (view b).outside ds s.outside) (deposits_log (view b).outside) b cs r (none-deposited (view b).outside)

  paid-run : Paid (view b).outside (sends b cs) (settlements b cs) (view (run b cs)).outside
  paid-run = started_keeps sending settling (λ ss ts s. Paid (view b).outside ss ts s.outside) (payments_log (view b).outside) b cs r (none-paid (view b).outside)

  numbered-run : Numbered (view b).outside (queued b cs) (view (run b cs)).outside
  numbered-run = started_keeps queueing (λ b c. []) (λ qs (ys : List ℕ) s. Numbered (view b).outside qs s.outside) (nonces_log (view b).outside) b cs r (none-numbered (view b).outside)

  totals : (a : ℕ) → TotalsSince a b cs
  unfolding accepted_deposits settled_sum
  totals a = record { lifetime = deposited-run.lifetime a; settled = paid-run.settled a }

  order : OrderSince b cs
  order =
      record {
        numbers = deposited-run.numbers;
        last = deposited-run.last;
        nonces = numbered-run.nonces;
        next = numbered-run.next;
        settled = paid-run.order;
      }

  pub since : Since b cs
  since =
      let e : Started (run b cs) = started-run b cs r in
      record {
        started = e;
        records = records-run b cs;
        inbox = unclaimed-left b cs r;
        totals = totals;
        order = order;
        payments = λ n low i. unfold view in queued_nth b cs r n low (rw (← e.agreed.counts) i);
        sourced = λ n i. pieces-sourced b cs r n (rw (← e.agreed.counts) i);
      }
