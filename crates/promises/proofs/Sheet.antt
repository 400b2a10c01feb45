-- The balance sheet, kept by every accepted call.
use Prim.Native.Nat.{ℕ, ◌+◌, ◌≤◌}
use mathlib.Core.Path.{◌≡◌, refl, ap, ◌∙◌}
use mathlib.Core.Bool.{true, ◌&&◌, cond}
use mathlib.Core.List.{List, [], ◌∷◌, ◌++◌, append_assoc}
use native.Mathlib.Omega.{arith}
use lib.Dec.{eqb}
use lib.ListN.{length, get_or, take, drop, take-append-drop}
use borrow.Author.Tests.{eqb-true}
use Rattle.promises.specs.Types.{Deposit, Payment, ClaimFields, Call}
use Rattle.rules.specs.Limits.{is_asset, is_amount, is_payee, asset_count}
use Rattle.rules.specs.Lists.{all, any, index_of, sum_of}
use Rattle.rules.specs.Tables.{edited, no_deposit}
use Rattle.rules.specs.State.{Outside, State, payments}
use Rattle.rules.specs.Effects.{effect, debit, balances_after, matches, inbox_edit, oldest, payment_of, deposited, withdrawn, sent, settled_one, outside_after}
use Rattle.rules.specs.Frame.{payment_in_limits}
use Rattle.rules.specs.Sheet.{deposited_in, paid_in}
use Rattle.rules.specs.Facts.{Within, Fit}
use Rattle.rules.proofs.Tests.{both, within_true}
use Rattle.promises.proofs.Framed.{Framed}
use Rattle.promises.proofs.Cells.{length-debit, total-raised}
use Rattle.lots.proofs.ListLaws.{sum-append}
use Rattle.promises.proofs.Sums.{sum_one, sum_without, found_in, found-passes, sum-credit, sum-debit}
use Rattle.promises.specs.Started.{Lengths, Balanced}

-- ---- the outbox's oldest payments
-- the first of some payments, and the rest
pub first_rest : (ps : List Payment) → 1 ≤ length ps → ps ≡ oldest ps ∷ drop 1 ps
unfolding oldest
first_rest [] h = absurd (omega arith)
first_rest (p ∷ ps) h = refl

-- the oldest in flight is a payment of the outbox, so its fields are in their limits
pub oldest_in : (ps ws : List Payment) → 1 ≤ length ps → all payment_in_limits (ps ++ ws) ≡ true → Within 1 asset_count (oldest ps).asset
unfolding all oldest
oldest_in [] ws h f = absurd (omega arith)
oldest_in (p ∷ ps) ws h f =
    let (e, r) = both (payment_in_limits p) (all payment_in_limits (ps ++ ws)) f in
    within_true 1 8 p.asset (both (is_asset p.asset) (is_amount p.amount && is_payee p.payee) e).0

-- and what is summed over the payments in flight is its number and the others'
oldest-sum : (f : Payment → ℕ) (ps : List Payment) → 1 ≤ length ps → sum_of f ps ≡ f (oldest ps) + sum_of f (drop 1 ps)
unfolding sum_of oldest
oldest-sum f [] h = absurd (omega arith)
oldest-sum f (p ∷ ps) h = refl

-- a send leaves the payments as they are, in their order
pub sent-payments : (o : Outside) → payments (sent o) ≡ payments o
unfolding sent
sent-payments o = append_assoc o.inflight (take 1 o.waiting) (drop 1 o.waiting) ∙ ap (λ (ps : List Payment). o.inflight ++ ps) (take-append-drop 1 o.waiting)

-- ---- the claimed deposit
-- the row that a claim takes out
abbrev pub claimed : ClaimFields → List Deposit → Deposit
claimed c inbox = get_or inbox (index_of (matches c) inbox) no_deposit

-- it has the claim's four fields
pub record Matched (c : ClaimFields) (d : Deposit) : Type 0 where
  pub number : d.number.0 ≡ c.number.0
  pub asset : d.asset ≡ c.asset
  pub amount : d.amount ≡ c.amount
  pub member : d.member ≡ c.member

-- what the search for a claimed deposit finds has the four fields
pub matched : (c : ClaimFields) (inbox : List Deposit) → any (matches c) inbox ≡ true → Matched c (claimed c inbox)
unfolding matches
matched c inbox h =
    let d : Deposit = claimed c inbox in
    let (n, r) = both (eqb d.number.0 c.number.0) (eqb d.asset c.asset && (eqb d.amount c.amount && eqb d.member c.member)) (found-passes (matches c) inbox no_deposit h) in
    let (a, q) = both (eqb d.asset c.asset) (eqb d.amount c.amount && eqb d.member c.member) r in
    let (x, m) = both (eqb d.amount c.amount) (eqb d.member c.member) q in
    record {
      number = eqb-true d.number.0 c.number.0 n;
      asset = eqb-true d.asset c.asset a;
      amount = eqb-true d.amount c.amount x;
      member = eqb-true d.member c.member m;
    }

-- ---- the sheet
-- every accepted call keeps the sheet balanced
pub balanced_kept : (s : State) (c : Call) → Fit s c → Framed s → Lengths s → (a : ℕ) → Balanced s a → Balanced (effect c s) a
unfolding effect balances_after inbox_edit edited outside_after deposited withdrawn sent settled_one
balanced_kept s (Call.Deposit d) k f l a h =
    omega (
      arith,
      total-raised s.outside.lifetime d.asset d.amount l.lifetime k.asset a,
      sum-append (deposited_in a) s.inbox (d ∷ []),
      sum_one (deposited_in a) d,
    )
balanced_kept s (Call.Claim c) k f l a h =
    let i : ℕ = index_of (matches c) s.inbox in
    let m : Matched c (claimed c s.inbox) = matched c s.inbox k.found in
    let e : deposited_in a (claimed c s.inbox) ≡ cond (eqb c.asset a) c.amount 0 = rw (m.asset, m.amount) in
    omega (
      arith,
      sum_without (deposited_in a) s.inbox i no_deposit (found_in (matches c) s.inbox k.found),
      sum-credit s.balances c.member c.asset c.amount l.balances k.member k.asset a,
    )
balanced_kept s (Call.Transfer t) k f l a h =
    let bs : List ℕ = debit s.balances t.from t.asset t.amount in
    omega (
      arith,
      sum-debit s.balances t.from t.asset t.amount l.balances k.from k.asset k.enough a,
      sum-credit bs t.to t.asset t.amount (length-debit s.balances t.from t.asset t.amount ∙ l.balances) k.to k.asset a,
    )
balanced_kept s (Call.Withdraw w) k f l a h =
    let o : Outside = s.outside in
    let p : Payment = payment_of w o.next in
    omega (
      arith,
      sum-debit s.balances w.member w.asset w.amount l.balances k.member k.asset k.enough a,
      sum-append (paid_in a) o.inflight o.waiting,
      sum-append (paid_in a) o.inflight (o.waiting ++ (p ∷ [])),
      sum-append (paid_in a) o.waiting (p ∷ []),
      sum_one (paid_in a) p,
    )
balanced_kept s Call.Send k f l a h = omega (arith, ap (sum_of (paid_in a)) (sent-payments s.outside))
balanced_kept s (Call.Settle n) k f l a h =
    let o : Outside = s.outside in
    let p : Payment = oldest o.inflight in
    omega (
      arith,
      total-raised o.settled p.asset p.amount l.settled (oldest_in o.inflight o.waiting k.some f.outbox_fields) a,
      sum-append (paid_in a) o.inflight o.waiting,
      sum-append (paid_in a) (drop 1 o.inflight) o.waiting,
      oldest-sum (paid_in a) o.inflight k.some,
    )
balanced_kept s (Call.Grant g) k f l a h = h
balanced_kept s (Call.Sign g) k f l a h = h
balanced_kept s (Call.Trace n) k f l a h = h
