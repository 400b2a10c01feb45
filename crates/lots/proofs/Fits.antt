-- What the test of a record in its place says of the record, kind by kind.
use Rattle.std.specs.Prelude.{Ok, Err}
use Prim.Native.Nat.{ℕ, ◌≤◌}
use mathlib.Core.Path.{◌≡◌, refl, sym, ◌∙◌}
use mathlib.Core.Bool.{Bool, true, false, ◌&&◌, cond, and-eq-true_iff}
use native.Mathlib.Omega.{arith}
use lib.Dec.{eqb}
use borrow.Author.Tests.{leb-true, eq-eqb, eqb-true, eqb-false, not-true}
use Rattle.rules.specs.declared.rows.Record.{Record}
use Rattle.rules.specs.Limits.{is_member, is_asset, is_amount, is_payee, is_deposit_number, ceiling}
use Rattle.rules.specs.Effects.{balance}
use Rattle.rules.specs.declared.rows.Kind.{Kind}
use Rattle.rules.specs.Kinds.{AnyKind, numbered_kind}
use Rattle.rules.specs.History.{kind_of, is_withdrawal, by_first, by_second, differ, enough, Standing, fits_as}
use Rattle.rules.proofs.Tests.{within_true}
use Rattle.lots.specs.Traces.{same_line}

-- ---- tests read
-- two lines that are not one differ in the member or in the asset
pub lines_apart : (m a n b : ℕ) → same_line m a n b ≡ false → m ≡ n → a ≡ b → ⊥
lines_apart m a n b d p q =
    let z : true ≡ false = sym (rw (eq-eqb m n p, eq-eqb a b q)) ∙ d in
    let e : ◌≡◌ {A = ℕ} 0 1 = cc in
    omega arith

-- a transfer between two members never has one line at both ends
pub ends_apart : (n b : ℕ) (r : Record) → differ r ≡ true → by_second n b r ≡ true → by_first n b r ≡ true → ⊥
ends_apart n b r d e f =
    let (p, q) = (and-eq-true_iff (eqb r.second n) (eqb r.asset b)).0 e in
    let (s, t) = (and-eq-true_iff (eqb r.first n) (eqb r.asset b)).0 f in
    eqb-false r.first r.second (not-true (eqb r.first r.second) d) (eqb-true r.first n s ∙ sym (eqb-true r.second n p))

-- ---- what the test of a record says
-- its asset and first member are in their limits, and its amount is positive
pub record Moves (r : Record) : Type 0 where
  pub asset : is_asset r.asset ≡ true
  pub amount : 1 ≤ r.amount
  pub first : is_member r.first ≡ true

-- and the first member has that much
pub record Pays (s : Standing) (r : Record) : Type 0 where
  pub moves : Moves r
  pub covered : r.amount ≤ balance s.balances r.first r.asset

-- and it goes to another member
pub record Passes (s : Standing) (r : Record) : Type 0 where
  pub pays : Pays s r
  pub second : is_member r.second ≡ true
  pub apart : differ r ≡ true

-- the part that the tests of claims, transfers and withdrawals share
moves_of : (r : Record) (rest : Bool) → (is_asset r.asset && (is_amount r.amount && (is_member r.first && rest))) ≡ true → Moves r × (rest ≡ true)
moves_of r rest h =
    let (a, u) = (and-eq-true_iff (is_asset r.asset) (is_amount r.amount && (is_member r.first && rest))).0 h in
    let (x, v) = (and-eq-true_iff (is_amount r.amount) (is_member r.first && rest)).0 u in
    let (m, w) = (and-eq-true_iff (is_member r.first) rest).0 v in
    (record { asset = a; amount = (within_true 1 ceiling r.amount x).low; first = m }, w)

-- what each of the three says
pub claim-fits : (s : Standing) (r : Record) → fits_as (Ok Kind.Claim) s r ≡ true → Moves r
unfolding fits_as
claim-fits s r h = (moves_of r (is_deposit_number r.second) h).0

pub transfer-fits : (s : Standing) (r : Record) → fits_as (Ok Kind.Transfer) s r ≡ true → Passes s r
unfolding fits_as
transfer-fits s r h =
    let (g, u) = moves_of r (is_member r.second && (differ r && enough s r)) h in
    let (m, v) = (and-eq-true_iff (is_member r.second) (differ r && enough s r)).0 u in
    let (d, w) = (and-eq-true_iff (differ r) (enough s r)).0 v in
    record { pays = record { moves = g; covered = leb-true r.amount (balance s.balances r.first r.asset) w }; second = m; apart = d }

pub withdrawal-fits : (s : Standing) (r : Record) → fits_as (Ok Kind.Withdrawal) s r ≡ true → Pays s r
unfolding fits_as
withdrawal-fits s r h =
    let (g, u) = moves_of r (is_payee r.second && enough s r) h in
    let (p, w) = (and-eq-true_iff (is_payee r.second) (enough s r)).0 u in
    record { moves = g; covered = leb-true r.amount (balance s.balances r.first r.asset) w }

-- ---- the kind of a record
-- a claim has the kind number 1
pub claim_kind : (r : Record) → kind_of r ≡ Ok Kind.Claim → eqb r.kind 1 ≡ true
unfolding numbered_kind
claim_kind r e = go (eqb r.kind 1) (eqb r.kind 2) (eqb r.kind 3) (eqb r.kind 4) e
  where
    go : (t u v w : Bool) → cond {A = AnyKind} t (Ok Kind.Claim) (cond u (Ok Kind.Transfer) (cond v (Ok Kind.Withdrawal) (cond w (Ok Kind.Grant) (Err (record {}))))) ≡ Ok Kind.Claim → t ≡ true
    go true u v w e = refl
    go false true v w e = cc
    go false false true w e = cc
    go false false false true e = cc
    go false false false false e = cc

-- the kind number 3 is a withdrawal's
pub withdrawal_kind : (r : Record) → is_withdrawal r ≡ true → kind_of r ≡ Ok Kind.Withdrawal
unfolding numbered_kind
withdrawal_kind r e = rw (eqb-true r.kind 3 e)
