-- One record after the other: what a record that fits gives, that no running balance passes the ceiling times the records so far, and the loop over the records.
use Rattle.std.specs.Prelude.{Ok, Err}
use Prim.Native.Nat.{ℕ, ◌+◌, ◌-◌, ◌*◌, ◌≤◌, ◌<◌}
use mathlib.Core.Path.{◌≡◌, refl, ap}
use mathlib.Core.Bool.{Bool, true, false, ◌&&◌, cond}
use mathlib.Core.List.{List, [], ◌∷◌}
use native.Mathlib.Omega.{arith}
use lib.Dec.{leb}
use lib.ListN.{length, get_or, set}
use borrow.Author.Tests.{leb-true, le-leb, lt-leb}
use Rattle.rules.specs.declared.rows.Record.{Record}
use Rattle.rules.specs.Limits.{ceiling, history_rows, is_member, is_asset, is_amount, is_domain}
use Rattle.rules.specs.Lists.{all}
use Rattle.rules.specs.Tables.{rows_of, record_shape}
use Rattle.rules.specs.Effects.{cell, balance, credit, debit}
use Rattle.rules.specs.declared.rows.Kind.{Kind}
use Rattle.rules.specs.declared.rows.BadKind.{BadKind}
use Rattle.rules.specs.Kinds.{AnyKind}
use Rattle.rules.specs.History.{kind_of, Standing as Replayed, standing_from, standing_as, standing_after, fits_as, fits, replays}
use Rattle.rules.specs.State.{first_holders, empty_state}
use Rattle.rules.specs.Facts.{Within}
use Rattle.rules.proofs.Tests.{both, both_of, within_true, true_within, all-at, all_set}
use Rattle.rules.proofs.Digits.{all_imply}
use Rattle.tables.proofs.Rest.{passes, rest, rest_all}
use Rattle.lots.proofs.Fits.{Moves, claim-fits, transfer-fits, withdrawal-fits}
use Rattle.records.specs.Test.{all_up_to, most_before, Cell, CanFollow, history_frame}

-- ---- a balance
pub cell_in : (m a : ℕ) → Cell m a → is_member m && is_asset a ≡ true
cell_in m a c = both_of (is_member m) (is_asset a) (true_within 1 16 m c.member) (true_within 1 8 a c.asset)

pub balance_in : (bs : List ℕ) (m a : ℕ) → Cell m a → balance bs m a ≡ get_or bs (cell m a) 0
unfolding balance
balance_in bs m a c = rw (cell_in m a c)

pub balance-low : (most : ℕ) (bs : List ℕ) (m a : ℕ) → all_up_to most bs ≡ true → balance bs m a ≤ most
unfolding balance
balance-low most bs m a h = go (is_member m && is_asset a)
  where
    go : (p : Bool) → cond p (get_or bs (cell m a) 0) 0 ≤ most
    go true = leb-true (get_or bs (cell m a) 0) most (all-at (λ x. leb x most) bs (cell m a) 0 (le-leb 0 most (omega arith)) h)
    go false = omega arith

pub more_room : (low high : ℕ) (bs : List ℕ) → low ≤ high → all_up_to low bs ≡ true → all_up_to high bs ≡ true
more_room low high bs l h = all_imply (λ x. leb x low) (λ x. leb x high) (λ x p. le-leb x high (omega (arith, leb-true x low p))) bs h

-- ---- what a record that fits gives, in numbers
pub cell_of : (m a : ℕ) → is_member m ≡ true → is_asset a ≡ true → Cell m a
cell_of m a p q = record { member = within_true 1 16 m p; asset = within_true 1 8 a q }

pub moves_cell : (r : Record) → Moves r → Cell r.first r.asset
moves_cell r q = cell_of r.first r.asset q.first q.asset

amount_in : (r : Record) (rest : Bool) → (is_asset r.asset && (is_amount r.amount && rest)) ≡ true → r.amount ≤ ceiling
amount_in r rest h = (within_true 1 ceiling r.amount (both (is_amount r.amount) rest (both (is_asset r.asset) (is_amount r.amount && rest) h).1).0).high

-- no record that fits has more than the ceiling
pub amount-low : (k : AnyKind) (s : Replayed) (r : Record) → fits_as k s r ≡ true → r.amount ≤ ceiling
unfolding fits_as
amount-low (Ok Kind.Claim) s r h = amount_in r _ h
amount-low (Ok Kind.Transfer) s r h = amount_in r _ h
amount-low (Ok Kind.Withdrawal) s r h = amount_in r _ h
amount-low (Ok Kind.Grant) s r h =
    let one : r.amount ≡ 1 = borrow.Author.Tests.eqb-true r.amount 1 (both _ _ (both (is_domain r.asset) _ h).1).0 in
    omega arith
amount-low (Err e) s r h = absurd (mathlib.Core.Bool.false≢true h)

pub domain_in : (s : Replayed) (r : Record) → fits_as (Ok Kind.Grant) s r ≡ true → Within 1 8 r.asset
unfolding fits_as
domain_in s r h = within_true 1 8 r.asset (both (is_domain r.asset) _ h).0

-- ---- no running balance passes the ceiling times the records so far
credit-low : (most : ℕ) (bs : List ℕ) (m a x : ℕ) → all_up_to most bs ≡ true → x ≤ ceiling → all_up_to (most + ceiling) (credit bs m a x) ≡ true
unfolding credit
credit-low most bs m a x h l =
    all_set (λ y. leb y (most + ceiling)) bs (cell m a) (balance bs m a + x) (more_room most (most + ceiling) bs (omega arith) h)
    (le-leb (balance bs m a + x) (most + ceiling) (omega (arith, balance-low most bs m a h)))

pub debit-low : (most : ℕ) (bs : List ℕ) (m a x : ℕ) → all_up_to most bs ≡ true → all_up_to most (debit bs m a x) ≡ true
unfolding debit
debit-low most bs m a x h =
    all_set (λ y. leb y most) bs (cell m a) (balance bs m a - x) h (le-leb (balance bs m a - x) most (omega (arith, balance-low most bs m a h)))

low-after : (k : AnyKind) (most : ℕ) (s : Replayed) (r : Record) → fits_as k s r ≡ true → all_up_to most s.balances ≡ true → all_up_to (most + ceiling) (standing_as k s r).balances ≡ true
unfolding standing_as
low-after (Ok Kind.Claim) most s r f h = credit-low most s.balances r.first r.asset r.amount h (amount-low (Ok Kind.Claim) s r f)
low-after (Ok Kind.Transfer) most s r f h =
    credit-low most (debit s.balances r.first r.asset r.amount) r.second r.asset r.amount
    (debit-low most s.balances r.first r.asset r.amount h) (amount-low (Ok Kind.Transfer) s r f)
low-after (Ok Kind.Withdrawal) most s r f h =
    more_room most (most + ceiling) (debit s.balances r.first r.asset r.amount) (omega arith) (debit-low most s.balances r.first r.asset r.amount h)
low-after (Ok Kind.Grant) most s r f h = more_room most (most + ceiling) s.balances (omega arith) h
low-after (Err e) most s r f h = more_room most (most + ceiling) s.balances (omega arith) h

-- with i records behind, and one more
pub low-next : (i : ℕ) (s : Replayed) (r : Record) → fits s r ≡ true → all_up_to (i * ceiling) s.balances ≡ true → all_up_to ((i + 1) * ceiling) (standing_after s r).balances ≡ true
low-next i s r f h =
    let e : (i + 1) * ceiling ≡ i * ceiling + ceiling = omega arith in
    rw e (low-after (kind_of r) (i * ceiling) s r f h)

pub low_first : all_up_to 0 (standing_from first_holders).balances ≡ true
unfolding standing_from empty_state all
low_first = refl

pub can_follow : (i : ℕ) (s : Replayed) (r : Record) → i < history_rows → fits s r ≡ true → all_up_to (i * ceiling) s.balances ≡ true → CanFollow s r
can_follow i s r l f h = record { fits = f; low = more_room (i * ceiling) most_before s.balances (omega arith) h }

-- ---- the loop over the records
replays_pass : (s : Replayed) (rs : List Record) → replays s rs ≡ passes fits standing_after s rs
unfolding replays passes
replays_pass s [] = refl
replays_pass s (r ∷ rs) = ap (λ (b : Bool). fits s r && b) (replays_pass (standing_after s r) rs)

module _ (t : List ℕ) (n : ℕ) where
  -- what is left to test after i records
  abbrev pub HistoryFrom : Replayed → ℕ → Type 0
  HistoryFrom s i = history_frame t n ≡ passes fits standing_after s (rest record_shape n i t)

  pub history-count : history_rows < n → false ≡ history_frame t n
  unfolding history_frame
  history-count h = rw (lt-leb n history_rows h)

  pub history-size : n ≤ history_rows → length t < n * record_shape.width → false ≡ history_frame t n
  unfolding history_frame
  history-size h l = rw (le-leb n history_rows h, lt-leb (n * record_shape.width) (length t) l)

  pub history-none : n ≤ history_rows → n * record_shape.width ≤ length t → (s : Replayed) → s ≡ standing_from first_holders → HistoryFrom s 0
  unfolding history_frame
  history-none h l s e = rw (le-leb n history_rows h, le-leb (n * record_shape.width) (length t) l, rest_all record_shape n t, e) (replays_pass (standing_from first_holders) (rows_of record_shape n t))

-- ---- what each arm of the code's match asks and leaves, of a record that may be followed: the numbers are those of a cell
credit_in : (bs : List ℕ) (m a x : ℕ) → Cell m a → credit bs m a x ≡ set bs (cell m a) (get_or bs (cell m a) 0 + x)
unfolding credit
credit_in bs m a x c = rw (balance_in bs m a c)

debit_in : (bs : List ℕ) (m a x : ℕ) → Cell m a → debit bs m a x ≡ set bs (cell m a) (get_or bs (cell m a) 0 - x)
unfolding debit
debit_in bs m a x c = rw (balance_in bs m a c)

module _ (bs hs : List ℕ) (s : Replayed) (r : Record) (view : record { balances = bs; holders = hs } ≡ s) (can : CanFollow s r) where
  bs_is : bs ≡ s.balances
  bs_is = ap (λ (x : Replayed). x.balances) view

  hs_is : hs ≡ s.holders
  hs_is = ap (λ (x : Replayed). x.holders) view

  -- room above any balance
  room : (xs : List ℕ) (m a : ℕ) → Cell m a → all_up_to most_before xs ≡ true → get_or xs (cell m a) 0 + r.amount < 18446744073709551616
  room xs m a c h = omega (arith, balance_in xs m a c, balance-low most_before xs m a h, amount-low (kind_of r) s r can.fits)

  -- a claim
  pub claim_to : kind_of r ≡ (Ok Kind.Claim) → Cell r.first r.asset
  claim_to k = moves_cell r (claim-fits s r (rw k at can.fits))

  pub claim_room : kind_of r ≡ (Ok Kind.Claim) → (i : ℕ) → i ≡ cell r.first r.asset → get_or bs i 0 + r.amount < 18446744073709551616
  claim_room k i e = rw (e, bs_is) (room s.balances r.first r.asset (claim_to k) can.low)

  pub claim_after : kind_of r ≡ (Ok Kind.Claim) → (i : ℕ) → i ≡ cell r.first r.asset
      → record { balances = set bs i (get_or bs i 0 + r.amount); holders = hs } ≡ standing_after s r
  unfolding standing_as
  claim_after k i e = rw (k, e, bs_is, hs_is, credit_in s.balances r.first r.asset r.amount (claim_to k))

  -- a transfer
  pub transfer_from : kind_of r ≡ (Ok Kind.Transfer) → Cell r.first r.asset
  transfer_from k = moves_cell r (transfer-fits s r (rw k at can.fits)).pays.moves

  pub transfer_to : kind_of r ≡ (Ok Kind.Transfer) → Cell r.second r.asset
  transfer_to k =
      let p = transfer-fits s r (rw k at can.fits) in
      cell_of r.second r.asset p.second p.pays.moves.asset

  pub transfer_covered : kind_of r ≡ (Ok Kind.Transfer) → (i : ℕ) → i ≡ cell r.first r.asset → r.amount ≤ get_or bs i 0
  transfer_covered k i e = rw (e, bs_is, ← balance_in s.balances r.first r.asset (transfer_from k)) (transfer-fits s r (rw k at can.fits)).pays.covered

  -- the balances with the amount taken off
  paid : kind_of r ≡ (Ok Kind.Transfer) → (i : ℕ) → i ≡ cell r.first r.asset → set bs i (get_or bs i 0 - r.amount) ≡ debit s.balances r.first r.asset r.amount
  paid k i e = rw (e, bs_is, debit_in s.balances r.first r.asset r.amount (transfer_from k))

  pub transfer_room : kind_of r ≡ (Ok Kind.Transfer) → (i j : ℕ) → i ≡ cell r.first r.asset → j ≡ cell r.second r.asset
      → get_or (set bs i (get_or bs i 0 - r.amount)) j 0 + r.amount < 18446744073709551616
  transfer_room k i j e f =
      rw (paid k i e, f)
      (room (debit s.balances r.first r.asset r.amount) r.second r.asset (transfer_to k) (debit-low most_before s.balances r.first r.asset r.amount can.low))

  pub transfer_after : kind_of r ≡ (Ok Kind.Transfer) → (i j : ℕ) → i ≡ cell r.first r.asset → j ≡ cell r.second r.asset
      → record { balances = set (set bs i (get_or bs i 0 - r.amount)) j (get_or (set bs i (get_or bs i 0 - r.amount)) j 0 + r.amount); holders = hs } ≡ standing_after s r
  unfolding standing_as
  transfer_after k i j e f = rw (k, paid k i e, f, hs_is, credit_in (debit s.balances r.first r.asset r.amount) r.second r.asset r.amount (transfer_to k))

  -- a withdrawal
  pub withdrawal_from : kind_of r ≡ (Ok Kind.Withdrawal) → Cell r.first r.asset
  withdrawal_from k = moves_cell r (withdrawal-fits s r (rw k at can.fits)).moves

  pub withdrawal_covered : kind_of r ≡ (Ok Kind.Withdrawal) → (i : ℕ) → i ≡ cell r.first r.asset → r.amount ≤ get_or bs i 0
  withdrawal_covered k i e = rw (e, bs_is, ← balance_in s.balances r.first r.asset (withdrawal_from k)) (withdrawal-fits s r (rw k at can.fits)).covered

  pub withdrawal_after : kind_of r ≡ (Ok Kind.Withdrawal) → (i : ℕ) → i ≡ cell r.first r.asset
      → record { balances = set bs i (get_or bs i 0 - r.amount); holders = hs } ≡ standing_after s r
  unfolding standing_as
  withdrawal_after k i e = rw (k, e, bs_is, hs_is, debit_in s.balances r.first r.asset r.amount (withdrawal_from k))

  -- a grant
  pub grant_domain : kind_of r ≡ (Ok Kind.Grant) → Within 1 8 r.asset
  grant_domain k = domain_in s r (rw k at can.fits)

  pub grant_after : kind_of r ≡ (Ok Kind.Grant) → record { balances = bs; holders = set hs (r.asset - 1) r.second } ≡ standing_after s r
  unfolding standing_as
  grant_after k = rw (k, bs_is, hs_is)

-- no kind: nothing changes
pub none_after : (s : Replayed) (r : Record) (why : BadKind) → kind_of r ≡ (Err why) → s ≡ standing_after s r
unfolding standing_as
none_after s r why k = rw k
