-- The cell of a balance, seen here and nowhere else: what credit and debit do to every balance, and that a record of a history in frame changes every balance as provenance counts it.
use Rattle.std.specs.Prelude.{Ok, Err}
use Prim.Native.Nat.{ℕ, ◌+◌, ◌-◌, ◌*◌}
use mathlib.Core.Path.{◌≡◌, refl, ap, ◌∙◌}
use mathlib.Core.Bool.{Bool, true, false, ◌&&◌, cond, and-eq-true_iff}
use mathlib.Core.List.{List}
use native.Mathlib.Omega.{arith}
use lib.Dec.{eqb}
use lib.ListN.{length, get_or, set, length-set}
use lib.Seq.{get_or-set_same, get_or-set_other}
use borrow.Author.Tests.{eqb-true}
use Rattle.rules.specs.declared.rows.Record.{Record}
use Rattle.rules.specs.Limits.{member_count, asset_count, is_member, is_asset}
use Rattle.rules.specs.Effects.{cell, balance, credit, debit}
use Rattle.rules.specs.declared.rows.Kind.{Kind}
use Rattle.rules.specs.Kinds.{AnyKind}
use Rattle.rules.specs.History.{by_first, by_second, differ, counted_as, Standing, standing_as, fits_as}
use Rattle.rules.specs.Facts.{Within}
use Rattle.rules.proofs.Tests.{within_true}
use Rattle.lots.specs.Traces.{same_line}
use Rattle.lots.proofs.Fits.{lines_apart, ends_apart, claim-fits, transfer-fits, withdrawal-fits}

-- ---- one cell
-- another number in one member's cell of an asset changes that balance and no other
balance-set : (bs : List ℕ) (m a v n b : ℕ) → length bs ≡ member_count * asset_count → is_member m ≡ true → is_asset a ≡ true
    → balance (set bs (cell m a) v) n b ≡ cond (same_line m a n b) v (balance bs n b)
unfolding balance
balance-set bs m a v n b e hm ha = go (same_line m a n b) refl
  where
    other : (t : Bool) → (is_member n && is_asset b) ≡ t → same_line m a n b ≡ false → cond t (get_or (set bs (cell m a) v) (cell n b) 0) 0 ≡ cond t (get_or bs (cell n b) 0) 0
    other true f d =
        let (g, k) = (and-eq-true_iff (is_member n) (is_asset b)).0 f in
        let lm : Within 1 16 m = within_true 1 16 m hm in
        let la : Within 1 8 a = within_true 1 8 a ha in
        let ln : Within 1 16 n = within_true 1 16 n g in
        let lb : Within 1 8 b = within_true 1 8 b k in
        get_or-set_other bs (cell m a) (cell n b) v 0 (λ same. lines_apart m a n b d (omega arith) (omega arith))
    other false f d = refl

    go : (t : Bool) → same_line m a n b ≡ t → cond (is_member n && is_asset b) (get_or (set bs (cell m a) v) (cell n b) 0) 0 ≡ cond t v (cond (is_member n && is_asset b) (get_or bs (cell n b) 0) 0)
    go true d =
        let (p, q) = (and-eq-true_iff (eqb m n) (eqb a b)).0 d in
        let lm : Within 1 16 m = within_true 1 16 m hm in
        let la : Within 1 8 a = within_true 1 8 a ha in
        rw (← eqb-true m n p, ← eqb-true a b q, hm, ha) (get_or-set_same bs (cell m a) v 0 (omega arith))
    go false d = other (is_member n && is_asset b) refl d

-- where two lines are one, either's balance is meant
same_line-cond : (m a n b : ℕ) (f : ℕ → ℕ) (bs : List ℕ) → cond (same_line m a n b) (f (balance bs m a)) (balance bs n b) ≡ cond (same_line m a n b) (f (balance bs n b)) (balance bs n b)
same_line-cond m a n b f bs = go (same_line m a n b) refl
  where
    go : (t : Bool) → same_line m a n b ≡ t → cond t (f (balance bs m a)) (balance bs n b) ≡ cond t (f (balance bs n b)) (balance bs n b)
    go true d =
        let (p, q) = (and-eq-true_iff (eqb m n) (eqb a b)).0 d in
        rw (eqb-true m n p, eqb-true a b q)
    go false d = refl

-- a credit raises one balance
pub balance-credit : (bs : List ℕ) (m a x n b : ℕ) → length bs ≡ member_count * asset_count → is_member m ≡ true → is_asset a ≡ true
    → balance (credit bs m a x) n b ≡ cond (same_line m a n b) (balance bs n b + x) (balance bs n b)
unfolding credit
balance-credit bs m a x n b e hm ha = balance-set bs m a (balance bs m a + x) n b e hm ha ∙ same_line-cond m a n b (λ (y : ℕ). y + x) bs

-- a debit lowers one
pub balance-debit : (bs : List ℕ) (m a x n b : ℕ) → length bs ≡ member_count * asset_count → is_member m ≡ true → is_asset a ≡ true
    → balance (debit bs m a x) n b ≡ cond (same_line m a n b) (balance bs n b - x) (balance bs n b)
unfolding debit
balance-debit bs m a x n b e hm ha = balance-set bs m a (balance bs m a - x) n b e hm ha ∙ same_line-cond m a n b (λ (y : ℕ). y - x) bs

-- ---- a record that fits
-- it keeps the number of balances
pub standing_sized : (k : AnyKind) (s : Standing) (r : Record) → length (standing_as k s r).balances ≡ length s.balances
unfolding standing_as credit debit
standing_sized (Ok Kind.Claim) s r = simp length-set
standing_sized (Ok Kind.Transfer) s r = simp length-set
standing_sized (Ok Kind.Withdrawal) s r = simp length-set
standing_sized (Ok Kind.Grant) s r = refl
standing_sized (Err e) s r = refl

-- it changes every balance as provenance counts it
pub balance-counted : (k : AnyKind) (s : Standing) (r : Record) (n b : ℕ) → length s.balances ≡ member_count * asset_count → fits_as k s r ≡ true
    → balance (standing_as k s r).balances n b ≡ counted_as k n b r (balance s.balances n b)
unfolding standing_as counted_as
balance-counted (Ok Kind.Claim) s r n b e h =
    let g = claim-fits s r h in
    balance-credit s.balances r.first r.asset r.amount n b e g.first g.asset
balance-counted (Ok Kind.Transfer) s r n b e h =
    let g = transfer-fits s r h in
    let ds = debit s.balances r.first r.asset r.amount in
    let l : length ds ≡ 128 = unfold debit in length-set s.balances (cell r.first r.asset) (balance s.balances r.first r.asset - r.amount) ∙ e in
    balance-credit ds r.second r.asset r.amount n b l g.second g.pays.moves.asset
    ∙ ap (λ (y : ℕ). cond (by_second n b r) (y + r.amount) y) (balance-debit s.balances r.first r.asset r.amount n b e g.pays.moves.first g.pays.moves.asset)
    ∙ go (by_second n b r) (by_first n b r) refl refl g.apart
  where
    go : (t u : Bool) → by_second n b r ≡ t → by_first n b r ≡ u → differ r ≡ true
        → cond t (cond u (balance s.balances n b - r.amount) (balance s.balances n b) + r.amount) (cond u (balance s.balances n b - r.amount) (balance s.balances n b))
        ≡ cond t (balance s.balances n b + r.amount) (cond u (balance s.balances n b - r.amount) (balance s.balances n b))
    go true true p q d = absurd (ends_apart n b r d p q)
    go true false p q d = refl
    go false u p q d = refl
balance-counted (Ok Kind.Withdrawal) s r n b e h =
    let g = withdrawal-fits s r h in
    balance-debit s.balances r.first r.asset r.amount n b e g.moves.first g.moves.asset
balance-counted (Ok Kind.Grant) s r n b e h = refl
balance-counted (Err k) s r n b e h = refl
