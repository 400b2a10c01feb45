-- The cells of the desk's lists of eight, in one place: what a total or a holder is after one was changed (lots has the balances). Later proofs see no index.
use Prim.Native.Nat.{ℕ, ◌+◌, ◌-◌}
use mathlib.Core.Path.{◌≡◌, refl, sym, ◌∙◌}
use mathlib.Core.Logic.{◌≢◌}
use mathlib.Core.Bool.{Bool, true, false, cond, true≢false}
use mathlib.Core.List.{List}
use native.Mathlib.Omega.{arith}
use lib.Dec.{eqb}
use lib.ListN.{length, get_or, set, length-set}
use lib.Seq.{get_or-set_same, get_or-set_other}
use borrow.Author.Tests.{eqb-true, eqb-false}
use Rattle.rules.specs.Limits.{within, asset_count, domain_count}
use Rattle.rules.specs.Effects.{cell, balance, credit, debit, holder, total, raised}
use Rattle.rules.specs.Facts.{Within}
use Rattle.rules.proofs.Tests.{within_true, true_within}

-- ---- balances
-- neither a credit nor a debit changes how many balances there are
pub length-credit : (bs : List ℕ) (m a x : ℕ) → length (credit bs m a x) ≡ length bs
unfolding credit
length-credit bs m a x = length-set bs (cell m a) (balance bs m a + x)

pub length-debit : (bs : List ℕ) (m a x : ℕ) → length (debit bs m a x) ≡ length bs
unfolding debit
length-debit bs m a x = length-set bs (cell m a) (balance bs m a - x)

-- ---- lists with an entry for each asset, or for each domain
abbrev entry : List ℕ → ℕ → ℕ
entry ts a = cond (within 1 8 a) (get_or ts (a - 1) 0) 0

-- the entries after one was set
entry_set : (ts : List ℕ) (a v : ℕ) → length ts ≡ 8 → Within 1 8 a → (b : ℕ) → entry (set ts (a - 1) v) b ≡ cond (eqb a b) v (entry ts b)
entry_set ts a v size ha b = go (within 1 8 b) refl (eqb a b) refl
  where
    go : (t : Bool) → within 1 8 b ≡ t → (u : Bool) → eqb a b ≡ u → cond t (get_or (set ts (a - 1) v) (b - 1) 0) 0 ≡ cond u v (cond t (get_or ts (b - 1) 0) 0)
    go true e true f = rw (← eqb-true a b f) (get_or-set_same ts (a - 1) v 0 (omega arith))
    go true e false f =
        let hb : Within 1 8 b = within_true 1 8 b e in
        let d : a ≢ b = eqb-false a b f in
        get_or-set_other ts (a - 1) (b - 1) v 0 (omega arith)
    go false e true f = absurd (true≢false (sym (rw (← eqb-true a b f) (true_within 1 8 a ha)) ∙ e))
    go false e false f = refl

-- who holds a domain after one domain's holder was set
pub holder-set : (hs : List ℕ) (d v : ℕ) → length hs ≡ domain_count → Within 1 domain_count d → (e : ℕ) → holder (set hs (d - 1) v) e ≡ cond (eqb d e) v (holder hs e)
unfolding holder
holder-set hs d v size hd e = entry_set hs d v size hd e

-- what each total is after one was raised
pub total-raised : (ts : List ℕ) (a x : ℕ) → length ts ≡ asset_count → Within 1 asset_count a → (b : ℕ) → total (raised ts a x) b ≡ total ts b + cond (eqb a b) x 0
unfolding total raised
total-raised ts a x size ha b = entry_set ts a (entry ts a + x) size ha b ∙ go (eqb a b) refl
  where
    go : (t : Bool) → eqb a b ≡ t → cond t (entry ts a + x) (entry ts b) ≡ entry ts b + cond t x 0
    go true e = rw (eqb-true a b e)
    go false e = omega arith

-- there are as many totals as before
pub length-raised : (ts : List ℕ) (a x : ℕ) → length (raised ts a x) ≡ length ts
unfolding raised
length-raised ts a x = length-set ts (a - 1) (total ts a + x)
