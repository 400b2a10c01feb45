-- What lines are worth: taking parts a line's worth, with enough in the line it takes exactly the amount, and each record changes a line's worth as provenance counts it.
use Rattle.std.specs.Prelude.{Ok}
use Prim.Native.Nat.{ℕ, ◌+◌, ◌-◌, ◌≤◌}
use mathlib.Core.Path.{◌≡◌, refl, sym, ap, ap₂, ◌∙◌}
use mathlib.Core.Bool.{Bool, true, false, cond, and-eq-true_iff}
use mathlib.Core.List.{List, [], ◌∷◌, ◌++◌, map}
use native.Mathlib.Omega.{arith}
use lib.Dec.{eqb}
use borrow.Author.Tests.{eqb-true}
use Rattle.rules.specs.declared.rows.Record.{Record}
use Rattle.rules.specs.declared.rows.Lot.{Lot}
use Rattle.rules.specs.Lists.{those, sum_of}
use Rattle.rules.specs.declared.rows.Kind.{Kind}
use Rattle.rules.specs.History.{by_first, by_second, differ, counted_as}
use Rattle.rules.specs.Lots.{in_line, line, of_member, taken, left, taken_by, left_by, lot_of, lots_as}
use Rattle.lots.specs.Traces.{same_line, worth, line_worth}
use Rattle.lots.proofs.Fits.{ends_apart}
use Rattle.lots.proofs.ListLaws.{those-append, those-all, sum-append, sum-map, sum-those}
use Rattle.lots.proofs.Taking.{takes, takes_others, takes_weigh, takes_enough}
use Rattle.lots.proofs.LotLaws.{taken-owned, pieces_moved}

-- a lot's amount, counted only where a test holds of its member, asset and number, is divided by a split
pub divided : (t : Bool) (l : Lot) (x : ℕ) → x ≤ l.amount → cond t x 0 + cond t (l.amount - x) 0 ≡ cond t l.amount 0
divided true l x h = omega arith
divided false l x h = refl

-- pieces and what is left make up the line
pub line_parts : (m a x : ℕ) (ls : List Lot) → worth (taken m a x ls) + line_worth m a (left m a x ls) ≡ line_worth m a ls
unfolding line
line_parts m a x ls =
    ap (λ (u : ℕ). u + line_worth m a (left m a x ls)) (ap worth (sym (those-all (in_line m a) (taken m a x ls) (taken-owned m a x ls))))
    ∙ ap₂ (λ (u v : ℕ). u + v) (counted_in (taken m a x ls)) (counted_in (left m a x ls))
    ∙ takes_weigh (λ l. cond (in_line m a l) l.amount 0) (λ l y h. divided (in_line m a l) l y h) (takes m a x ls)
    ∙ sym (counted_in ls)
  where
    counted_in : (rs : List Lot) → worth (those (in_line m a) rs) ≡ sum_of (λ l. cond (in_line m a l) l.amount 0) rs
    counted_in rs = sum-those (λ l. l.amount) (in_line m a) rs

-- with enough in the line, the pieces are worth exactly the amount
pub taken-worth : (m a x : ℕ) (ls : List Lot) → x ≤ line_worth m a ls → worth (taken m a x ls) ≡ x
taken-worth m a x ls h = takes_enough (takes m a x ls) h

-- and the line is worth so much less, while every other line is worth what it was
pub left-worth : (m a n b x : ℕ) (ls : List Lot) → x ≤ line_worth m a ls → line_worth n b (left m a x ls) ≡ cond (same_line m a n b) (line_worth n b ls - x) (line_worth n b ls)
left-worth m a n b x ls h = go (same_line m a n b) refl
  where
    go : (t : Bool) → same_line m a n b ≡ t → line_worth n b (left m a x ls) ≡ cond t (line_worth n b ls - x) (line_worth n b ls)
    go true e =
        let (p, q) = (and-eq-true_iff (eqb m n) (eqb a b)).0 e in
        rw (← eqb-true m n p, ← eqb-true a b q) (omega (arith, line_parts m a x ls, taken-worth m a x ls h))
    go false e = ap worth (takes_others n b e (takes m a x ls))

-- the pieces of a transfer are worth as much to the receiver
moved_worth : (m a s n b x : ℕ) (ls : List Lot) → x ≤ line_worth m a ls → line_worth n b (map (of_member s) (taken m a x ls)) ≡ cond (same_line s a n b) x 0
moved_worth m a s n b x ls h = ap worth (pieces_moved m a s n b (taken m a x ls) (taken-owned m a x ls)) ∙ go (same_line s a n b)
  where
    go : (t : Bool) → worth (cond t (map (of_member s) (taken m a x ls)) []) ≡ cond t x 0
    go true = sum-map (λ l. l.amount) (of_member s) (λ l. refl) (taken m a x ls) ∙ taken-worth m a x ls h
    go false = unfold sum_of in refl

-- two lists of lots, one after the other, are worth what each is
append-worth : (n b : ℕ) (ls rs : List Lot) → line_worth n b (ls ++ rs) ≡ line_worth n b ls + line_worth n b rs
unfolding line
append-worth n b ls rs = ap worth (those-append (in_line n b) ls rs) ∙ sum-append (λ l. l.amount) (those (in_line n b) ls) (those (in_line n b) rs)

-- ---- a record changes what a line is worth as provenance counts it
-- a claim, always
pub claim-worth : (n b : ℕ) (ls : List Lot) (r : Record) → line_worth n b (lots_as (Ok Kind.Claim) ls r) ≡ counted_as (Ok Kind.Claim) n b r (line_worth n b ls)
unfolding lots_as counted_as
claim-worth n b ls r = append-worth n b ls (lot_of r ∷ []) ∙ unfold line those in go (by_first n b r)
  where
    go : (t : Bool) → line_worth n b ls + worth (cond t (lot_of r ∷ []) []) ≡ cond t (line_worth n b ls + r.amount) (line_worth n b ls)
    go true = unfold sum_of in omega arith
    go false = unfold sum_of in omega arith

-- a transfer between two members, with enough in the sender's line
pub transfer-worth : (n b : ℕ) (ls : List Lot) (r : Record) → differ r ≡ true → r.amount ≤ line_worth r.first r.asset ls
    → line_worth n b (lots_as (Ok Kind.Transfer) ls r) ≡ counted_as (Ok Kind.Transfer) n b r (line_worth n b ls)
unfolding lots_as counted_as
transfer-worth n b ls r d h =
    append-worth n b (left_by r ls) (map (of_member r.second) (taken_by r ls))
    ∙ ap₂ (λ (u v : ℕ). u + v) (left-worth r.first r.asset n b r.amount ls h) (moved_worth r.first r.asset r.second n b r.amount ls h)
    ∙ go (by_second n b r) (by_first n b r) refl refl
  where
    go : (t u : Bool) → by_second n b r ≡ t → by_first n b r ≡ u
        → cond u (line_worth n b ls - r.amount) (line_worth n b ls) + cond t r.amount 0
        ≡ cond t (line_worth n b ls + r.amount) (cond u (line_worth n b ls - r.amount) (line_worth n b ls))
    go true true e f = absurd (ends_apart n b r d e f)
    go true false e f = refl
    go false true e f = omega arith
    go false false e f = omega arith

-- a withdrawal, with enough in the payer's line
pub withdrawal-worth : (n b : ℕ) (ls : List Lot) (r : Record) → r.amount ≤ line_worth r.first r.asset ls
    → line_worth n b (lots_as (Ok Kind.Withdrawal) ls r) ≡ counted_as (Ok Kind.Withdrawal) n b r (line_worth n b ls)
unfolding lots_as counted_as
withdrawal-worth n b ls r h = left-worth r.first r.asset n b r.amount ls h
