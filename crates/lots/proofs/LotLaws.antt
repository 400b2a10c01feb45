-- What each record does to the lines, in terms of one line alone.
use Rattle.std.specs.Prelude.{Ok}
use Prim.Native.Nat.{ℕ}
use mathlib.Core.Path.{◌≡◌, refl, ap, ap₂, ◌∙◌}
use mathlib.Core.Bool.{Bool, true, false, not, cond, and-eq-true_iff}
use mathlib.Core.List.{List, [], ◌∷◌, ◌++◌, map, append-nil}
use lib.Dec.{eqb}
use borrow.Author.Tests.{eqb-true}
use Rattle.rules.specs.declared.rows.Record.{Record}
use Rattle.rules.specs.declared.rows.Lot.{Lot}
use Rattle.rules.specs.Lists.{all, those}
use Rattle.rules.specs.declared.rows.Kind.{Kind}
use Rattle.rules.specs.History.{by_first, by_second, differ}
use Rattle.rules.specs.Lots.{in_line, line, of_member, taken, left, taken_by, left_by, lot_of, lots_as}
use Rattle.lots.specs.Traces.{same_line, taken_line, left_line}
use Rattle.lots.proofs.Fits.{ends_apart}
use Rattle.lots.proofs.ListLaws.{those-append, those-all, those-none, all_map}
use Rattle.lots.proofs.Taking.{takes, takes_pieces, takes_left, takes_owned, takes_others}

-- ---- taking, line by line
-- what is taken depends on the line alone
pub taken-line : (m a x : ℕ) (ls : List Lot) → taken m a x ls ≡ taken_line x (line m a ls)
taken-line m a x ls = takes_pieces (takes m a x ls)

-- every piece is of that member and asset
pub taken-owned : (m a x : ℕ) (ls : List Lot) → all (in_line m a) (taken m a x ls) ≡ true
taken-owned m a x ls = takes_owned (takes m a x ls)

-- what is left of that line depends on the line alone
pub left-line : (m a x : ℕ) (ls : List Lot) → line m a (left m a x ls) ≡ left_line x (line m a ls)
left-line m a x ls = takes_left (takes m a x ls)

-- and every other line is as it was
pub left-others : (m a n b x : ℕ) (ls : List Lot) → same_line m a n b ≡ false → line n b (left m a x ls) ≡ line n b ls
left-others m a n b x ls d = takes_others n b d (takes m a x ls)

-- both as one
pub line-left : (m a n b x : ℕ) (ls : List Lot) → line n b (left m a x ls) ≡ cond (same_line m a n b) (left_line x (line n b ls)) (line n b ls)
line-left m a n b x ls = go (same_line m a n b) refl
  where
    go : (t : Bool) → same_line m a n b ≡ t → line n b (left m a x ls) ≡ cond t (left_line x (line n b ls)) (line n b ls)
    go true e =
        let (p, q) = (and-eq-true_iff (eqb m n) (eqb a b)).0 e in
        rw (← eqb-true m n p, ← eqb-true a b q) (left-line m a x ls)
    go false e = left-others m a n b x ls e

-- pieces that pass to a member stand all in its line, and in no other
pub pieces_moved : (m a s n b : ℕ) (ps : List Lot) → all (in_line m a) ps ≡ true
    → line n b (map (of_member s) ps) ≡ cond (same_line s a n b) (map (of_member s) ps) []
unfolding line
pieces_moved m a s n b ps h = go (same_line s a n b) refl
  where
    asset : (l : Lot) → in_line m a l ≡ true → in_line n b (of_member s l) ≡ same_line s a n b
    asset l e = rw (eqb-true l.asset a ((and-eq-true_iff (eqb l.member m) (eqb l.asset a)).0 e).1)

    go : (t : Bool) → same_line s a n b ≡ t → those (in_line n b) (map (of_member s) ps) ≡ cond t (map (of_member s) ps) []
    go true e = those-all (in_line n b) (map (of_member s) ps) (all_map (in_line m a) (in_line n b) (of_member s) (λ l o. asset l o ∙ e) ps h)
    go false e =
        those-none (in_line n b) (map (of_member s) ps)
        (all_map (in_line m a) (λ l. not (in_line n b l)) (of_member s) (λ l o. ap not (asset l o ∙ e)) ps h)

-- ---- what a record does to each line
-- after a claim: the line of its member and asset has the lot at its end, every other is as it was
pub line-claim : (n b : ℕ) (ls : List Lot) (r : Record) → line n b (lots_as (Ok Kind.Claim) ls r) ≡ cond (by_first n b r) (line n b ls ++ (lot_of r ∷ [])) (line n b ls)
unfolding line lots_as those
line-claim n b ls r = those-append (in_line n b) ls (lot_of r ∷ []) ∙ go (by_first n b r)
  where
    go : (t : Bool) → line n b ls ++ cond t (lot_of r ∷ []) [] ≡ cond t (line n b ls ++ (lot_of r ∷ [])) (line n b ls)
    go true = refl
    go false = append-nil (line n b ls)

-- after a transfer: the receiver's line is what it was and then the pieces, with their new owner, in the order taken; the sender's is what is left; every other is as it was
pub line-transfer : (n b : ℕ) (ls : List Lot) (r : Record) → differ r ≡ true
    → line n b (lots_as (Ok Kind.Transfer) ls r)
    ≡ cond (by_second n b r) (line n b ls ++ map (of_member r.second) (taken_line r.amount (line r.first r.asset ls)))
    (cond (by_first n b r) (left_line r.amount (line n b ls)) (line n b ls))
unfolding lots_as line
line-transfer n b ls r d =
    those-append (in_line n b) (left_by r ls) (map (of_member r.second) (taken_by r ls))
    ∙ ap₂ (λ (u v : List Lot). u ++ v) (line-left r.first r.asset n b r.amount ls)
    (pieces_moved r.first r.asset r.second n b (taken_by r ls) (taken-owned r.first r.asset r.amount ls))
    ∙ rw (taken-line r.first r.asset r.amount ls) (go (by_second n b r) (by_first n b r) refl refl)
  where
    go : (t u : Bool) → by_second n b r ≡ t → by_first n b r ≡ u
        → cond u (left_line r.amount (line n b ls)) (line n b ls) ++ cond t (map (of_member r.second) (taken_line r.amount (line r.first r.asset ls))) []
        ≡ cond t (line n b ls ++ map (of_member r.second) (taken_line r.amount (line r.first r.asset ls)))
        (cond u (left_line r.amount (line n b ls)) (line n b ls))
    go true true e f = absurd (ends_apart n b r d e f)
    go true false e f = refl
    go false true e f = append-nil (left_line r.amount (line n b ls))
    go false false e f = append-nil (line n b ls)

-- after a withdrawal: the payer's line is what is left, every other is as it was
pub line-withdrawal : (n b : ℕ) (ls : List Lot) (r : Record) → line n b (lots_as (Ok Kind.Withdrawal) ls r) ≡ cond (by_first n b r) (left_line r.amount (line n b ls)) (line n b ls)
unfolding lots_as
line-withdrawal n b ls r = line-left r.first r.asset n b r.amount ls
