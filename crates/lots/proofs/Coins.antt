-- "Oldest first", said without lots: a line is a row of coins, and taking x takes the first x coins and leaves the others, in their order. So the remainder of a split lot stays in front.
use Rattle.std.specs.Prelude.{Ok}
use Prim.Native.Nat.{ℕ, ◌+◌, ◌-◌, ◌≤◌, ◌<◌}
use mathlib.Core.Path.{◌≡◌, refl, sym, ap, ◌∙◌}
use mathlib.Core.Bool.{Bool, true, false, cond}
use mathlib.Core.List.{List, [], ◌∷◌, ◌++◌, map, append-nil, append_assoc}
use native.Mathlib.Omega.{arith}
use lib.ListN.{length, take, drop, replicate, length-replicate, replicate-append-replicate}
use lib.Seq.{take_at, drop_at, take-nil, drop-nil, take-append-add, drop-append-add}
use Rattle.rules.specs.declared.rows.Record.{Record}
use Rattle.rules.specs.declared.rows.Nonce.{Nonce}
use Rattle.rules.specs.declared.rows.Lot.{Lot}
use Rattle.rules.specs.Lists.{those, joined}
use Rattle.rules.specs.declared.rows.Kind.{Kind}
use Rattle.rules.specs.History.{by_first, by_second, differ, withdrawals}
use Rattle.rules.specs.Lots.{line, of_member, taken, left, lot_of, lots_as, replay, pieces}
use Rattle.rules.proofs.Laying.{joined_append}
use Rattle.lots.specs.Traces.{coins, taken_line, left_line, nth_withdrawal, before_payment}
use Rattle.lots.proofs.Taking.{Takes, takes}
use Rattle.lots.proofs.LotLaws.{taken-line, left-line, line-claim, line-transfer, line-withdrawal}
use Rattle.lots.proofs.TraceLaws.{pieces-at}

-- taking more coins than the first lot has takes them all, and the rest from the others
take_more : (x n k : ℕ) (cs : List ℕ) → n ≤ x → take x (replicate n k ++ cs) ≡ replicate n k ++ take (x - n) cs
take_more x n k cs h =
    let e : x ≡ length (replicate n k) + (x - n) = rw (length-replicate n k) (omega arith) in
    ap (λ (i : ℕ). take i (replicate n k ++ cs)) e ∙ take-append-add (replicate n k) cs (x - n)

-- and as many fewer are left to drop
drop_more : (x n k : ℕ) (cs : List ℕ) → n ≤ x → drop x (replicate n k ++ cs) ≡ drop (x - n) cs
drop_more x n k cs h =
    let e : x ≡ length (replicate n k) + (x - n) = rw (length-replicate n k) (omega arith) in
    ap (λ (i : ℕ). drop i (replicate n k ++ cs)) e ∙ drop-append-add (replicate n k) cs (x - n)

-- coins of one lot, in two parts
parted : (x n k : ℕ) (cs : List ℕ) → x ≤ n → replicate n k ++ cs ≡ replicate x k ++ (replicate (n - x) k ++ cs)
parted x n k cs h =
    let e : n ≡ x + (n - x) = omega arith in
    ap (λ (i : ℕ). replicate i k ++ cs) e ∙ ap (λ (r : List ℕ). r ++ cs) (sym (replicate-append-replicate x (n - x) k)) ∙ append_assoc (replicate x k) (replicate (n - x) k) cs

module _ {m a : ℕ} where
  -- the pieces are the first x coins of the line
  takes_coins : {x : ℕ} {ls ps rest : List Lot} → Takes m a x ls ps rest → coins ps ≡ take x (coins (line m a ls))
  unfolding line those joined
  takes_coins (Takes.ended {x = x}) = sym (take-nil x)
  takes_coins Takes.met = refl
  takes_coins (Takes.whole {x = x} {l = l} {ls = ls} f g p t) =
      rw (f, take_more x l.amount l.number.0 (coins (line m a ls)) g) (ap (λ (r : List ℕ). replicate l.amount l.number.0 ++ r) (takes_coins t))
  takes_coins (Takes.split {x = x} {l = l} {ls = ls} f g p) =
      rw (f, parted x l.amount l.number.0 (coins (line m a ls)) (omega arith), append-nil (replicate x l.number.0))
      (sym (take_at (replicate x l.number.0) (replicate (l.amount - x) l.number.0 ++ coins (line m a ls)) x (length-replicate x l.number.0)))
  takes_coins (Takes.other f p t) = rw f (takes_coins t)

  -- and what is left of the line is the others
  takes_coins-left : {x : ℕ} {ls ps rest : List Lot} → Takes m a x ls ps rest → coins (line m a rest) ≡ drop x (coins (line m a ls))
  unfolding line those joined
  takes_coins-left (Takes.ended {x = x}) = sym (drop-nil x)
  takes_coins-left Takes.met = refl
  takes_coins-left (Takes.whole {x = x} {l = l} {ls = ls} f g p t) =
      rw (f, drop_more x l.amount l.number.0 (coins (line m a ls)) g) (takes_coins-left t)
  takes_coins-left (Takes.split {x = x} {l = l} {ls = ls} f g p) =
      rw (f, parted x l.amount l.number.0 (coins (line m a ls)) (omega arith))
      (sym (drop_at (replicate x l.number.0) (replicate (l.amount - x) l.number.0 ++ coins (line m a ls)) x (length-replicate x l.number.0)))
  takes_coins-left (Takes.other f p t) = rw f (takes_coins-left t)

-- both, of what the rules define
pub taken-coins : (m a x : ℕ) (ls : List Lot) → coins (taken m a x ls) ≡ take x (coins (line m a ls))
taken-coins m a x ls = takes_coins (takes m a x ls)

pub left-coins : (m a x : ℕ) (ls : List Lot) → coins (line m a (left m a x ls)) ≡ drop x (coins (line m a ls))
left-coins m a x ls = takes_coins-left (takes m a x ls)

-- a new owner changes no coin
moved_coins : (s : ℕ) (ps : List Lot) → coins (map (of_member s) ps) ≡ coins ps
unfolding joined
moved_coins s [] = refl
moved_coins s (p ∷ ps) = ap (λ (r : List ℕ). replicate p.amount p.number.0 ++ r) (moved_coins s ps)

-- what is left of any line by itself, in coins
line-coins : (n b x : ℕ) (ls : List Lot) → coins (left_line x (line n b ls)) ≡ drop x (coins (line n b ls))
line-coins n b x ls = ap coins (sym (left-line n b x ls)) ∙ left-coins n b x ls

-- ---- each record, in coins
-- a claim puts as many coins as its amount at the end of its line, each with its deposit number
pub claim-coins : (n b : ℕ) (ls : List Lot) (r : Record)
    → coins (line n b (lots_as (Ok Kind.Claim) ls r)) ≡ cond (by_first n b r) (coins (line n b ls) ++ replicate r.amount r.second) (coins (line n b ls))
claim-coins n b ls r = ap coins (line-claim n b ls r) ∙ go (by_first n b r)
  where
    go : (t : Bool) → coins (cond t (line n b ls ++ (lot_of r ∷ [])) (line n b ls)) ≡ cond t (coins (line n b ls) ++ replicate r.amount r.second) (coins (line n b ls))
    go true =
        joined_append (λ l. replicate l.amount l.number.0) (line n b ls) (lot_of r ∷ [])
        ∙ ap (λ (c : List ℕ). coins (line n b ls) ++ c) (unfold joined in append-nil (replicate r.amount r.second))
    go false = refl

-- a transfer moves the first coins of the sender's line, in their order, to the end of the receiver's
pub transfer-coins : (n b : ℕ) (ls : List Lot) (r : Record) → differ r ≡ true
    → coins (line n b (lots_as (Ok Kind.Transfer) ls r))
    ≡ cond (by_second n b r) (coins (line n b ls) ++ take r.amount (coins (line r.first r.asset ls)))
    (cond (by_first n b r) (drop r.amount (coins (line n b ls))) (coins (line n b ls)))
transfer-coins n b ls r d = ap coins (line-transfer n b ls r d) ∙ go (by_second n b r) (by_first n b r)
  where
    ps : List Lot
    ps = taken_line r.amount (line r.first r.asset ls)

    first_ones : coins ps ≡ take r.amount (coins (line r.first r.asset ls))
    first_ones = ap coins (sym (taken-line r.first r.asset r.amount ls)) ∙ taken-coins r.first r.asset r.amount ls

    go : (t u : Bool) → coins (cond t (line n b ls ++ map (of_member r.second) ps) (cond u (left_line r.amount (line n b ls)) (line n b ls)))
        ≡ cond t (coins (line n b ls) ++ take r.amount (coins (line r.first r.asset ls))) (cond u (drop r.amount (coins (line n b ls))) (coins (line n b ls)))
    go true u =
        joined_append (λ l. replicate l.amount l.number.0) (line n b ls) (map (of_member r.second) ps)
        ∙ ap (λ (c : List ℕ). coins (line n b ls) ++ c) (moved_coins r.second ps ∙ first_ones)
    go false true = line-coins n b r.amount ls
    go false false = refl

-- a withdrawal takes the first coins of the payer's line away
pub withdrawal-coins : (n b : ℕ) (ls : List Lot) (r : Record)
    → coins (line n b (lots_as (Ok Kind.Withdrawal) ls r)) ≡ cond (by_first n b r) (drop r.amount (coins (line n b ls))) (coins (line n b ls))
withdrawal-coins n b ls r = ap coins (line-withdrawal n b ls r) ∙ go (by_first n b r)
  where
    go : (t : Bool) → coins (cond t (left_line r.amount (line n b ls)) (line n b ls)) ≡ cond t (drop r.amount (coins (line n b ls))) (coins (line n b ls))
    go true = line-coins n b r.amount ls
    go false = refl

-- the pieces of payment n are the first coins of the payer's line, as many as the amount
pub trace-coins : (h : List Record) (n : Nonce) → n.0 < withdrawals h
    → coins (pieces h n)
    ≡ take (nth_withdrawal n.0 h).amount (coins (line (nth_withdrawal n.0 h).first (nth_withdrawal n.0 h).asset (replay [] (before_payment n.0 h))))
trace-coins h n l =
    let w = nth_withdrawal n.0 h in
    ap coins (pieces-at h n l) ∙ taken-coins w.first w.asset w.amount (replay [] (before_payment n.0 h))
