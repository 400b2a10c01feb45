-- How many lots and pieces there can be: never more than the history has records.
use Rattle.std.specs.Prelude.{Ok, Err}
use Prim.Native.Nat.{ℕ, suc, ◌+◌, ◌-◌, ◌≤◌}
use mathlib.Core.Bool.{Bool, true, false, cond}
use mathlib.Core.List.{List, [], ◌∷◌}
use native.Mathlib.Omega.{arith}
use lib.Dec.{eqb}
use lib.ListN.{length, length-append, length-map}
use Rattle.rules.specs.declared.rows.Record.{Record}
use Rattle.rules.specs.declared.rows.Nonce.{Nonce}
use Rattle.rules.specs.declared.rows.Lot.{Lot}
use Rattle.rules.specs.declared.rows.Kind.{Kind}
use Rattle.rules.specs.Kinds.{AnyKind}
use Rattle.rules.specs.History.{kind_of, is_withdrawal}
use Rattle.rules.specs.Lots.{in_line, line, taken, taken_by, lots_as, lots_after, replay, trace_from, pieces}
use Rattle.lots.proofs.ListLaws.{length-those}
use Rattle.lots.proofs.Taking.{takes, takes_count, takes_few}

-- there are no more pieces than lots in the line, and no more of these than lots
pub taken-count : (m a x : ℕ) (ls : List Lot) → length (taken m a x ls) ≤ length (line m a ls)
taken-count m a x ls = takes_few (takes m a x ls)

pub line-count : (m a : ℕ) (ls : List Lot) → length (line m a ls) ≤ length ls
unfolding line
line-count m a ls = length-those (in_line m a) ls

-- no record makes more than one lot more
pub lots-count : (k : AnyKind) (ls : List Lot) (r : Record) → length (lots_as k ls r) ≤ length ls + 1
unfolding lots_as
lots-count (Ok Kind.Claim) ls r = rw length-append (omega arith)
lots-count (Ok Kind.Transfer) ls r = simp (length-append, length-map) (omega (arith, takes_count (takes r.first r.asset r.amount ls)))
lots-count (Ok Kind.Withdrawal) ls r = omega (arith, takes_count (takes r.first r.asset r.amount ls))
lots-count (Ok Kind.Grant) ls r = omega arith
lots-count (Err e) ls r = omega arith

-- from any lots on, each record adds at most one
replay-count-from : (ls : List Lot) (h : List Record) → length (replay ls h) ≤ length ls + length h
unfolding replay
replay-count-from ls [] = omega arith
replay-count-from ls (r ∷ h) = omega (arith, lots-count (kind_of r) ls r, replay-count-from (lots_after ls r) h)

-- so a history leaves no more lots than it has records
pub replay-count : (h : List Record) → length (replay [] h) ≤ length h
replay-count h = omega (arith, replay-count-from [] h)

-- the same of a payment's pieces
trace-count-from : (ls : List Lot) (n : ℕ) (h : List Record) → length (trace_from ls n h) ≤ length ls + length h
unfolding trace_from
trace-count-from ls n [] = omega arith
trace-count-from ls n (r ∷ h) = go (is_withdrawal r) (eqb n 0) (trace-count-from (lots_after ls r) n h) (trace-count-from (lots_after ls r) (n - 1) h)
  where
    go : (t u : Bool) → length (trace_from (lots_after ls r) n h) ≤ length (lots_after ls r) + length h
        → length (trace_from (lots_after ls r) (n - 1) h) ≤ length (lots_after ls r) + length h
        → length (cond t (cond u (taken_by r ls) (trace_from (lots_after ls r) (n - 1) h)) (trace_from (lots_after ls r) n h)) ≤ length ls + suc (length h)
    go true true i j = omega (arith, taken-count r.first r.asset r.amount ls, line-count r.first r.asset ls)
    go true false i j = omega (arith, lots-count (kind_of r) ls r)
    go false u i j = omega (arith, lots-count (kind_of r) ls r)

-- and a payment no more pieces
pub pieces-count : (h : List Record) (n : Nonce) → length (pieces h n) ≤ length h
pieces-count h n = omega (arith, trace-count-from [] n.0 h)
