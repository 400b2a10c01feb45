-- A test of every lot that a split and a new owner keep holds from record to record.
use Rattle.std.specs.Prelude.{Ok, Err}
use Prim.Native.Nat.{ℕ, ◌-◌, ◌≤◌}
use mathlib.Core.Path.{◌≡◌, refl}
use mathlib.Core.Bool.{Bool, true, and-eq-true_iff}
use mathlib.Core.List.{List, [], ◌∷◌, map}
use native.Mathlib.Omega.{arith}
use Rattle.rules.specs.declared.rows.Record.{Record}
use Rattle.rules.specs.declared.rows.Lot.{Lot}
use Rattle.rules.specs.Lists.{all}
use Rattle.rules.specs.declared.rows.Kind.{Kind}
use Rattle.rules.specs.Kinds.{AnyKind}
use Rattle.rules.specs.Lots.{of_amount, of_member, taken_by, left_by, lot_of, lots_as}
use Rattle.rules.proofs.Digits.{all_append}
use Rattle.lots.proofs.ListLaws.{all_map}
use Rattle.lots.proofs.Taking.{Takes, takes}

-- a test that a split keeps
module _ (q : Lot → Bool) (part : (l : Lot) (x : ℕ) → 1 ≤ x → q l ≡ true → q (of_amount x l) ≡ true) where
  -- every piece passes it where every lot does
  pub takes_all : {m a x : ℕ} {ls ps rest : List Lot} → Takes m a x ls ps rest → all q ls ≡ true → all q ps ≡ true
  unfolding all
  takes_all Takes.ended h = refl
  takes_all Takes.met h = refl
  takes_all (Takes.whole {l = l} {ls = ls} f g p t) h =
      let (u, v) = (and-eq-true_iff (q l) (all q ls)).0 h in
      rw u (takes_all t v)
  takes_all (Takes.split {x = x} {l = l} {ls = ls} f g p) h =
      let (u, v) = (and-eq-true_iff (q l) (all q ls)).0 h in
      rw (part l x p u)
  takes_all (Takes.other {l = l} {ls = ls} f p t) h = takes_all t ((and-eq-true_iff (q l) (all q ls)).0 h).1

  -- and so does every lot that is left
  pub takes_all-left : {m a x : ℕ} {ls ps rest : List Lot} → Takes m a x ls ps rest → all q ls ≡ true → all q rest ≡ true
  unfolding all
  takes_all-left Takes.ended h = refl
  takes_all-left Takes.met h = h
  takes_all-left (Takes.whole {l = l} {ls = ls} f g p t) h = takes_all-left t ((and-eq-true_iff (q l) (all q ls)).0 h).1
  takes_all-left (Takes.split {x = x} {l = l} {ls = ls} f g p) h =
      let (u, v) = (and-eq-true_iff (q l) (all q ls)).0 h in
      rw (part l (l.amount - x) (omega arith) u) v
  takes_all-left (Takes.other {l = l} {ls = ls} f p t) h =
      let (u, v) = (and-eq-true_iff (q l) (all q ls)).0 h in
      rw u (takes_all-left t v)

  -- a new owner keeps it too: then every lot after a record passes it, where every lot before did and a claim's lot does
  pub lots-all : ((l : Lot) (m : ℕ) → q l ≡ true → q (of_member m l) ≡ true) → (k : AnyKind) (ls : List Lot) (r : Record) → all q ls ≡ true → (k ≡ Ok Kind.Claim → q (lot_of r) ≡ true) → all q (lots_as k ls r) ≡ true
  unfolding lots_as
  lots-all moved (Ok Kind.Claim) ls r h c = rw (all_append q ls (lot_of r ∷ []), h) (unfold all in rw (c refl))
  lots-all moved (Ok Kind.Transfer) ls r h c =
      let t = takes r.first r.asset r.amount ls in
      rw (all_append q (left_by r ls) (map (of_member r.second) (taken_by r ls)), takes_all-left t h)
      (all_map q q (of_member r.second) (λ l. moved l r.second) (taken_by r ls) (takes_all t h))
  lots-all moved (Ok Kind.Withdrawal) ls r h c = takes_all-left (takes r.first r.asset r.amount ls) h
  lots-all moved (Ok Kind.Grant) ls r h c = h
  lots-all moved (Err e) ls r h c = h
