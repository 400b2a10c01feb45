-- Document 01, "Tracing a payment": lots, replay and trace. The lots of all members and assets stand in one list; a member's line for an asset is those of its lots, in order.
use Rattle.std.specs.Prelude.{Ok, Err, ℕ, ◌-◌, Bool, ◌&&◌, cond, List, [], ◌∷◌, ◌++◌, map, leb, eqb}
use Rattle.rules.specs.Types.{Nonce, Record, Lot, Kind}
use Rattle.rules.specs.Kinds.{AnyKind}
use Rattle.rules.specs.Lists.{those}
use Rattle.rules.specs.History.{kind_of, is_withdrawal}

-- a row of zeros: what a cleared table holds, and what stands past the end of one
abbrev pub no_lot : Lot
no_lot = record { member = 0; asset = 0; number = record { 0 = 0 }; amount = 0 }

abbrev pub in_line : ℕ → ℕ → Lot → Bool
in_line m a l = eqb l.member m && eqb l.asset a

-- a member's line for an asset
unfoldable pub line : ℕ → ℕ → List Lot → List Lot
line m a ls = those (in_line m a) ls

-- the same lot with another amount, and with another owner
abbrev pub of_amount : ℕ → Lot → Lot
of_amount x l = record { member = l.member; asset = l.asset; number = l.number; amount = x }

abbrev pub of_member : ℕ → Lot → Lot
of_member m l = record { member = m; asset = l.asset; number = l.number; amount = l.amount }

-- taking x "from the front of the line until the amount is met; the last lot is split if need be":
-- the pieces, in the order taken
unfoldable pub taken : ℕ → ℕ → ℕ → List Lot → List Lot
taken m a x [] = []
taken m a x (l ∷ ls) =
    let whole = l ∷ taken m a (x - l.amount) ls in
    let split = of_amount x l ∷ [] in
    let later = taken m a x ls in
    cond (eqb x 0) [] (cond (in_line m a l) (cond (leb l.amount x) whole split) later)

-- and what is left, the remainder of a split lot "staying in front"
unfoldable pub left : ℕ → ℕ → ℕ → List Lot → List Lot
left m a x [] = []
left m a x (l ∷ ls) =
    let whole = left m a (x - l.amount) ls in
    let split = of_amount (l.amount - x) l ∷ ls in
    let later = l ∷ left m a x ls in
    cond (eqb x 0) (l ∷ ls) (cond (in_line m a l) (cond (leb l.amount x) whole split) later)

-- what a record takes, from the line of its first member
abbrev pub taken_by : Record → List Lot → List Lot
taken_by r ls = taken r.first r.asset r.amount ls

abbrev pub left_by : Record → List Lot → List Lot
left_by r ls = left r.first r.asset r.amount ls

-- the lot that a claim puts
abbrev pub lot_of : Record → Lot
lot_of r = record { member = r.first; asset = r.asset; number = record { 0 = r.second }; amount = r.amount }

-- what a record does to the lots: a claim puts one at the end; of a transfer "the pieces join the receiver's line in the order taken"; a withdrawal's leave
unfoldable pub lots_as : AnyKind → List Lot → Record → List Lot
lots_as (Ok Kind.Claim) ls r = ls ++ (lot_of r ∷ [])
lots_as (Ok Kind.Transfer) ls r = left_by r ls ++ map (of_member r.second) (taken_by r ls)
lots_as (Ok Kind.Withdrawal) ls r = left_by r ls
lots_as (Ok Kind.Grant) ls r = ls
lots_as (Err e) ls r = ls

abbrev pub lots_after : List Lot → Record → List Lot
lots_after ls r = lots_as (kind_of r) ls r

-- the lots after all of a history
unfoldable pub replay : List Lot → List Record → List Lot
replay ls [] = ls
replay ls (r ∷ rs) = replay (lots_after ls r) rs

-- "Payment n is the withdrawal with n withdrawals before it", and its pieces are the trace
unfoldable pub trace_from : List Lot → ℕ → List Record → List Lot
trace_from ls n [] = []
trace_from ls n (r ∷ rs) =
    let before = trace_from (lots_after ls r) n rs in
    let later = trace_from (lots_after ls r) (n - 1) rs in
    cond (is_withdrawal r) (cond (eqb n 0) (taken_by r ls) later) before

abbrev pub pieces : List Record → Nonce → List Lot
pieces h n = trace_from [] n.0 h
