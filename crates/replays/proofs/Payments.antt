-- Where a payment stands among the records, found by counting withdrawals; and the replay up to it.
use Prim.Native.Nat.{ℕ, zero, suc, ◌+◌, ◌-◌, ◌*◌, ◌≤◌, ◌<◌}
use mathlib.Core.Path.{◌≡◌, refl, sym, ap, ◌∙◌}
use mathlib.Core.Bool.{Bool, true, false, cond}
use mathlib.Core.List.{List, [], ◌∷◌, ◌++◌}
use native.Mathlib.Nat.{zero-mul}
use native.Mathlib.Omega.{arith}
use lib.Dec.{leb, eqb}
use lib.ListN.{length, get_or, take, drop, length-append}
use lib.Seq.{drop-drop, take-append_seam, get_or-append_seam}
use borrow.Author.Tests.{ne_eqb, le-leb, lt-leb, leb-true, leb-false}
use Rattle.std.specs.List.{filter, range_with_len, slice_get}
use Rattle.std.proofs.Common.{Option}
use Rattle.std.specs.Option.{unwrap_or}
use Rattle.std.proofs.lemmas.Option.{unwrap_or-slice_get}
use Rattle.rules.specs.declared.rows.Record.{Record}
use Rattle.rules.specs.declared.rows.Lot.{Lot}
use Rattle.rules.specs.Lists.{those}
use Rattle.rules.specs.Tables.{Shape, rows_of, record_shape, no_record}
use Rattle.rules.specs.History.{is_withdrawal, withdrawals}
use Rattle.rules.specs.Lots.{taken_by, lots_after, replay, trace_from}
use Rattle.rules.proofs.Laying.{length-rows, take-rows, rows_split, more}
use Rattle.tables.specs.Rows.{row_at}
use Rattle.tables.proofs.Rest.{rest, rest_all, rest_step, rest_end}
use Rattle.lots.specs.Traces.{before_payment, after_payment, nth_withdrawal, PaymentAt}
use Rattle.lots.proofs.TraceLaws.{payment-at, pieces-at}
use Rattle.lots.proofs.LotCounts.{replay-count}
use Rattle.replays.specs.Replaying.{CanReplay, Replays, CanReplayAll, ReplaysAll}

-- a row of the rows is the row of the table
get_d_rows : {A : Type 0} (shape : Shape A) (n i : ℕ) (t : List ℕ) (d : A) → i < n → get_or (rows_of shape n t) i d ≡ row_at shape i t
unfolding rows_of
get_d_rows shape zero i t d h = absurd (omega arith)
get_d_rows shape (suc n) zero t d h = ap (λ (k : ℕ). shape.row (take shape.width (drop k t))) (sym (zero-mul shape.width))
get_d_rows shape (suc n) (suc i) t d h = get_d_rows shape n i (drop shape.width t) d (omega arith) ∙ ap (λ (u : List ℕ). shape.row (take shape.width u)) (drop-drop (i * shape.width) shape.width t ∙ ap (λ (k : ℕ). drop k t) (sym (more i shape.width)))

-- ---- the withdrawals' rows, of which it is number n
module _ (t : List ℕ) (records : ℕ) where
  -- the rows of a table that hold withdrawals: so many from row i on are looked at
  abbrev pub paying : ℕ → ℕ → List ℕ
  paying i k = filter (λ j. is_withdrawal (row_at record_shape j t)) (range_with_len i k)

  payment_from : (k i n : ℕ) → i + k ≡ records → get_or (paying i k) n records ≡ i + length (before_payment n (rest record_shape records i t))
  unfolding before_payment
  payment_from zero i n e = rw (rest_end record_shape records i t (omega arith)) (omega arith)
  payment_from (suc k) i n e =
      rw (rest_step record_shape records i t (omega arith)) (go n (is_withdrawal (row_at record_shape i t)) (payment_from k (i + 1) n (omega arith)) (payment_from k (i + 1) (n - 1) (omega arith)))
    where
      rs : List Record
      rs = rest record_shape records (i + 1) t

      go : (m : ℕ) (p : Bool) → get_or (paying (i + 1) k) m records ≡ i + 1 + length (before_payment m rs) → get_or (paying (i + 1) k) (m - 1) records ≡ i + 1 + length (before_payment (m - 1) rs)
          → get_or (cond p (i ∷ paying (i + 1) k) (paying (i + 1) k)) m records
          ≡ i + length (cond p (cond (eqb m 0) [] (row_at record_shape i t ∷ before_payment (m - 1) rs)) (row_at record_shape i t ∷ before_payment m rs))
      go m false here next = here ∙ omega arith
      go zero true here next = omega arith
      go (suc m) true here next =
          let e : suc m - 1 ≡ m = omega arith in
          let f : get_or (paying (i + 1) k) m records ≡ i + 1 + length (before_payment m rs) = rw e at next in
          rw (ne_eqb (suc m) 0 (λ z. omega arith), e, f) (omega arith)

  pub payment-nth : (n : ℕ) → get_or (paying 0 records) n records ≡ length (before_payment n (rows_of record_shape records t))
  payment-nth n = payment_from records 0 n (omega arith) ∙ rw (rest_all record_shape records t) (omega arith)

  -- so is the one that is asked for by the number k, where that is n
  pub payment_found : {k : ℕ} (n : ℕ) (o : Option ℕ) → o ≡ slice_get (paying 0 records) k → k ≡ n → unwrap_or o records ≡ length (before_payment n (rows_of record_shape records t))
  payment_found {k} n o e h =
      ap (λ (x : Option ℕ). unwrap_or x records) e ∙ unwrap_or-slice_get (paying 0 records) k records ∙ ap (λ (m : ℕ). get_or (paying 0 records) m records) h ∙ payment-nth n

-- ---- whether there is one
-- where there are no more withdrawals than n, all records come before it
all-before : (n : ℕ) (h : List Record) → withdrawals h ≤ n → before_payment n h ≡ h
unfolding withdrawals those before_payment
all-before n [] l = refl
all-before n (r ∷ rs) l = go (is_withdrawal r) l (all-before n rs) (all-before (n - 1) rs)
  where
    go : (p : Bool) → length (cond p (r ∷ those is_withdrawal rs) (those is_withdrawal rs)) ≤ n
        → (withdrawals rs ≤ n → before_payment n rs ≡ rs) → (withdrawals rs ≤ n - 1 → before_payment (n - 1) rs ≡ rs)
        → cond p (cond (eqb n 0) [] (r ∷ before_payment (n - 1) rs)) (r ∷ before_payment n rs) ≡ r ∷ rs
    go true l here next = rw (ne_eqb n 0 (λ z. omega arith)) (ap (λ (k : List Record). r ∷ k) (next (omega arith)))
    go false l here next = ap (λ (k : List Record). r ∷ k) (here l)

-- where there are more, not all do
some_after : (n : ℕ) (h : List Record) → n < withdrawals h → length (before_payment n h) < length h
some_after n h l =
    omega (arith, ap length (payment-at n h l).whole ∙ length-append (before_payment n h) (nth_withdrawal n h ∷ after_payment n h))

pub no_payment_lem : (n : ℕ) (h : List Record) → leb (length h) (length (before_payment n h)) ≡ leb (withdrawals h) n
no_payment_lem n h = go (leb (withdrawals h) n) refl
  where
    go : (p : Bool) → leb (withdrawals h) n ≡ p → leb (length h) (length (before_payment n h)) ≡ p
    go true e = le-leb (length h) (length (before_payment n h)) (omega (arith, ap length (all-before n h (leb-true (withdrawals h) n e))))
    go false e = lt-leb (length h) (length (before_payment n h)) (some_after n h (leb-false (withdrawals h) n e))

-- ---- the records before it, and its own
module _ (t : List ℕ) (records n : ℕ) (paid : n < withdrawals (rows_of record_shape records t)) where
  h : List Record
  h = rows_of record_shape records t

  pub place : ℕ
  place = length (before_payment n (rows_of record_shape records t))

  pub place_in : length (before_payment n (rows_of record_shape records t)) < records
  place_in = omega (arith, some_after n (rows_of record_shape records t) paid, length-rows record_shape records t)

  -- the pieces are what the record there takes after those before it
  pub pieces_there : trace_from [] n (rows_of record_shape records t)
      ≡ taken_by (row_at record_shape (length (before_payment n (rows_of record_shape records t))) t) (replay [] (rows_of record_shape (length (before_payment n (rows_of record_shape records t))) t))
  unfolding h place
  pieces_there =
      let p : PaymentAt n h = payment-at n h paid in
      let before : List Record = before_payment n h in
      let w : Record = nth_withdrawal n h in
      let e : w ≡ row_at record_shape place t =
      sym (get_or-append_seam before w (after_payment n h) no_record) ∙ ap (λ (k : List Record). get_or k place no_record) (sym p.whole) ∙ get_d_rows record_shape records place t no_record place_in in
      let f : before ≡ rows_of record_shape place t =
      sym (take-append_seam before (w ∷ after_payment n h)) ∙ ap (take place) (sym p.whole) ∙ take-rows record_shape records place t (omega (arith, place_in)) in
      pieces-at h (record { 0 = n }) paid ∙ mathlib.Core.Path.ap₂ (λ (x : Record) (y : List Record). taken_by x (replay [] y)) e f

-- ---- the replay, a record at a time
replay-last : (h : List Record) (r : Record) (ls : List Lot) → replay ls (h ++ (r ∷ [])) ≡ lots_after (replay ls h) r
unfolding replay
replay-last [] r ls = refl
replay-last (x ∷ h) r ls = replay-last h r (lots_after ls x)

replay-rows : (t : List ℕ) (i : ℕ) → replay [] (rows_of record_shape (i + 1) t) ≡ lots_after (replay [] (rows_of record_shape i t)) (row_at record_shape i t)
unfolding rows_of
replay-rows t i = ap (replay []) (rows_split record_shape i 1 t) ∙ replay-last (rows_of record_shape i t) (row_at record_shape i t) []

pub replay-none : (t : List ℕ) (work : List Lot) → ReplaysAll 0 t 0 work
unfolding replay rows_of
replay-none t work = record { lots = refl; count = refl }

-- never more lots than records
pub few-lots : (t : List ℕ) (i n : ℕ) (work : List Lot) → ReplaysAll i t n work → n ≤ i
few-lots t i n work a = omega (arith, a.count, replay-count (rows_of record_shape i t), length-rows record_shape i t)

pub replay-more : (t : List ℕ) (i used : ℕ) (work : List Lot) → ReplaysAll i t used work → (r : Record) → r ≡ row_at record_shape i t → (n : ℕ) (after : List Lot) → Replays r used work n after → ReplaysAll (i + 1) t n after
replay-more t i used work a r e n after q =
    let s : lots_after (take used work) r ≡ replay [] (rows_of record_shape (i + 1) t) = rw (a.lots, e) (sym (replay-rows t i)) in
    record { lots = q.lots ∙ s; count = q.count ∙ ap length s }

-- there is room for one record more
pub can_replay : (t : List ℕ) (work₀ held₀ : List Lot) (at i used : ℕ) (work held : List Lot) → CanReplayAll at work₀ held₀ → i < at → length work ≡ length work₀ → length held ≡ length held₀ → ReplaysAll i t used work → CanReplay used work held
can_replay t work₀ held₀ at i used work held can l p q a =
    let few : used ≤ i = few-lots t i used work a in
    record { few = omega (arith, can.few); room = rw p (omega (arith, can.room)); scratch = rw q (omega (arith, can.scratch)) }
