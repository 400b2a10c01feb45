-- The frame test by its parts: the loops over the inbox and the outbox, and the parts together.
use Prim.Native.Nat.{ℕ, ◌+◌, ◌-◌, ◌*◌, ◌≤◌, ◌<◌}
use mathlib.Core.Path.{◌≡◌, refl, sym, ap, ◌∙◌}
use mathlib.Core.Bool.{Bool, false, ◌&&◌, and_assoc, and_comm, and-true, and-false}
use mathlib.Core.List.{List, [], ◌∷◌}
use lib.Dec.{leb, ltb, eqb}
use lib.ListN.{length, take-append-drop}
use borrow.Author.Tests.{le-leb, lt-leb}
use Rattle.rules.specs.declared.rows.Deposit.{Deposit}
use Rattle.rules.specs.declared.rows.Payment.{Payment}
use Rattle.rules.specs.Limits.{inbox_rows, outbox_rows}
use Rattle.rules.specs.Lists.{all, ands}
use Rattle.rules.specs.Tables.{rows_of, deposit_shape, payment_shape}
use Rattle.rules.specs.State.{Book, view, outbox_of}
use Rattle.rules.specs.Frame.{deposit_in_limits, payment_in_limits, numbers_rise, nonces_from, nonces_rise, in_frame}
use Rattle.rules.proofs.Laying.{length-rows}
use Rattle.tables.proofs.Rest.{passes, rest, rest_all}
use Rattle.frames.specs.Parts.{inbox_frame, outbox_frame, lists_frame, counts_frame}
use Rattle.frames.proofs.Laws.{inside, two_by_two, and-left_comm}

-- ---- the inbox
-- a deposit against the number before it
abbrev pub deposit_test : ℕ → ℕ → Deposit → Bool
deposit_test last before d = deposit_in_limits d && (ltb before d.number.0 && leb d.number.0 last)

abbrev pub deposit_next : ℕ → Deposit → ℕ
deposit_next before d = d.number.0

deposits_pass : (last before : ℕ) (ds : List Deposit) → all deposit_in_limits ds && numbers_rise before last ds ≡ passes (deposit_test last) deposit_next before ds
unfolding all numbers_rise passes
deposits_pass last before [] = refl
deposits_pass last before (d ∷ ds) =
    rw (sym (and_assoc (ltb before d.number.0) (leb d.number.0 last) (numbers_rise d.number.0 last ds)))
    (two_by_two (deposit_in_limits d) (all deposit_in_limits ds) (ltb before d.number.0 && leb d.number.0 last) (numbers_rise d.number.0 last ds)
    ∙ ap (λ (b : Bool). deposit_test last before d && b) (deposits_pass last d.number.0 ds))

module _ (t : List ℕ) (n last : ℕ) where
  -- what is left to test of the inbox after i rows
  abbrev pub InboxFrom : ℕ → ℕ → Type 0
  InboxFrom before i = inbox_frame t n last ≡ passes (deposit_test last) deposit_next before (rest deposit_shape n i t)

  pub inbox-none : length t ≡ inbox_rows * deposit_shape.width → n ≤ inbox_rows → InboxFrom 0 0
  unfolding inbox_frame
  inbox-none e h = inside _ _ _ _ _ e h ∙ rw (rest_all deposit_shape n t) (deposits_pass last 0 (rows_of deposit_shape n t))

-- ---- the outbox
abbrev pub payment_test : ℕ → Payment → Bool
payment_test due p = payment_in_limits p && eqb p.nonce.0 due

abbrev pub payment_next : ℕ → Payment → ℕ
payment_next due p = due + 1

payments_pass : (due : ℕ) (ps : List Payment) → all payment_in_limits ps && nonces_from due ps ≡ passes payment_test payment_next due ps
unfolding all nonces_from passes
payments_pass due [] = refl
payments_pass due (p ∷ ps) =
    two_by_two (payment_in_limits p) (all payment_in_limits ps) (eqb p.nonce.0 due) (nonces_from (due + 1) ps)
    ∙ ap (λ (b : Bool). payment_test due p && b) (payments_pass (due + 1) ps)

module _ (t : List ℕ) (n next : ℕ) where
  abbrev pub OutboxFrom : ℕ → ℕ → Type 0
  OutboxFrom due i = outbox_frame t n next ≡ passes payment_test payment_next due (rest payment_shape n i t)

  pub outbox-before : next < n → length t ≡ outbox_rows * payment_shape.width → n ≤ outbox_rows → false ≡ outbox_frame t n next
  unfolding outbox_frame nonces_rise
  outbox-before h e f = sym (inside _ _ _ _ _ e f ∙ rw (length-rows payment_shape n t, lt-leb _ _ h, and-false))

  pub outbox-none : length t ≡ outbox_rows * payment_shape.width → n ≤ outbox_rows → n ≤ next → OutboxFrom (next - n) 0
  unfolding outbox_frame nonces_rise
  outbox-none e f h =
      inside _ _ _ _ _ e f ∙ rw (length-rows payment_shape n t, le-leb _ _ h, rest_all payment_shape n t) (payments_pass (next - n) (rows_of payment_shape n t))

-- ---- the parts together
regroup : (c1 c2 c3 c4 c5 c6 c7 c8 c9 c10 c11 c12 c13 c14 c15 c16 c17 : Bool)
    → ands (c1 ∷ c2 ∷ c3 ∷ c4 ∷ c5 ∷ c6 ∷ c7 ∷ c8 ∷ c9 ∷ c10 ∷ c11 ∷ c12 ∷ c13 ∷ c14 ∷ c15 ∷ c16 ∷ c17 ∷ [])
    ≡ (c3 && (c6 && (c7 && (c15 && c16)))) && ((c8 && (c9 && (c10 && c17))) && ((c1 && (c4 && (c11 && c13))) && (c2 && (c5 && (c12 && c14)))))
unfolding ands
regroup c1 c2 c3 c4 c5 c6 c7 c8 c9 c10 c11 c12 c13 c14 c15 c16 c17 = simp (and-true, and_assoc, and_comm, and-left_comm)

pub frame_parts : (b : Book)
    → in_frame b
    ≡ counts_frame b.desk.counts (length b.history) && (lists_frame b.desk.balances b.desk.holders b.desk.lifetime b.desk.settled && (inbox_frame b.inbox b.desk.counts.unclaimed b.desk.counts.last.0 && outbox_frame b.outbox b.desk.counts.payments b.desk.counts.next.0))
unfolding in_frame view counts_frame lists_frame inbox_frame outbox_frame
frame_parts b = rw (take-append-drop b.desk.counts.inflight (outbox_of b)) (regroup _ _ _ _ _ _ _ _ _ _ _ _ _ _ _ _ _)
