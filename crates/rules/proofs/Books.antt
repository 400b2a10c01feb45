-- A book in frame: what it gives of its tables; and what an accepted call leaves of them, one edit each.
use Prim.Native.Nat.{ℕ, zero, suc, ◌+◌, ◌*◌, ◌≤◌, ◌<◌, zero-le, suc-le-suc}
use mathlib.Core.Path.{◌≡◌, refl, sym, ap, ◌∙◌}
use mathlib.Core.Bool.{Bool, true, false, not, ◌||◌, cond, false≢true}
use mathlib.Core.List.{List, [], ◌∷◌, ◌++◌, append_assoc, append-nil}
use native.Mathlib.Nat.{add-zero}
use native.Mathlib.Omega.{arith}
use lib.Dec.{eqb, eqb-zero-suc, eqb-suc-suc}
use lib.ListN.{length, take, drop, take-append-drop, length-append}
use lib.Seq.{length-take-le, drop-append-le}
use borrow.Author.Tests.{leb-true, eqb-true, eqb-false}
use Rattle.rules.specs.Types.{Payment, Record, Call}
use Rattle.rules.specs.Limits.{inbox_rows, outbox_rows, history_rows, highest_number, highest_next}
use Rattle.rules.specs.Lists.{all, any, index_of}
use Rattle.rules.specs.Tables.{Edit, lay, edited, appended, edited_table, deposit_shape, payment_shape, record_shape}
use Rattle.rules.specs.State.{State, Book, inbox_of, outbox_of, history_of, payments, view, laid, desk_of}
use Rattle.rules.specs.Effects.{effect, balances_after, holders_after, matches, inbox_edit, withdrawn, sent, settled_one, deposited, outside_after, outbox_edit, records_of, changes_nothing, edits}
use Rattle.rules.specs.Replies.{if_done}
use Rattle.rules.specs.Answer.{done, reply_number, answer}
use Rattle.rules.specs.Frame.{up_to_ceiling, in_frame}
use Rattle.rules.specs.Facts.{Accepted, Fit, Room}
use Rattle.rules.proofs.Laying.{RoomFor, length-rows, lay-edited}
use Rattle.rules.proofs.Shapes.{deposit_sound, payment_sound, record_sound}
use Rattle.rules.proofs.Tests.{ands-at}
use Rattle.rules.proofs.Accepts.{by_number, fit, roomy, accepted-frame}

-- ---- a book in frame
pub record Framed (b : Book) : Type 0 where
  pub inbox_size : length b.inbox ≡ inbox_rows * deposit_shape.width
  pub outbox_size : length b.outbox ≡ outbox_rows * payment_shape.width
  pub history_size : length b.history ≡ history_rows * record_shape.width
  pub unclaimed : b.desk.counts.unclaimed ≤ inbox_rows
  pub payments : b.desk.counts.payments ≤ outbox_rows
  pub records : b.desk.counts.records ≤ history_rows
  pub inflight : b.desk.counts.inflight ≤ b.desk.counts.payments
  pub balances : all up_to_ceiling b.desk.balances ≡ true
  pub lifetime : all up_to_ceiling b.desk.lifetime ≡ true
  pub settled : all up_to_ceiling b.desk.settled ≡ true
  pub last : b.desk.counts.last.0 ≤ highest_number
  pub next : b.desk.counts.next.0 ≤ highest_next

pub framed : (b : Book) → in_frame b ≡ true → Framed b
unfolding in_frame view
framed b h =
    record {
      inbox_size = eqb-true _ _ (ands-at _ 0 h);
      outbox_size = eqb-true _ _ (ands-at _ 1 h);
      history_size = eqb-true _ _ (ands-at _ 2 h);
      unclaimed = leb-true _ _ (ands-at _ 3 h);
      payments = leb-true _ _ (ands-at _ 4 h);
      records = leb-true _ _ (ands-at _ 5 h);
      inflight = leb-true _ _ (ands-at _ 6 h);
      balances = ands-at _ 7 h;
      lifetime = ands-at _ 8 h;
      settled = ands-at _ 9 h;
      last = leb-true _ _ (ands-at _ 14 h);
      next = leb-true _ _ (ands-at _ 15 h);
    }

-- ---- what is laid back into a table: as it was, or with one row more
module _ (b : Book) (f : Framed b) where
  pub inbox-kept : lay deposit_shape (inbox_of b) b.desk.counts.unclaimed b.inbox ≡ b.inbox
  unfolding edited edited_table RoomFor
  inbox-kept = lay-edited deposit_shape deposit_sound Edit.keep b.desk.counts.unclaimed b.inbox (omega arith)

  -- the payments of the view are the rows of the outbox
  pub payments_are : payments (view b).outside ≡ outbox_of b
  unfolding view
  payments_are = take-append-drop b.desk.counts.inflight (outbox_of b)

  pub outbox-kept : lay payment_shape (payments (view b).outside) b.desk.counts.payments b.outbox ≡ b.outbox
  unfolding edited edited_table RoomFor
  outbox-kept = rw payments_are (lay-edited payment_shape payment_sound Edit.keep b.desk.counts.payments b.outbox (omega arith))

  pub history-kept : lay record_shape (history_of b ++ []) b.desk.counts.records b.history ≡ b.history
  unfolding edited edited_table RoomFor
  history-kept = rw (append-nil (history_of b)) (lay-edited record_shape record_sound Edit.keep b.desk.counts.records b.history (omega arith))

  -- ---- counts
  pub inbox-count : length (inbox_of b) ≡ b.desk.counts.unclaimed
  inbox-count = length-rows deposit_shape b.desk.counts.unclaimed b.inbox

  pub outbox-count : length (payments (view b).outside) ≡ b.desk.counts.payments
  outbox-count = rw payments_are (length-rows payment_shape b.desk.counts.payments b.outbox)

  pub flight_count : length (view b).outside.inflight ≡ b.desk.counts.inflight
  unfolding view
  flight_count = length-take-le b.desk.counts.inflight (outbox_of b) (rw (length-rows payment_shape b.desk.counts.payments b.outbox) f.inflight)

  pub history-count : (rs : List Record) → length (history_of b ++ rs) ≡ b.desk.counts.records + length rs
  history-count rs = length-append (history_of b) rs ∙ ap (λ (n : ℕ). n + length rs) (length-rows record_shape b.desk.counts.records b.history)

-- ---- the place of the first that passes a test
-- none passes where it is past the last
pub none_found : {A : Type 0} (p : A → Bool) (l : List A) → not (any p l) ≡ eqb (index_of p l) (length l)
unfolding any index_of
none_found p [] = refl
none_found p (x ∷ l) = go (p x) (none_found p l)
  where
    go : (t : Bool) → not (any p l) ≡ eqb (index_of p l) (length l) → not (t || any p l) ≡ eqb (cond t 0 (suc (index_of p l))) (suc (length l))
    go true ih = sym (eqb-zero-suc (length l))
    go false ih = ih ∙ sym (eqb-suc-suc (index_of p l) (length l))

-- it is one of the places, or past them
index_le : {A : Type 0} (p : A → Bool) (l : List A) → index_of p l ≤ length l
unfolding index_of
index_le p [] = zero-le
index_le p (x ∷ l) = go (p x) (index_le p l)
  where
    go : (t : Bool) → index_of p l ≤ length l → cond t 0 (suc (index_of p l)) ≤ suc (length l)
    go true h = zero-le
    go false h = suc-le-suc h

-- where one passes, it is one of them
pub index_found : {A : Type 0} (p : A → Bool) (l : List A) → any p l ≡ true → index_of p l < length l
index_found p l h =
    let e : eqb (index_of p l) (length l) ≡ false = sym (none_found p l) ∙ ap not h in
    let n : index_of p l ≡ length l → ⊥ = eqb-false (index_of p l) (length l) e in
    omega (arith, index_le p l)

-- ---- what an accepted call does to the rows
-- the payments after it, as its edit says
pub payments-after : (s : State) (c : Call) → Fit s c → payments (outside_after c s.outside) ≡ edited (outbox_edit c s.outside) (payments s.outside)
unfolding outside_after deposited withdrawn sent settled_one outbox_edit edited
payments-after s (Call.Deposit d) k = refl
payments-after s (Call.Claim c) k = refl
payments-after s (Call.Transfer t) k = refl
payments-after s (Call.Withdraw w) k = sym (append_assoc s.outside.inflight s.outside.waiting _)
payments-after s Call.Send k =
    append_assoc s.outside.inflight (take 1 s.outside.waiting) (drop 1 s.outside.waiting)
    ∙ ap (λ (ws : List Payment). s.outside.inflight ++ ws) (take-append-drop 1 s.outside.waiting)
payments-after s (Call.Settle n) k = sym (drop-append-le 1 s.outside.inflight s.outside.waiting k.some)
payments-after s (Call.Grant g) k = refl
payments-after s (Call.Sign g) k = refl
payments-after s (Call.Trace n) k = refl

-- the records after it
pub records-after : (s : State) (c : Call) → s.history ++ records_of c ≡ edited (appended (records_of c)) s.history
unfolding records_of appended edited
records-after s (Call.Deposit d) = append-nil s.history
records-after s (Call.Claim c) = refl
records-after s (Call.Transfer t) = refl
records-after s (Call.Withdraw w) = refl
records-after s Call.Send = append-nil s.history
records-after s (Call.Settle n) = append-nil s.history
records-after s (Call.Grant g) = refl
records-after s (Call.Sign g) = append-nil s.history
records-after s (Call.Trace n) = append-nil s.history

-- ---- each table has room for the edit
module _ (b : Book) (f : Framed b) where
  inbox-room : (c : Call) → Fit (view b) c → Room (view b) c → RoomFor deposit_shape (inbox_edit c (inbox_of b)) b.desk.counts.unclaimed b.inbox
  unfolding RoomFor inbox_edit view
  inbox-room (Call.Deposit d) k r = let l = inbox-count b f in omega (arith, r.room)
  inbox-room (Call.Claim c) k r = let l = inbox-count b f in (omega (arith, index_found (matches c) (inbox_of b) k.found), omega arith)
  inbox-room (Call.Transfer t) k r = omega arith
  inbox-room (Call.Withdraw w) k r = omega arith
  inbox-room Call.Send k r = omega arith
  inbox-room (Call.Settle n) k r = omega arith
  inbox-room (Call.Grant g) k r = omega arith
  inbox-room (Call.Sign g) k r = omega arith
  inbox-room (Call.Trace n) k r = omega arith

  outbox-room : (c : Call) → Fit (view b) c → Room (view b) c → RoomFor payment_shape (outbox_edit c (view b).outside) b.desk.counts.payments b.outbox
  unfolding RoomFor outbox_edit
  outbox-room (Call.Deposit d) k r = omega arith
  outbox-room (Call.Claim c) k r = omega arith
  outbox-room (Call.Transfer t) k r = omega arith
  outbox-room (Call.Withdraw w) k r = let l = outbox-count b f in omega (arith, r.0.room)
  outbox-room Call.Send k r = omega arith
  outbox-room (Call.Settle n) k r = let l = flight_count b f in (omega (arith, k.some), omega arith)
  outbox-room (Call.Grant g) k r = omega arith
  outbox-room (Call.Sign g) k r = omega arith
  outbox-room (Call.Trace n) k r = omega arith

  history-room : (c : Call) → Room (view b) c → RoomFor record_shape (appended (records_of c)) b.desk.counts.records b.history
  unfolding RoomFor appended records_of view
  history-room (Call.Deposit d) r = omega arith
  history-room (Call.Claim c) r = let l = length-rows record_shape b.desk.counts.records b.history in omega (arith, r.room)
  history-room (Call.Transfer t) r = let l = length-rows record_shape b.desk.counts.records b.history in omega (arith, r.room)
  history-room (Call.Withdraw w) r = let l = length-rows record_shape b.desk.counts.records b.history in omega (arith, r.1.room)
  history-room Call.Send r = omega arith
  history-room (Call.Settle n) r = omega arith
  history-room (Call.Grant g) r = let l = length-rows record_shape b.desk.counts.records b.history in omega (arith, r.room)
  history-room (Call.Sign g) r = omega arith
  history-room (Call.Trace n) r = omega arith

-- so of each flat table an accepted call leaves its one edit, every other number as it was
module _ (b : Book) (c : Call) (a : Accepted b c) where
  in_frame_lem : Framed b
  in_frame_lem = framed b (accepted-frame b c a)

  pub inbox-left : (done c b).inbox ≡ edited_table deposit_shape (edits c (view b)).inbox b.desk.counts.unclaimed b.inbox
  unfolding laid effect edits view
  inbox-left = lay-edited deposit_shape deposit_sound (inbox_edit c (inbox_of b)) b.desk.counts.unclaimed b.inbox (inbox-room b in_frame_lem c (fit b c a) (roomy b c a))

  pub outbox-left : (done c b).outbox ≡ edited_table payment_shape (edits c (view b)).outbox b.desk.counts.payments b.outbox
  unfolding laid effect edits
  outbox-left =
      rw (payments-after (view b) c (fit b c a), payments_are b in_frame_lem)
      (lay-edited payment_shape payment_sound (outbox_edit c (view b).outside) b.desk.counts.payments b.outbox (outbox-room b in_frame_lem c (fit b c a) (roomy b c a)))

  pub history-left : (done c b).history ≡ edited_table record_shape (edits c (view b)).history b.desk.counts.records b.history
  unfolding laid effect edits view
  history-left =
      rw (records-after (view b) c)
      (lay-edited record_shape record_sound (appended (records_of c)) b.desk.counts.records b.history (history-room b in_frame_lem c (roomy b c a)))

-- ---- a call that changes nothing
-- what a done one lays is what was there
pub nothing-laid : (b : Book) (c : Call) → changes_nothing c ≡ true → Framed b → done c b ≡ b
unfolding changes_nothing laid desk_of effect balances_after holders_after inbox_edit edited outside_after records_of view
nothing-laid b (Call.Deposit d) h f = absurd (false≢true h)
nothing-laid b (Call.Claim c) h f = absurd (false≢true h)
nothing-laid b (Call.Transfer t) h f = absurd (false≢true h)
nothing-laid b (Call.Withdraw w) h f = absurd (false≢true h)
nothing-laid b Call.Send h f = absurd (false≢true h)
nothing-laid b (Call.Settle n) h f = absurd (false≢true h)
nothing-laid b (Call.Grant g) h f = absurd (false≢true h)
nothing-laid b (Call.Sign g) h f =
    rw (inbox-kept b f, outbox-kept b f, history-kept b f, inbox-count b f, outbox-count b f, flight_count b f, history-count b f [], add-zero)
nothing-laid b (Call.Trace n) h f =
    rw (inbox-kept b f, outbox-kept b f, history-kept b f, inbox-count b f, outbox-count b f, flight_count b f, history-count b f [], add-zero)

-- the book is as it was, accepted or refused
pub nothing_changed : (b : Book) (c : Call) → changes_nothing c ≡ true → (answer b c).book ≡ b
unfolding answer
nothing_changed b c h = go (reply_number b c) refl
  where
    go : (k : ℕ) → reply_number b c ≡ k → if_done k (done c b) b ≡ b
    go zero e = nothing-laid b c h (framed b (accepted-frame b c (by_number b c e)))
    go (suc k) e = refl
