-- What deposit and claim refuse, as the code's chain; what their calls answer; and what a done one lays back.
use Rattle.std.specs.Prelude.{Result, Ok}
use Prim.Native.Nat.{ℕ, zero, suc, ◌-◌, ◌*◌, ◌≤◌, ◌<◌}
use mathlib.Core.Path.{◌≡◌, refl, sym, ap, ◌∙◌}
use mathlib.Core.Bool.{Bool, true, false, not, and-true}
use mathlib.Core.List.{List, [], ◌∷◌, ◌++◌}
use native.Mathlib.Nat.{add-zero}
use native.Mathlib.Omega.{arith}
use lib.Dec.{leb, eqb}
use lib.ListN.{length, take, drop, length-append, length-drop}
use lib.Seq.{length-take-le}
use borrow.Author.Tests.{le-leb, eq-eqb, ne_eqb, eqb-true, eqb-false}
use Rattle.rules.specs.declared.rows.Deposit.{Deposit}
use Rattle.rules.specs.declared.rows.DepositNumber.{DepositNumber}
use Rattle.rules.specs.declared.calls.Call.{Call}
use Rattle.rules.specs.declared.calls.ClaimFields.{ClaimFields}
use Rattle.rules.specs.declared.answers.Done.{Done}
use Rattle.rules.specs.declared.answers.Refusal.{Refusal}
use Rattle.rules.specs.declared.desk.Desk.{Desk}
use Rattle.rules.specs.Limits.{inbox_rows, history_rows, is_member, is_asset, is_amount}
use Rattle.rules.specs.Lists.{all, any, same, index_of}
use Rattle.rules.specs.Tables.{Edit, rows_of, lay, edited, deposit_shape, record_shape}
use Rattle.rules.specs.State.{State, Book, view, laid, desk_of, inbox_of, history_of}
use Rattle.rules.specs.Replies.{told_refusal, told, plainly, plain, smallest}
use Rattle.rules.specs.Refusals.{table, refusals, full, fulls}
use Rattle.rules.specs.Effects.{total, matches, deposited, effect, balances_after, holders_after, inbox_edit, outside_after, claim_record, records_of}
use Rattle.rules.specs.Frame.{in_frame}
use Rattle.rules.specs.Answer.{done, answer, frame_test, reply_number, done_answer, pieces_of, outcome_of, book_of}
use Rattle.rules.proofs.Laying.{length-rows}
use Rattle.rules.proofs.Shapes.{deposit_sound}
use Rattle.rules.specs.Facts.{Accepted, DepositFit, ClaimFit}
use Rattle.rules.proofs.Accepts.{fit, roomy, accepted-frame}
use Rattle.tables.specs.Rows.{bare, put_at, taken_out, place_of}
use Rattle.tables.proofs.Laid.{row_added, row-taken}
use Rattle.desk.specs.Parts.{of_eight}
use Rattle.desk.proofs.Chains.{Entry, chain, not_below, chain-told}
use Rattle.rules.proofs.Books.{none_found, index_found, Framed, framed, outbox-kept, history-kept, inbox-count, outbox-count, flight_count, history-count}
use Rattle.desk.proofs.Books.{framed_reply, unframed_reply, refuses, accepts, lays, balance-low, balance-set, eight_low, eight_set_lem, record_added}
use Rattle.inbox.specs.After.{deposited_desk, claimed_desk, row_of, is_gap, passes_ceiling, is_unclaimed, CanDeposit, CanClaim}

-- ---- deposit
abbrev pub deposit_entries : List ℕ → DepositNumber → ℕ → Deposit → List Entry
deposit_entries lifetime last unclaimed x =
    (Refusal.BadMember, not (is_member x.member))
    ∷ (Refusal.BadAsset, not (is_asset x.asset))
    ∷ (Refusal.BadAmount, not (is_amount x.amount))
    ∷ (Refusal.Old, leb x.number.0 last.0)
    ∷ (Refusal.Gap, is_gap last.0 x.number.0)
    ∷ (Refusal.Ceiling, passes_ceiling (of_eight lifetime x.asset) x.amount)
    ∷ (Refusal.InboxFull, leb inbox_rows unclaimed)
    ∷ []

pub deposit_told : (x : Deposit) (s : State) (r : Result (Unit {0}) Refusal) → r ≡ chain (deposit_entries s.outside.lifetime s.outside.last (length s.inbox) x)
    → told (plainly r) ≡ plain (smallest (table s (Call.Deposit x)))
unfolding refusals fulls full total told_refusal not_below all
deposit_told x s r e = rw e (chain-told (deposit_entries s.outside.lifetime s.outside.last (length s.inbox) x) refl)

-- of a book in frame the deposit's table tells what the rules answer
pub deposit_met : (b : Book) (x : Deposit) (r : Result (Unit {0}) Refusal) → in_frame b ≡ true
    → ((s : State) → s.outside.lifetime ≡ b.desk.lifetime → s.outside.last ≡ b.desk.counts.last → length s.inbox ≡ b.desk.counts.unclaimed → told (plainly r) ≡ plain (smallest (table s (Call.Deposit x))))
    → told (plainly r) ≡ plain (reply_number b (Call.Deposit x))
unfolding frame_test view
deposit_met b x r f h = framed_reply b (Call.Deposit x) r refl f (h (view b) refl refl (length-rows deposit_shape b.desk.counts.unclaimed b.inbox))

pub deposit_accepted : (b : Book) (x : Deposit) → in_frame b ≡ true
    → ((s : State) → s.outside.lifetime ≡ b.desk.lifetime → s.outside.last ≡ b.desk.counts.last → length s.inbox ≡ b.desk.counts.unclaimed → told (Ok Done.Plain) ≡ plain (smallest (table s (Call.Deposit x))))
    → Accepted b (Call.Deposit x)
deposit_accepted b x f h = accepts b (Call.Deposit x) (deposit_met b x (Ok tt) f h)

pub can_deposit : (b : Book) (x : Deposit) → Accepted b (Call.Deposit x) → CanDeposit b.desk x
unfolding view
can_deposit b x a =
    let f : Framed b = framed b (accepted-frame b (Call.Deposit x) a) in
    let q : DepositFit (view b) x = fit b (Call.Deposit x) a in
    let l : length (inbox_of b) ≡ b.desk.counts.unclaimed = length-rows deposit_shape b.desk.counts.unclaimed b.inbox in
    record { asset = q.asset; amount = q.amount.high; lifetime = f.lifetime; unclaimed = omega (arith, (roomy b (Call.Deposit x) a).room) }

-- one deposit more at the end of the inbox
deposit_added : (b : Book) (x : Deposit) → Framed b → b.desk.counts.unclaimed < inbox_rows
    → lay deposit_shape (inbox_of b ++ (x ∷ [])) b.desk.counts.unclaimed b.inbox ≡ put_at (b.desk.counts.unclaimed * deposit_shape.width) (deposit_shape.flat x) b.inbox
deposit_added b x f h = row_added deposit_shape deposit_sound b.desk.counts.unclaimed b.inbox x (omega arith)

deposit_laid : (b : Book) (x : Deposit) → Framed b → b.desk.counts.unclaimed < inbox_rows
    → book_of (deposited_desk b.desk x) (put_at (b.desk.counts.unclaimed * deposit_shape.width) (deposit_shape.flat x) b.inbox) b.outbox b.history
    ≡ done (Call.Deposit x) b
unfolding laid desk_of effect balances_after holders_after inbox_edit edited outside_after deposited records_of deposited_desk view
deposit_laid b x f h =
    rw (deposit_added b x f h, outbox-kept b f, history-kept b f, length-append (inbox_of b) (x ∷ []), inbox-count b f, outbox-count b f, flight_count b f, history-count b f [], add-zero)

-- what deposit_done leaves
pub deposit_lays : (b : Book) (x : Deposit) → Accepted b (Call.Deposit x) → (desk : Desk) (inbox : List ℕ) → desk ≡ deposited_desk b.desk x
    → inbox ≡ put_at (b.desk.counts.unclaimed * deposit_shape.width) (deposit_shape.flat x) b.inbox
    → outcome_of (Ok Done.Plain) (book_of desk inbox b.outbox b.history) ≡ answer b (Call.Deposit x)
unfolding told done_answer pieces_of
deposit_lays b x y desk inbox p q =
    lays b (Call.Deposit x) y (Ok Done.Plain) (book_of desk inbox b.outbox b.history) refl refl
    (rw (p, q) (deposit_laid b x (framed b (accepted-frame b (Call.Deposit x) y)) (can_deposit b x y).unclaimed))

-- ---- the place of the deposit that a claim names
eqb_comm : (a b : ℕ) → eqb a b ≡ eqb b a
eqb_comm a b = go (eqb a b) refl
  where
    go : (t : Bool) → eqb a b ≡ t → t ≡ eqb b a
    go true e = sym (eq-eqb b a (sym (eqb-true a b e)))
    go false e = sym (ne_eqb b a (λ q. eqb-false a b e (sym q)))

same_comm : (xs ys : List ℕ) → same xs ys ≡ same ys xs
unfolding same
same_comm [] [] = refl
same_comm [] (y ∷ ys) = refl
same_comm (x ∷ xs) [] = refl
same_comm (x ∷ xs) (y ∷ ys) = rw (eqb_comm x y, same_comm xs ys)

-- a deposit's numbers are the claim's row where it matches
flat-matches : (c : ClaimFields) (d : Deposit) → same (deposit_shape.flat d) (row_of c) ≡ matches c d
unfolding same matches
flat-matches c d = rw and-true

row-matches : (c : ClaimFields) (r : List ℕ) → length r ≡ deposit_shape.width → same (row_of c) r ≡ matches c (deposit_shape.row r)
row-matches c r e = same_comm (row_of c) r ∙ ap (λ (x : List ℕ). same x (row_of c)) (sym (deposit_sound.forth r e)) ∙ flat-matches c (deposit_shape.row r)

place_rows : (c : ClaimFields) (n : ℕ) (t : List ℕ) → n * deposit_shape.width ≤ length t
    → index_of (same (row_of c)) (rows_of (bare deposit_shape.width) n t) ≡ index_of (matches c) (rows_of deposit_shape n t)
unfolding rows_of index_of
place_rows c zero t h = refl
place_rows c (suc n) t h =
    let w : ℕ = deposit_shape.width in
    let l : length (take w t) ≡ w = length-take-le w t (omega arith) in
    rw (row-matches c (take w t) l, place_rows c n (drop w t) (rw length-drop (omega arith)))

place_is : (b : Book) (c : ClaimFields) → Framed b → place_of (row_of c) b.desk.counts.unclaimed b.inbox ≡ index_of (matches c) (inbox_of b)
unfolding place_of
place_is b c f = rw (le-leb (b.desk.counts.unclaimed * deposit_shape.width) (length b.inbox) (omega arith)) (place_rows c b.desk.counts.unclaimed b.inbox (omega arith))

-- ---- claim
abbrev pub claim_entries : Bool → ℕ → ClaimFields → List Entry
claim_entries waits records c =
    (Refusal.BadMember, not (is_member c.member))
    ∷ (Refusal.BadAsset, not (is_asset c.asset))
    ∷ (Refusal.BadAmount, not (is_amount c.amount))
    ∷ (Refusal.NoSuchDeposit, not waits)
    ∷ (Refusal.HistoryFull, leb history_rows records)
    ∷ []

pub claim_told : (c : ClaimFields) (s : State) (r : Result (Unit {0}) Refusal) → r ≡ chain (claim_entries (any (matches c) s.inbox) (length s.history) c)
    → told (plainly r) ≡ plain (smallest (table s (Call.Claim c)))
unfolding refusals fulls full told_refusal not_below all
claim_told c s r e = rw e (chain-told (claim_entries (any (matches c) s.inbox) (length s.history) c) refl)

-- in frame, a deposit is found in the table where one of the state matches
pub waits_is : (b : Book) (c : ClaimFields) → Framed b → any (matches c) (view b).inbox ≡ is_unclaimed c b.desk.counts.unclaimed b.inbox
unfolding view
waits_is b c f =
    let e : eqb (place_of (row_of c) b.desk.counts.unclaimed b.inbox) b.desk.counts.unclaimed ≡ not (any (matches c) (inbox_of b)) =
    rw (place_is b c f, none_found (matches c) (inbox_of b), length-rows deposit_shape b.desk.counts.unclaimed b.inbox) in
    twice (any (matches c) (inbox_of b)) ∙ ap not (sym e)
  where
    twice : (t : Bool) → t ≡ not (not t)
    twice true = refl
    twice false = refl

-- of a book in frame the claim's table tells what the rules answer
pub claim_met : (b : Book) (c : ClaimFields) (r : Result (Unit {0}) Refusal) → in_frame b ≡ true
    → ((s : State) → any (matches c) s.inbox ≡ is_unclaimed c b.desk.counts.unclaimed b.inbox → length s.history ≡ b.desk.counts.records → told (plainly r) ≡ plain (smallest (table s (Call.Claim c))))
    → told (plainly r) ≡ plain (reply_number b (Call.Claim c))
unfolding frame_test
claim_met b c r f h = framed_reply b (Call.Claim c) r refl f (h (view b) (waits_is b c (framed b f)) (unfold view in length-rows record_shape b.desk.counts.records b.history))

pub claim_accepted : (b : Book) (c : ClaimFields) → in_frame b ≡ true
    → ((s : State) → any (matches c) s.inbox ≡ is_unclaimed c b.desk.counts.unclaimed b.inbox → length s.history ≡ b.desk.counts.records → told (Ok Done.Plain) ≡ plain (smallest (table s (Call.Claim c))))
    → Accepted b (Call.Claim c)
claim_accepted b c f h = accepts b (Call.Claim c) (claim_met b c (Ok tt) f h)

-- the place of a claimed deposit is one of the used rows
claim_place : (b : Book) (c : ClaimFields) → Accepted b (Call.Claim c) → index_of (matches c) (inbox_of b) < b.desk.counts.unclaimed
unfolding view
claim_place b c a =
    let q : ClaimFit (view b) c = fit b (Call.Claim c) a in
    let l : length (inbox_of b) ≡ b.desk.counts.unclaimed = length-rows deposit_shape b.desk.counts.unclaimed b.inbox in
    omega (arith, index_found (matches c) (inbox_of b) q.found)

pub can_claim : (b : Book) (c : ClaimFields) → Accepted b (Call.Claim c) → CanClaim b.desk c
unfolding view
can_claim b c a =
    let f : Framed b = framed b (accepted-frame b (Call.Claim c) a) in
    let q : ClaimFit (view b) c = fit b (Call.Claim c) a in
    let l : length (history_of b) ≡ b.desk.counts.records = length-rows record_shape b.desk.counts.records b.history in
    record {
      member = q.member;
      asset = q.asset;
      amount = q.amount.high;
      balances = f.balances;
      unclaimed = omega (arith, claim_place b c a);
      records = omega (arith, (roomy b (Call.Claim c) a).room);
    }

-- the claimed row leaves: "the rest keeping their order", and the last used row becomes zeros
claim-taken : (b : Book) (i : ℕ) → Framed b → i < b.desk.counts.unclaimed
    → lay deposit_shape (edited (Edit.take_out i) (inbox_of b)) b.desk.counts.unclaimed b.inbox ≡ taken_out deposit_shape.width i b.desk.counts.unclaimed b.inbox
claim-taken b i f h = row-taken deposit_shape deposit_sound b.desk.counts.unclaimed b.inbox i h (omega arith)

claim-count : (b : Book) (i : ℕ) → i < b.desk.counts.unclaimed → length (edited (Edit.take_out i) (inbox_of b)) ≡ b.desk.counts.unclaimed - 1
unfolding edited
claim-count b i h =
    let l : length (inbox_of b) ≡ b.desk.counts.unclaimed = length-rows deposit_shape b.desk.counts.unclaimed b.inbox in
    length-append (take i (inbox_of b)) (drop (suc i) (inbox_of b))
    ∙ rw (length-take-le i (inbox_of b) (omega arith), length-drop (suc i) (inbox_of b), l) (omega arith)

claim_laid : (b : Book) (c : ClaimFields) → Framed b → index_of (matches c) (inbox_of b) < b.desk.counts.unclaimed → b.desk.counts.records < history_rows
    → book_of (claimed_desk b.desk c) (taken_out deposit_shape.width (index_of (matches c) (inbox_of b)) b.desk.counts.unclaimed b.inbox) b.outbox
    (put_at (b.desk.counts.records * record_shape.width) (record_shape.flat (claim_record c)) b.history)
    ≡ done (Call.Claim c) b
unfolding laid desk_of effect balances_after holders_after inbox_edit outside_after records_of claimed_desk view
claim_laid b c f h k =
    rw (
      claim-taken b (index_of (matches c) (inbox_of b)) f h,
      outbox-kept b f,
      record_added b f (claim_record c) k,
      claim-count b (index_of (matches c) (inbox_of b)) h,
      outbox-count b f,
      flight_count b f,
      history-count b f (claim_record c ∷ []),
    )

-- what claim_done leaves
pub claim_lays : (b : Book) (c : ClaimFields) → Accepted b (Call.Claim c) → (desk : Desk) (inbox history : List ℕ) → desk ≡ claimed_desk b.desk c
    → inbox ≡ taken_out deposit_shape.width (place_of (row_of c) b.desk.counts.unclaimed b.inbox) b.desk.counts.unclaimed b.inbox
    → history ≡ put_at (b.desk.counts.records * record_shape.width) (record_shape.flat (claim_record c)) b.history
    → outcome_of (Ok Done.Plain) (book_of desk inbox b.outbox history) ≡ answer b (Call.Claim c)
unfolding told done_answer pieces_of
claim_lays b c y desk inbox history p q r =
    let f : Framed b = framed b (accepted-frame b (Call.Claim c) y) in
    lays b (Call.Claim c) y (Ok Done.Plain) (book_of desk inbox b.outbox history) refl refl
    (rw (p, q, r, place_is b c f) (claim_laid b c f (claim_place b c y) (can_claim b c y).records))

-- ---- what each function's proof looks in
pub ruleset deposit_call = (refuses, unframed_reply, deposit_met, deposit_accepted)

pub ruleset deposit_done = (can_deposit, deposit_lays)

pub ruleset claim_call = (refuses, unframed_reply, claim_met, claim_accepted)

pub ruleset claim_done = (can_claim, claim_lays)

pub ruleset lifetimes = (eight_low, eight_set_lem)

pub ruleset balances = (balance-low, balance-set)
