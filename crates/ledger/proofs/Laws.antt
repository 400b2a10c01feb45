-- What transfer, grant and sign refuse, as the code's chain; what the calls answer; and what a done one lays back.
use Rattle.std.specs.Prelude.{Result, Ok, Err}
use Prim.Native.Nat.{ℕ, ◌+◌, ◌-◌, ◌*◌, ◌≤◌, ◌<◌}
use mathlib.Core.Path.{◌≡◌, refl, sym, ap, ◌∙◌}
use mathlib.Core.Bool.{true, not, ◌||◌}
use mathlib.Core.List.{List, [], ◌∷◌}
use native.Mathlib.Omega.{arith}
use lib.Dec.{leb, ltb, eqb}
use lib.ListN.{length}
use borrow.Author.Tests.{le-leb}
use Rattle.rules.specs.declared.desk.Desk.{Desk}
use Rattle.rules.specs.declared.calls.Call.{Call}
use Rattle.rules.specs.declared.calls.TransferFields.{TransferFields}
use Rattle.rules.specs.declared.calls.GrantFields.{GrantFields}
use Rattle.rules.specs.declared.calls.SignFields.{SignFields}
use Rattle.rules.specs.declared.answers.Done.{Done}
use Rattle.rules.specs.declared.answers.Refusal.{Refusal}
use Rattle.rules.specs.Limits.{ceiling, history_rows, is_member, is_asset, is_domain, is_amount}
use Rattle.rules.specs.Lists.{all}
use Rattle.rules.specs.Tables.{edited, record_shape}
use Rattle.rules.specs.State.{State, Book, view, laid, desk_of, history_of}
use Rattle.rules.specs.Types.{Answer}
use Rattle.rules.specs.Replies.{Reply, told_refusal, told, plainly, plain, smallest}
use Rattle.rules.specs.Refusals.{table, refusals, full, fulls}
use Rattle.rules.specs.Effects.{changes_nothing, balance, debit, holder, effect, balances_after, holders_after, inbox_edit, outside_after, transfer_record, grant_record, records_of}
use Rattle.rules.specs.Frame.{up_to_ceiling, in_frame}
use Rattle.rules.specs.Answer.{frame_test, done, reply_number, answer, book_of, outcome_of, done_answer, pieces_of}
use Rattle.rules.proofs.Laying.{length-rows}
use Rattle.rules.specs.Facts.{Accepted, TransferFit, GrantFit}
use Rattle.rules.proofs.Tests.{all_set}
use Rattle.rules.proofs.Accepts.{fit, roomy, accepted-frame, accepted-number, by_number}
use Rattle.tables.specs.Rows.{put_at}
use Rattle.desk.specs.Parts.{of_eight}
use Rattle.desk.specs.Kept.{balance_set}
use Rattle.desk.proofs.Chains.{Entry, chain, not_below, chain-told}
use Rattle.rules.proofs.Books.{nothing-laid, Framed, framed, inbox-kept, outbox-kept, inbox-count, outbox-count, flight_count, history-count}
use Rattle.desk.proofs.Books.{framed_reply, unframed_reply, refuses, accepts, lays, balance-low, balance-set, eight_set_lem, record_added}
use Rattle.ledger.specs.After.{transferred_desk, granted_desk, CanTransfer, CanGrant}

-- ---- the tables of refusals
abbrev pub transfer_entries : List ℕ → ℕ → TransferFields → List Entry
transfer_entries balances records t =
    (Refusal.BadMember, not (is_member t.from) || not (is_member t.to))
    ∷ (Refusal.BadAsset, not (is_asset t.asset))
    ∷ (Refusal.BadAmount, not (is_amount t.amount))
    ∷ (Refusal.SameMember, eqb t.from t.to)
    ∷ (Refusal.Short, ltb (balance balances t.from t.asset) t.amount)
    ∷ (Refusal.HistoryFull, leb history_rows records)
    ∷ []

pub transfer_told : (t : TransferFields) (s : State) (r : Result (Unit {0}) Refusal) → r ≡ chain (transfer_entries s.balances (length s.history) t)
    → told (plainly r) ≡ plain (smallest (table s (Call.Transfer t)))
unfolding refusals fulls full told_refusal not_below all
transfer_told t s r e = rw e (chain-told (transfer_entries s.balances (length s.history) t) refl)

-- of a book in frame the table tells what the rules answer
pub transfer_met : (b : Book) (t : TransferFields) (r : Result (Unit {0}) Refusal) → in_frame b ≡ true
    → ((s : State) → s.balances ≡ b.desk.balances → length s.history ≡ b.desk.counts.records → told (plainly r) ≡ plain (smallest (table s (Call.Transfer t))))
    → told (plainly r) ≡ plain (reply_number b (Call.Transfer t))
unfolding frame_test view
transfer_met b t r f h = framed_reply b (Call.Transfer t) r refl f (h (view b) refl (length-rows record_shape b.desk.counts.records b.history))

pub transfer_accepted : (b : Book) (t : TransferFields) → in_frame b ≡ true
    → ((s : State) → s.balances ≡ b.desk.balances → length s.history ≡ b.desk.counts.records → told (Ok Done.Plain) ≡ plain (smallest (table s (Call.Transfer t))))
    → Accepted b (Call.Transfer t)
transfer_accepted b t f h = accepts b (Call.Transfer t) (transfer_met b t (Ok tt) f h)

-- ---- what makes it safe, and what is laid
pub can_transfer : (b : Book) (t : TransferFields) → Accepted b (Call.Transfer t) → CanTransfer b.desk t
unfolding view
can_transfer b t a =
    let f : Framed b = framed b (accepted-frame b (Call.Transfer t) a) in
    let q : TransferFit (view b) t = fit b (Call.Transfer t) a in
    let l : length (history_of b) ≡ b.desk.counts.records = length-rows record_shape b.desk.counts.records b.history in
    record {
      from = q.from;
      to = q.to;
      asset = q.asset;
      amount = q.amount.high;
      enough = q.enough;
      balances = f.balances;
      records = omega (arith, (roomy b (Call.Transfer t) a).room);
    }

transfer_laid : (b : Book) (t : TransferFields) → Framed b → b.desk.counts.records < history_rows
    → book_of (transferred_desk b.desk t) b.inbox b.outbox (put_at (b.desk.counts.records * record_shape.width) (record_shape.flat (transfer_record t)) b.history)
    ≡ done (Call.Transfer t) b
unfolding laid desk_of effect balances_after holders_after inbox_edit edited outside_after records_of transferred_desk view
transfer_laid b t f h =
    rw (
      inbox-kept b f,
      outbox-kept b f,
      record_added b f (transfer_record t) h,
      inbox-count b f,
      outbox-count b f,
      flight_count b f,
      history-count b f (transfer_record t ∷ []),
    )

-- what transfer_done leaves
pub transfer_lays : (b : Book) (t : TransferFields) → Accepted b (Call.Transfer t) → (desk : Desk) (history : List ℕ) → desk ≡ transferred_desk b.desk t
    → history ≡ put_at (b.desk.counts.records * record_shape.width) (record_shape.flat (transfer_record t)) b.history
    → outcome_of (Ok Done.Plain) (book_of desk b.inbox b.outbox history) ≡ answer b (Call.Transfer t)
unfolding told done_answer pieces_of
transfer_lays b t y desk history p q =
    lays b (Call.Transfer t) y (Ok Done.Plain) (book_of desk b.inbox b.outbox history) refl refl
    (rw (p, q) (transfer_laid b t (framed b (accepted-frame b (Call.Transfer t) y)) (can_transfer b t y).records))

-- ---- the steps of a transfer
-- the balances once the sender's is lower
pub sent : (d : Desk) (t : TransferFields) → CanTransfer d t → balance_set d.balances t.from t.asset (balance d.balances t.from t.asset - t.amount) ≡ debit d.balances t.from t.asset t.amount
unfolding debit
sent d t p = rw (balance-set d.balances t.from t.asset _ p.from p.asset)

-- none of them is above the ceiling
pub sent_low : (d : Desk) (t : TransferFields) → CanTransfer d t → all up_to_ceiling (debit d.balances t.from t.asset t.amount) ≡ true
unfolding debit
sent_low d t c =
    let low : balance d.balances t.from t.asset ≤ ceiling = balance-low d.balances t.from t.asset c.balances in
    all_set up_to_ceiling d.balances ((t.from - 1) * 8 + (t.asset - 1)) (balance d.balances t.from t.asset - t.amount) c.balances
    (le-leb (balance d.balances t.from t.asset - t.amount) ceiling (omega arith))

-- so the receiver's is not
pub receiver_low : (d : Desk) (t : TransferFields) → CanTransfer d t → balance (debit d.balances t.from t.asset t.amount) t.to t.asset ≤ ceiling
receiver_low d t c = balance-low (debit d.balances t.from t.asset t.amount) t.to t.asset (sent_low d t c)

-- ---- grant
abbrev pub grant_entries : List ℕ → ℕ → GrantFields → List Entry
grant_entries holders records g =
    (Refusal.BadMember, not (is_member g.from) || not (is_member g.to))
    ∷ (Refusal.BadDomain, not (is_domain g.domain))
    ∷ (Refusal.SameMember, eqb g.from g.to)
    ∷ (Refusal.NotHolder, not (eqb (of_eight holders g.domain) g.from))
    ∷ (Refusal.HistoryFull, leb history_rows records)
    ∷ []

pub grant_told : (g : GrantFields) (s : State) (r : Result (Unit {0}) Refusal) → r ≡ chain (grant_entries s.holders (length s.history) g)
    → told (plainly r) ≡ plain (smallest (table s (Call.Grant g)))
unfolding refusals fulls full holder told_refusal not_below all
grant_told g s r e = rw e (chain-told (grant_entries s.holders (length s.history) g) refl)

pub grant_met : (b : Book) (g : GrantFields) (r : Result (Unit {0}) Refusal) → in_frame b ≡ true
    → ((s : State) → s.holders ≡ b.desk.holders → length s.history ≡ b.desk.counts.records → told (plainly r) ≡ plain (smallest (table s (Call.Grant g))))
    → told (plainly r) ≡ plain (reply_number b (Call.Grant g))
unfolding frame_test view
grant_met b g r f h = framed_reply b (Call.Grant g) r refl f (h (view b) refl (length-rows record_shape b.desk.counts.records b.history))

pub grant_accepted : (b : Book) (g : GrantFields) → in_frame b ≡ true
    → ((s : State) → s.holders ≡ b.desk.holders → length s.history ≡ b.desk.counts.records → told (Ok Done.Plain) ≡ plain (smallest (table s (Call.Grant g))))
    → Accepted b (Call.Grant g)
grant_accepted b g f h = accepts b (Call.Grant g) (grant_met b g (Ok tt) f h)

pub can_grant : (b : Book) (g : GrantFields) → Accepted b (Call.Grant g) → CanGrant b.desk g
unfolding view
can_grant b g a =
    let q : GrantFit (view b) g = fit b (Call.Grant g) a in
    let l : length (history_of b) ≡ b.desk.counts.records = length-rows record_shape b.desk.counts.records b.history in
    record { domain = q.domain; records = omega (arith, (roomy b (Call.Grant g) a).room) }

grant_laid : (b : Book) (g : GrantFields) → Framed b → b.desk.counts.records < history_rows
    → book_of (granted_desk b.desk g) b.inbox b.outbox (put_at (b.desk.counts.records * record_shape.width) (record_shape.flat (grant_record g)) b.history)
    ≡ done (Call.Grant g) b
unfolding laid desk_of effect balances_after holders_after inbox_edit edited outside_after records_of granted_desk view
grant_laid b g f h =
    rw (
      inbox-kept b f,
      outbox-kept b f,
      record_added b f (grant_record g) h,
      inbox-count b f,
      outbox-count b f,
      flight_count b f,
      history-count b f (grant_record g ∷ []),
    )

-- what grant_done leaves
pub grant_lays : (b : Book) (g : GrantFields) → Accepted b (Call.Grant g) → (desk : Desk) (history : List ℕ) → desk ≡ granted_desk b.desk g
    → history ≡ put_at (b.desk.counts.records * record_shape.width) (record_shape.flat (grant_record g)) b.history
    → outcome_of (Ok Done.Plain) (book_of desk b.inbox b.outbox history) ≡ answer b (Call.Grant g)
unfolding told done_answer pieces_of
grant_lays b g y desk history p q =
    lays b (Call.Grant g) y (Ok Done.Plain) (book_of desk b.inbox b.outbox history) refl refl
    (rw (p, q) (grant_laid b g (framed b (accepted-frame b (Call.Grant g) y)) (can_grant b g y).records))

-- ---- sign
abbrev pub sign_entries : List ℕ → SignFields → List Entry
sign_entries holders g =
    (Refusal.BadMember, not (is_member g.member))
    ∷ (Refusal.BadDomain, not (is_domain g.domain))
    ∷ (Refusal.NotHolder, not (eqb (of_eight holders g.domain) g.member))
    ∷ []

pub sign_told : (g : SignFields) (s : State) (r : Result (Unit {0}) Refusal) → r ≡ chain (sign_entries s.holders g)
    → told (plainly r) ≡ plain (smallest (table s (Call.Sign g)))
unfolding refusals fulls holder told_refusal not_below all
sign_told g s r e = rw e (chain-told (sign_entries s.holders g) refl)

-- what is told of a done call has number 0
done_number : (d : Done) → (told (Ok d)).number ≡ 0
unfolding told
done_number Done.Plain = refl
done_number (Done.Sent p) = refl
done_number (Done.Traced n) = refl

-- nothing changes, whatever is told
pub sign-answers : (b : Book) (s : SignFields) (a : Answer) → told a ≡ plain (reply_number b (Call.Sign s)) → outcome_of a b ≡ answer b (Call.Sign s)
unfolding told done_answer pieces_of
sign-answers b s (Err why) t = refuses b (Call.Sign s) why t
sign-answers b s (Ok d) t =
    let y : Accepted b (Call.Sign s) = by_number b (Call.Sign s) (sym (ap (λ (x : Reply). x.number) t) ∙ done_number d) in
    lays b (Call.Sign s) y (Ok d) b (t ∙ ap plain (accepted-number b (Call.Sign s) y)) refl
    (sym (nothing-laid b (Call.Sign s) (unfold changes_nothing in refl) (framed b (accepted-frame b (Call.Sign s) y))))

pub sign_says : (b : Book) (s : SignFields) (r : Result (Unit {0}) Refusal) → in_frame b ≡ true
    → ((x : State) → x.holders ≡ b.desk.holders → told (plainly r) ≡ plain (smallest (table x (Call.Sign s)))) → outcome_of (plainly r) b ≡ answer b (Call.Sign s)
unfolding frame_test view
sign_says b s r f h = sign-answers b s (plainly r) (framed_reply b (Call.Sign s) r refl f (h (view b) refl))

-- ---- what each function's proof looks in
pub ruleset transfer_call = (refuses, unframed_reply, transfer_met, transfer_accepted)

pub ruleset transfer_done = (can_transfer, transfer_lays)

pub ruleset balances_moved = (balance-low, balance-set, sent, receiver_low)

pub ruleset grant_call = (refuses, unframed_reply, grant_met, grant_accepted)

pub ruleset grant_done = (can_grant, grant_lays)

pub ruleset sign_call = (refuses, unframed_reply, sign_says)
