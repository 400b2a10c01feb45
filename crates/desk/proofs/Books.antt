-- The two ends of every call: what a refusal leaves, and what is laid where nothing is refused. What a book in frame gives of its tables.
use Rattle.std.specs.Prelude.{Result, Ok, Err}
use Prim.Native.Nat.{ℕ, ◌+◌, ◌-◌, ◌*◌, ◌≤◌, ◌<◌}
use mathlib.Core.Path.{◌≡◌, refl, sym, ap, ◌∙◌}
use mathlib.Core.Logic.{◌≢◌}
use mathlib.Core.Bool.{Bool, true, false, ◌&&◌, cond}
use mathlib.Core.List.{List, [], ◌∷◌, ◌++◌}
use native.Mathlib.Omega.{arith}
use lib.ListN.{get_or, set}
use borrow.Author.Tests.{leb-true}
use Rattle.rules.specs.declared.rows.Record.{Record}
use Rattle.rules.specs.declared.calls.Call.{Call}
use Rattle.rules.specs.Types.{Answer}
use Rattle.rules.specs.declared.answers.Done.{Done}
use Rattle.rules.specs.declared.answers.Refusal.{Refusal}
use Rattle.rules.specs.Limits.{ceiling, history_rows, within, is_member, is_asset}
use Rattle.rules.specs.Lists.{all}
use Rattle.rules.specs.Tables.{lay, record_shape}
use Rattle.rules.specs.State.{Book, history_of, view}
use Rattle.rules.specs.Replies.{Reply, told_refusal, told, plainly, plain, smallest}
use Rattle.rules.specs.Refusals.{table}
use Rattle.rules.specs.Effects.{cell, balance}
use Rattle.rules.specs.Frame.{up_to_ceiling, in_frame}
use Rattle.rules.specs.Answer.{frame_test, bad_book, done, answer, reply_number, done_answer, pieces_of, outcome_of}
use Rattle.rules.proofs.Shapes.{record_sound}
use Rattle.rules.proofs.Books.{Framed}
use Rattle.rules.proofs.Tests.{both_of, true_within, all-at}
use Rattle.rules.specs.Facts.{Within, Accepted}
use Rattle.rules.proofs.Accepts.{accepted-number, by_number, not_done, framed-number, unframed_number}
use Rattle.tables.specs.Rows.{put_at}
use Rattle.tables.proofs.Laid.{row_added}
use Rattle.desk.specs.Parts.{of_eight}
use Rattle.desk.specs.Kept.{eight_set, balance_set}
use Rattle.rules.proofs.Told.{refusal_number}

-- ---- the frame, and then the table
-- of a book in frame the table's answer tells the number that the rules give
pub framed_reply : (b : Book) (c : Call) (r : Result (Unit {0}) Refusal) → frame_test b c ≡ bad_book b → in_frame b ≡ true
    → told (plainly r) ≡ plain (smallest (table (view b) c)) → told (plainly r) ≡ plain (reply_number b c)
framed_reply b c r e f h = rw (framed-number b c (ap (λ (x : ℕ × Bool). x.1) e ∙ rw f)) h

-- and of one out of frame BadBook does
pub unframed_reply : (b : Book) (c : Call) → frame_test b c ≡ bad_book b → in_frame b ≡ false → told (Err Refusal.BadBook) ≡ plain (reply_number b c)
unfolding told_refusal told
unframed_reply b c e f = rw (unframed_number b c (e ∙ rw f)) refl

-- ---- the two ends of a call
-- refused: the answer as it was found, and the book as it came
pub refuses : (b : Book) (c : Call) (why : Refusal) → told (Err why) ≡ plain (reply_number b c) → outcome_of (Err why) b ≡ answer b c
unfolding told answer
refuses b c why tells =
    let n : reply_number b c ≢ 0 = λ z. omega (arith, refusal_number why, ap (λ (x : Reply). x.number) tells) in
    rw (
      not_done (reply_number b c) (told (Ok (done_answer (view b) c))) (plain (reply_number b c)) n,
      not_done (reply_number b c) (pieces_of (view b) c) [] n,
      not_done (reply_number b c) (done c b) b n,
      tells,
    )

-- not refused: accepted
pub accepts : (b : Book) (c : Call) → told (Ok Done.Plain) ≡ plain (reply_number b c) → Accepted b c
unfolding told
accepts b c tells = by_number b c (sym (ap (λ (x : Reply). x.number) tells))

-- done: the answer of a done call, and the effect laid
pub lays : (b : Book) (c : Call) → Accepted b c → (a : Answer) (left : Book) → told a ≡ told (Ok (done_answer (view b) c)) → pieces_of (view b) c ≡ []
    → left ≡ done c b → outcome_of a left ≡ answer b c
unfolding answer
lays b c y a left p q l = rw (accepted-number b c y, p, q, ← l)

-- a call that leaves the book as it is, whatever it is told
pub says : (b : Book) (c : Call) (r : Result (Unit {0}) Refusal) → told (plainly r) ≡ plain (reply_number b c) → told (Ok (done_answer (view b) c)) ≡ plain 0
    → pieces_of (view b) c ≡ [] → b ≡ done c b → outcome_of (plainly r) b ≡ answer b c
says b c (Err why) tells p q l = refuses b c why tells
says b c (Ok u) tells p q l = lays b c (accepts b c tells) (Ok Done.Plain) b (tells ∙ ap plain (accepted-number b c (accepts b c tells)) ∙ sym p) q l

-- ---- what is laid back into the history: one row more
pub record_added : (b : Book) → Framed b → (r : Record) → b.desk.counts.records < history_rows
    → lay record_shape (history_of b ++ (r ∷ [])) b.desk.counts.records b.history ≡ put_at (b.desk.counts.records * record_shape.width) (record_shape.flat r) b.history
record_added b f r h = row_added record_shape record_sound b.desk.counts.records b.history r (omega arith)

-- ---- no sum can wrap
-- no balance is above the ceiling where none of the list is
pub balance-low : (bs : List ℕ) (m a : ℕ) → all up_to_ceiling bs ≡ true → balance bs m a ≤ ceiling
unfolding balance
balance-low bs m a h = go (is_member m && is_asset a)
  where
    go : (p : Bool) → cond p (get_or bs ((m - 1) * 8 + (a - 1)) 0) 0 ≤ ceiling
    go true = leb-true (get_or bs ((m - 1) * 8 + (a - 1)) 0) ceiling (all-at up_to_ceiling bs ((m - 1) * 8 + (a - 1)) 0 refl h)
    go false = omega arith

-- nor is one of eight
pub eight_low : (xs : List ℕ) (i : ℕ) → all up_to_ceiling xs ≡ true → of_eight xs i ≤ ceiling
eight_low xs i h = go (within 1 8 i)
  where
    go : (p : Bool) → cond p (get_or xs (i - 1) 0) 0 ≤ ceiling
    go true = leb-true (get_or xs (i - 1) 0) ceiling (all-at up_to_ceiling xs (i - 1) 0 refl h)
    go false = omega arith

-- ---- a number kept anew, within the limits
pub balance-set : (bs : List ℕ) (m a x : ℕ) → Within 1 16 m → Within 1 8 a → balance_set bs m a x ≡ set bs (cell m a) x
balance-set bs m a x p q = rw (both_of (is_member m) (is_asset a) (true_within 1 16 m p) (true_within 1 8 a q))

pub eight_set_lem : (xs : List ℕ) (i x : ℕ) → Within 1 8 i → eight_set xs i x ≡ set xs (i - 1) x
eight_set_lem xs i x p = rw (true_within 1 8 i p)
