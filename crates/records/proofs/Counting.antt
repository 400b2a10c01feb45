-- Provenance by going back: the history with one record fewer, what keeps each sum and difference within the numbers, and the table of refusals.
use Rattle.std.specs.Prelude.{Ok, Err}
use Prim.Native.Nat.{ℕ, zero, suc, ◌+◌, ◌-◌, ◌*◌, ◌≤◌}
use mathlib.Core.Path.{◌≡◌, refl, sym, ap, ◌∙◌}
use mathlib.Core.Bool.{Bool, true, false, not, ◌&&◌, ◌||◌, cond}
use mathlib.Core.List.{List, [], ◌∷◌, ◌++◌}
use native.Mathlib.Omega.{arith}
use lib.Dec.{leb, eqb}
use lib.ListN.{length, get_or}
use borrow.Author.Tests.{leb-true, le-leb, eqb-true}
use Rattle.rules.specs.declared.rows.Record.{Record}
use Rattle.rules.specs.declared.answers.Refusal.{Refusal}
use Rattle.rules.specs.Limits.{ceiling, history_rows, is_member, is_asset}
use Rattle.rules.specs.Lists.{all}
use Rattle.rules.specs.Tables.{rows_of, record_shape, no_record}
use Rattle.rules.specs.State.{Book, first_holders, history_of}
use Rattle.rules.specs.Effects.{balance}
use Rattle.rules.specs.Frame.{in_frame}
use Rattle.rules.specs.declared.rows.Kind.{Kind}
use Rattle.rules.specs.Kinds.{AnyKind}
use Rattle.rules.specs.History.{kind_of, by_first, by_second, counted_as, counted, provenance, provenance_of, Standing as Replayed, standing_from, standing_after, fits, replays, history_in_frame}
use Rattle.rules.specs.Replies.{told_refusal, told_origin, smallest}
use Rattle.rules.specs.Answer.{provenance_number, provenance_answer, reply_with}
use Rattle.rules.proofs.Laying.{length-rows, rows_split}
use Rattle.rules.proofs.Tests.{both, all-at}
use Rattle.tables.specs.Rows.{row_at}
use Rattle.rules.proofs.Books.{Framed, framed}
use Rattle.lots.specs.Traces.{standing_through}
use Rattle.lots.proofs.Fits.{transfer-fits, withdrawal-fits}
use Rattle.lots.proofs.ProvenanceLaws.{provenance-last}
use Rattle.lots.proofs.Agreement.{balance-provenance}
use Rattle.records.specs.Test.{history_frame}
use Rattle.records.specs.Counts.{CanWork, CanCount}
use Rattle.records.proofs.Following.{amount-low}

-- ---- one record fewer
pub rows_last : (i : ℕ) (t : List ℕ) → rows_of record_shape (i + 1) t ≡ rows_of record_shape i t ++ (row_at record_shape i t ∷ [])
unfolding rows_of
rows_last i t = rows_split record_shape i 1 t

pub rows_fewer : (n : ℕ) (t : List ℕ) → 1 ≤ n → rows_of record_shape n t ≡ rows_of record_shape (n - 1) t ++ (row_at record_shape (n - 1) t ∷ [])
rows_fewer n t h =
    let e : n ≡ n - 1 + 1 = omega arith in
    ap (λ (k : ℕ). rows_of record_shape k t) e ∙ rows_last (n - 1) t

-- a history that the test passes: it passes without the last record, which fits where it stands
replays-last : (h : List Record) (r : Record) (s : Replayed) → replays s (h ++ (r ∷ [])) ≡ true → (replays s h ≡ true) × (fits (standing_through s h) r ≡ true)
unfolding replays standing_through
replays-last [] r s f = (refl, (both (fits s r) true f).0)
replays-last (x ∷ h) r s f =
    let (u, v) = both (fits s x) (replays (standing_after s x) (h ++ (r ∷ []))) f in
    let (p, q) = replays-last h r (standing_after s x) v in
    (rw u p, q)

-- ---- no sum passes the ceiling times the records
amounts_low : (s : Replayed) (h : List Record) → replays s h ≡ true → all (λ r. leb r.amount ceiling) h ≡ true
unfolding replays all
amounts_low s [] f = refl
amounts_low s (r ∷ h) f =
    let (u, v) = both (fits s r) (replays (standing_after s r) h) f in
    rw (le-leb r.amount ceiling (amount-low (kind_of r) s r u)) (amounts_low (standing_after s r) h v)

counted-low : (k : AnyKind) (m a : ℕ) (r : Record) (n : ℕ) → counted_as k m a r n ≤ n + r.amount
unfolding counted_as
counted-low (Ok Kind.Claim) m a r n = go (by_first m a r)
  where
    go : (t : Bool) → cond t (n + r.amount) n ≤ n + r.amount
    go true = omega arith
    go false = omega arith
counted-low (Ok Kind.Transfer) m a r n = go (by_second m a r) (by_first m a r)
  where
    go : (t u : Bool) → cond t (n + r.amount) (cond u (n - r.amount) n) ≤ n + r.amount
    go true u = omega arith
    go false true = omega arith
    go false false = omega arith
counted-low (Ok Kind.Withdrawal) m a r n = go (by_first m a r)
  where
    go : (t : Bool) → cond t (n - r.amount) n ≤ n + r.amount
    go true = omega arith
    go false = omega arith
counted-low (Ok Kind.Grant) m a r n = omega arith
counted-low (Err e) m a r n = omega arith

provenance-low : (m a n : ℕ) (h : List Record) → all (λ r. leb r.amount ceiling) h ≡ true → provenance m a n h ≤ n * ceiling
unfolding provenance
provenance-low m a zero h l = omega arith
provenance-low m a (suc n) h l =
    let x : (get_or h n no_record).amount ≤ ceiling = leb-true (get_or h n no_record).amount ceiling (all-at (λ r. leb r.amount ceiling) h n no_record refl l) in
    omega (arith, counted-low (kind_of (get_or h n no_record)) m a (get_or h n no_record) (provenance m a n h), provenance-low m a n h l)

-- ---- going back is safe
module _ (t : List ℕ) (n : ℕ) (can : CanWork t n) (some : 1 ≤ n) where
  before : List Record
  before = rows_of record_shape (n - 1) t

  last : Record
  last = row_at record_shape (n - 1) t

  parts : (history_in_frame before ≡ true) × (fits (standing_through (standing_from first_holders) before) last ≡ true)
  unfolding before last
  parts = replays-last before last (standing_from first_holders) (sym (ap (replays (standing_from first_holders)) (rows_fewer n t some)) ∙ can.framed)

  pub can_go_back : CanWork t (n - 1)
  unfolding before
  can_go_back = record { few = omega arith; framed = parts.0 }

  -- what the first member has at this point is the sum so far
  covers : (m a : ℕ) → last.amount ≤ balance (standing_through (standing_from first_holders) before).balances last.first last.asset → by_first m a last ≡ true → last.amount ≤ provenance_of m a before
  covers m a h e =
      let (p, q) = both (eqb last.first m) (eqb last.asset a) e in
      rw (← eqb-true last.first m p, ← eqb-true last.asset a q, ← balance-provenance first_holders before parts.0 last.first last.asset) h

  pub can_count : (m a : ℕ) → CanCount (row_at record_shape (n - 1) t) m a (provenance_of m a (rows_of record_shape (n - 1) t))
  unfolding before last
  can_count m a =
      let s = standing_through (standing_from first_holders) before in
      let few : length before ≡ n - 1 = length-rows record_shape (n - 1) t in
      let low : provenance_of m a before ≤ length before * ceiling = provenance-low m a (length before) before (amounts_low (standing_from first_holders) before parts.0) in
      record {
        room = omega (arith, low, few, can.few, amount-low (kind_of last) s last parts.1);
        sent = λ k e. covers m a (transfer-fits s last (rw k at parts.1)).pays.covered e;
        paid = λ k e. covers m a (withdrawal-fits s last (rw k at parts.1)).covered e;
      }

  pub counted-last : (m a : ℕ) → counted m a (row_at record_shape (n - 1) t) (provenance_of m a (rows_of record_shape (n - 1) t)) ≡ provenance_of m a (rows_of record_shape n t)
  counted-last m a =
      sym (provenance-last m a (rows_of record_shape (n - 1) t) (row_at record_shape (n - 1) t))
      ∙ ap (provenance_of m a) (sym (rows_fewer n t some))

pub nothing_left : (m a n : ℕ) (t : List ℕ) → n ≡ 0 → 0 ≡ provenance_of m a (rows_of record_shape n t)
unfolding rows_of provenance
nothing_left m a n t e = rw e

-- ---- the whole frame
-- in a book in frame the history's count and table are as they must be
pub history-whole : (b : Book) → in_frame b ≡ true → history_frame b.history b.desk.counts.records ≡ history_in_frame (history_of b)
unfolding history_frame
history-whole b e =
    let f : Framed b = framed b e in
    rw (le-leb b.desk.counts.records history_rows f.records, le-leb (b.desk.counts.records * record_shape.width) (length b.history) (omega arith))

pub frame_whole : (b : Book) → in_frame b && history_frame b.history b.desk.counts.records ≡ in_frame b && history_in_frame (history_of b)
frame_whole b = go (in_frame b) refl
  where
    go : (t : Bool) → in_frame b ≡ t → t && history_frame b.history b.desk.counts.records ≡ t && history_in_frame (history_of b)
    go true e = history-whole b e
    go false e = refl

pub can_work : (b : Book) → in_frame b && history_in_frame (history_of b) ≡ true → CanWork b.history b.desk.counts.records
can_work b h =
    let (u, v) = both (in_frame b) (history_in_frame (history_of b)) h in
    let f : Framed b = framed b u in
    record { few = f.records; framed = v }

-- ---- the table of refusals
-- the code's chain of tests tells what the rules answer
pub origin_is : (b : Book) (m a : ℕ)
    → provenance_answer b m a
    ≡ told_origin (cond (not (in_frame b && history_in_frame (history_of b))) (Err Refusal.BadBook)
    (cond (not (is_member m)) (Err Refusal.BadMember) (cond (not (is_asset a)) (Err Refusal.BadAsset) (Ok (provenance_of m a (history_of b))))))
unfolding told_origin provenance_answer provenance_number told_refusal smallest
origin_is b m a = go (in_frame b) (history_in_frame (history_of b)) (is_member m) (is_asset a)
  where
    go : (f h p q : Bool)
        → reply_with (smallest ((2, not f || not h) ∷ (3, not p) ∷ (4, not q) ∷ [])) (told_origin (Ok (provenance_of m a (history_of b))))
        ≡ told_origin (cond (not (f && h)) (Err Refusal.BadBook) (cond (not p) (Err Refusal.BadMember) (cond (not q) (Err Refusal.BadAsset) (Ok (provenance_of m a (history_of b))))))
    go true true true true = refl
    go true true true false = refl
    go true true false true = refl
    go true true false false = refl
    go true false true true = refl
    go true false true false = refl
    go true false false true = refl
    go true false false false = refl
    go false h true true = refl
    go false h true false = refl
    go false h false true = refl
    go false h false false = refl
