-- The inbox's clauses of the frame, kept by every accepted call.
use Prim.Native.Nat.{ℕ, zero, suc, ◌≤◌, ◌<◌}
use mathlib.Core.Path.{◌≡◌, refl}
use mathlib.Core.Bool.{true, ◌&&◌}
use mathlib.Core.List.{List, [], ◌∷◌, ◌++◌}
use native.Mathlib.Omega.{arith}
use lib.Dec.{leb, ltb}
use lib.ListN.{take, drop}
use borrow.Author.Tests.{leb-true, le-leb, lt-ltb, ltb-true}
use Rattle.promises.specs.Types.{Deposit, Call}
use Rattle.rules.specs.Limits.{ceiling, member_count, asset_count}
use Rattle.rules.specs.Lists.{all, index_of}
use Rattle.rules.specs.Tables.{edited}
use Rattle.rules.specs.State.{State}
use Rattle.rules.specs.Effects.{effect, matches, inbox_edit, deposited, withdrawn, sent, settled_one, outside_after}
use Rattle.rules.specs.Frame.{deposit_in_limits, numbers_rise}
use Rattle.rules.specs.Facts.{Within, Fit}
use Rattle.rules.proofs.Tests.{both, true_within}
use Rattle.promises.proofs.Framed.{Framed}
use Rattle.promises.proofs.Lists.{all-add, all_without}

-- ---- the inbox
-- a deposit's three facts, and what is left of a list that rises: one parted
pub rise_parts : (before last : ℕ) (d : Deposit) (ds : List Deposit) → numbers_rise before last (d ∷ ds) ≡ true
    → (before < d.number.0) × (d.number.0 ≤ last) × (numbers_rise d.number.0 last ds ≡ true)
unfolding numbers_rise
rise_parts before last d ds h =
    let (p, q) = both (ltb before d.number.0) (leb d.number.0 last && numbers_rise d.number.0 last ds) h in
    let (r, t) = both (leb d.number.0 last) (numbers_rise d.number.0 last ds) q in
    (ltb-true before d.number.0 p, leb-true d.number.0 last r, t)

-- and put together again
rise_of : (before last : ℕ) (d : Deposit) (ds : List Deposit) → before < d.number.0 → d.number.0 ≤ last → numbers_rise d.number.0 last ds ≡ true
    → numbers_rise before last (d ∷ ds) ≡ true
unfolding numbers_rise
rise_of before last d ds p q r = rw (lt-ltb before d.number.0 p, le-leb d.number.0 last q) r

-- a deposit with a higher number joins at the end
rise_add : (before last : ℕ) (ds : List Deposit) (d : Deposit) → numbers_rise before last ds ≡ true → before ≤ last → last < d.number.0
    → numbers_rise before d.number.0 (ds ++ (d ∷ [])) ≡ true
rise_add before last [] d h l m = rise_of before d.number.0 d [] (omega arith) (omega arith) (unfold numbers_rise in refl)
rise_add before last (e ∷ ds) d h l m =
    let (p, q, r) = rise_parts before last e ds h in
    rise_of before d.number.0 e (ds ++ (d ∷ [])) p (omega arith) (rise_add e.number.0 last ds d r q m)

-- rising above a number is rising above any lower one
rise_lower : (low before last : ℕ) (ds : List Deposit) → low ≤ before → numbers_rise before last ds ≡ true → numbers_rise low last ds ≡ true
rise_lower low before last [] l h = unfold numbers_rise in refl
rise_lower low before last (d ∷ ds) l h =
    let (p, q, r) = rise_parts before last d ds h in
    rise_of low last d ds (omega arith) q r

-- one taken out
rise_without : (before last : ℕ) (ds : List Deposit) (i : ℕ) → numbers_rise before last ds ≡ true → numbers_rise before last (take i ds ++ drop (suc i) ds) ≡ true
rise_without before last [] zero h = h
rise_without before last [] (suc i) h = h
rise_without before last (d ∷ ds) zero h =
    let (p, q, r) = rise_parts before last d ds h in
    rise_lower before d.number.0 last ds (omega arith) r
rise_without before last (d ∷ ds) (suc i) h =
    let (p, q, r) = rise_parts before last d ds h in
    rise_of before last d (take i ds ++ drop (suc i) ds) p q (rise_without d.number.0 last ds i r)

-- the frame's clauses on the inbox
pub record InboxFramed (last : ℕ) (ds : List Deposit) : Type 0 where
  pub fields : all deposit_in_limits ds ≡ true
  pub numbers : numbers_rise 0 last ds ≡ true

-- they hold of a framed state
inbox-framed : (s : State) → Framed s → InboxFramed s.outside.last.0 s.inbox
inbox-framed s f = record { fields = f.inbox_fields; numbers = f.numbers }

-- a deposit whose fields are within their limits
deposit_in : (d : Deposit) → Within 1 member_count d.member → Within 1 asset_count d.asset → Within 1 ceiling d.amount → deposit_in_limits d ≡ true
deposit_in d m a x = rw (true_within 1 16 d.member m, true_within 1 8 d.asset a, true_within 1 ceiling d.amount x)

-- a deposit joins the inbox, a claimed one leaves it, and no other call changes it
pub inbox-kept : (s : State) (c : Call) → Fit s c → Framed s → InboxFramed (effect c s).outside.last.0 (effect c s).inbox
unfolding effect inbox_edit edited outside_after deposited withdrawn sent settled_one
inbox-kept s (Call.Deposit d) k f =
    record {
      fields = all-add deposit_in_limits s.inbox d f.inbox_fields (deposit_in d k.member k.asset k.amount);
      numbers = rise_add 0 s.outside.last.0 s.inbox d f.numbers (omega arith) (omega arith);
    }
inbox-kept s (Call.Claim c) k f =
    let i : ℕ = index_of (matches c) s.inbox in
    record {
      fields = all_without deposit_in_limits s.inbox i f.inbox_fields;
      numbers = rise_without 0 s.outside.last.0 s.inbox i f.numbers;
    }
inbox-kept s (Call.Transfer t) k f = inbox-framed s f
inbox-kept s (Call.Withdraw w) k f = inbox-framed s f
inbox-kept s Call.Send k f = inbox-framed s f
inbox-kept s (Call.Settle n) k f = inbox-framed s f
inbox-kept s (Call.Grant g) k f = inbox-framed s f
inbox-kept s (Call.Sign g) k f = inbox-framed s f
inbox-kept s (Call.Trace n) k f = inbox-framed s f
