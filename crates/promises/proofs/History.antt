-- What the history says: the replay comes to the kept balances and holders, and so provenance to each balance.
use Prim.Native.Nat.{ℕ, zero, suc, ◌≤◌, ◌<◌}
use mathlib.Core.Path.{◌≡◌, refl, sym, ap, ◌∙◌}
use mathlib.Core.Bool.{true}
use mathlib.Core.List.{List, [], ◌∷◌, ◌++◌}
use native.Mathlib.Omega.{arith}
use lib.ListN.{length, get_or}
use borrow.Author.Tests.{le-leb, eq-eqb, ne_eqb}
use Rattle.promises.specs.Types.{Deposit, Record, ClaimFields, Call}
use Rattle.rules.specs.Limits.{ceiling, highest_number}
use Rattle.rules.specs.Lists.{index_of}
use Rattle.rules.specs.Tables.{no_deposit}
use Rattle.rules.specs.State.{State, first_holders}
use Rattle.rules.specs.Effects.{effect, balance, balances_after, holder, holders_after, matches, records_of}
use Rattle.rules.specs.Frame.{numbers_rise}
use Rattle.rules.specs.Kinds.{numbered_kind}
use Rattle.rules.specs.History.{provenance_of, Standing, standing_from, standing_as, standing_after, fits_as, fits, replays}
use Rattle.rules.specs.Facts.{Within, ClaimFit, Fit}
use Rattle.promises.specs.Started.{standing_of, Replayed}
use Rattle.lots.specs.Traces.{standing_through}
use Rattle.lots.proofs.Agreement.{balance-provenance}
use Rattle.rules.proofs.Tests.{both, true_within}
use Rattle.promises.proofs.Framed.{Framed}
use Rattle.promises.proofs.Sums.{found_in}
use Rattle.promises.proofs.Sheet.{claimed, Matched, matched}
use Rattle.promises.proofs.InboxFrame.{rise_parts}

-- ---- the replay
-- the replay of some records and then others goes on from where the first led
standing-append : (s : Standing) (xs ys : List Record) → standing_through s (xs ++ ys) ≡ standing_through (standing_through s xs) ys
unfolding standing_through
standing-append s [] ys = refl
standing-append s (x ∷ xs) ys = standing-append (standing_after s x) xs ys

-- and passes if both parts do, each from its own point
replays-append : (s : Standing) (xs ys : List Record) → replays s xs ≡ true → replays (standing_through s xs) ys ≡ true → replays s (xs ++ ys) ≡ true
unfolding replays standing_through
replays-append s [] ys p q = q
replays-append s (x ∷ xs) ys p q =
    let (e, r) = both (fits s x) (replays (standing_after s x) xs) p in
    rw e (replays-append (standing_after s x) xs ys r q)

-- the numbers in an inbox lie from 1 to the last accepted
rise_at : (before last : ℕ) (ds : List Deposit) (i : ℕ) (d : Deposit) → numbers_rise before last ds ≡ true → i < length ds
    → (before < (get_or ds i d).number.0) × ((get_or ds i d).number.0 ≤ last)
rise_at before last [] i d h l = absurd (omega arith)
rise_at before last (e ∷ ds) zero d h l =
    let (p, q, r) = rise_parts before last e ds h in
    (p, q)
rise_at before last (e ∷ ds) (suc i) d h l =
    let (p, q, r) = rise_parts before last e ds h in
    let (x, y) = rise_at e.number.0 last ds i d r (omega arith) in
    (omega arith, y)

-- so a claim names such a number
claim-number : (s : State) (c : ClaimFields) → ClaimFit s c → Framed s → Within 1 highest_number c.number.0
claim-number s c k f =
    let m : Matched c (claimed c s.inbox) = matched c s.inbox k.found in
    let (p, q) = rise_at 0 s.outside.last.0 s.inbox (index_of (matches c) s.inbox) no_deposit f.numbers (found_in (matches c) s.inbox k.found) in
    record { low = omega (arith, m.number); high = omega (arith, m.number, f.last) }

-- the record of an accepted call fits where it stands
record_fits : (s : State) (c : Call) → Fit s c → Framed s → replays (standing_of s) (records_of c) ≡ true
unfolding replays records_of numbered_kind fits_as
record_fits s (Call.Deposit d) k f = refl
record_fits s (Call.Claim c) k f =
    rw (true_within 1 8 c.asset k.asset, true_within 1 ceiling c.amount k.amount, true_within 1 16 c.member k.member, true_within 1 highest_number c.number.0 (claim-number s c k f))
record_fits s (Call.Transfer t) k f =
    rw (
      true_within 1 8 t.asset k.asset,
      true_within 1 ceiling t.amount k.amount,
      true_within 1 16 t.from k.from,
      true_within 1 16 t.to k.to,
      ne_eqb t.from t.to k.others,
      le-leb t.amount (balance s.balances t.from t.asset) k.enough,
    )
record_fits s (Call.Withdraw w) k f =
    rw (
      true_within 1 8 w.asset k.asset,
      true_within 1 ceiling w.amount k.amount,
      true_within 1 16 w.member k.member,
      true_within 1 65_535 w.payee k.payee,
      le-leb w.amount (balance s.balances w.member w.asset) k.enough,
    )
record_fits s Call.Send k f = refl
record_fits s (Call.Settle n) k f = refl
record_fits s (Call.Grant g) k f =
    rw (
      true_within 1 8 g.domain k.domain,
      true_within 1 16 g.from k.from,
      true_within 1 16 g.to k.to,
      ne_eqb g.from g.to k.others,
      eq-eqb (holder s.holders g.domain) g.from k.holds,
    )
record_fits s (Call.Sign g) k f = refl
record_fits s (Call.Trace n) k f = refl

-- and does to the standing what the call does
record_does : (s : State) (c : Call) → standing_through (standing_of s) (records_of c) ≡ standing_of (effect c s)
unfolding standing_through records_of numbered_kind standing_as effect balances_after holders_after
record_does s (Call.Deposit d) = refl
record_does s (Call.Claim c) = refl
record_does s (Call.Transfer t) = refl
record_does s (Call.Withdraw w) = refl
record_does s Call.Send = refl
record_does s (Call.Settle n) = refl
record_does s (Call.Grant g) = refl
record_does s (Call.Sign g) = refl
record_does s (Call.Trace n) = refl

-- so the history with the new record replays too
pub replayed-kept : (s : State) (c : Call) → Fit s c → Framed s → Replayed s → Replayed (effect c s)
replayed-kept s c k f h =
    record {
      passes = unfold effect in replays-append (standing_from first_holders) s.history (records_of c) h.passes (rw h.comes_to (record_fits s c k f));
      comes_to = to;
    }
  where
    to : standing_through (standing_from first_holders) (effect c s).history ≡ standing_of (effect c s)
    to = unfold effect in standing-append (standing_from first_holders) s.history (records_of c) ∙ ap (λ (t : Standing). standing_through t (records_of c)) h.comes_to ∙ record_does s c

-- ---- provenance
-- a replay that comes to the kept balances comes to the provenance
pub provenanced : (s : State) → Replayed s → (m a : ℕ) → balance s.balances m a ≡ provenance_of m a s.history
provenanced s h m a = ap (λ (t : Standing). balance t.balances m a) (sym h.comes_to) ∙ balance-provenance first_holders s.history h.passes m a
