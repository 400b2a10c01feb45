-- Who holds a domain is the one by the grants of the history: a history that passes its test comes to those holders.
use Rattle.std.specs.Prelude.{Ok, Err}
use Prim.Native.Nat.{ℕ, ◌-◌}
use mathlib.Core.Path.{◌≡◌, refl, sym, ap, ◌∙◌}
use mathlib.Core.Bool.{true, ◌&&◌}
use mathlib.Core.List.{List, [], ◌∷◌}
use lib.Dec.{eqb}
use lib.ListN.{length, length-set}
use Rattle.promises.specs.Types.{Record, Kind}
use Rattle.rules.specs.Limits.{is_member, is_domain, domain_count}
use Rattle.rules.specs.State.{State, first_holders}
use Rattle.rules.specs.Effects.{holder}
use Rattle.rules.specs.Kinds.{AnyKind}
use Rattle.rules.specs.History.{kind_of, differ, Standing, standing_from, standing_as, standing_after, fits_as, fits, replays}
use Rattle.rules.proofs.Tests.{both, within_true}
use Rattle.lots.specs.Traces.{standing_through}
use Rattle.promises.specs.Demand2.{held_as, held_after, holder_by}
use Rattle.promises.specs.Started.{Replayed}
use Rattle.promises.proofs.Cells.{holder-set}

-- a record leaves as many holders
holders_sized : (k : AnyKind) (s : Standing) (r : Record) → length (standing_as k s r).holders ≡ length s.holders
unfolding standing_as
holders_sized (Ok Kind.Claim) s r = refl
holders_sized (Ok Kind.Transfer) s r = refl
holders_sized (Ok Kind.Withdrawal) s r = refl
holders_sized (Ok Kind.Grant) s r = length-set s.holders (r.asset - 1) r.second
holders_sized (Err e) s r = refl

-- what a record that fits makes of a holder is the holder after it
held_one : (k : AnyKind) (s : Standing) (r : Record) → length s.holders ≡ domain_count → fits_as k s r ≡ true → (d : ℕ)
    → held_as k d r (holder s.holders d) ≡ holder (standing_as k s r).holders d
unfolding held_as standing_as fits_as
held_one (Ok Kind.Claim) s r l f d = refl
held_one (Ok Kind.Transfer) s r l f d = refl
held_one (Ok Kind.Withdrawal) s r l f d = refl
held_one (Ok Kind.Grant) s r l f d =
    let (g, rest) = both (is_domain r.asset) (eqb r.amount 1 && (is_member r.first && (is_member r.second && (differ r && eqb (holder s.holders r.asset) r.first)))) f in
    sym (holder-set s.holders r.asset r.second l (within_true 1 8 r.asset g) d)
held_one (Err e) s r l f d = refl

-- so for a history that replays
held_through : (h : List Record) (s : Standing) → length s.holders ≡ domain_count → replays s h ≡ true → (d : ℕ)
    → held_after (holder s.holders d) d h ≡ holder (standing_through s h).holders d
unfolding held_after standing_through replays
held_through [] s l p d = refl
held_through (r ∷ rs) s l p d =
    let (f, q) = both (fits s r) (replays (standing_after s r) rs) p in
    rw (held_one (kind_of r) s r l f d) (held_through rs (standing_after s r) (holders_sized (kind_of r) s r ∙ l) q d)

-- so every holder is the one by the grants
pub granted : (s : State) → Replayed s → (d : ℕ) → holder s.holders d ≡ holder_by first_holders d s.history
unfolding standing_from
granted s r d =
    ap (λ (t : Standing). holder t.holders d) (sym r.comes_to)
    ∙ sym (held_through s.history (standing_from first_holders) (unfold first_holders in refl) r.passes d)
