-- What a member sees of the domains: for each, whether the member holds it. A grant between two others changes who holds the domain, and not that.
use Prim.Native.Nat.{ℕ, ◌-◌, ◌≤◌, ◌<◌}
use mathlib.Core.Path.{◌≡◌, refl, sym, ap, fun_ext, ◌∙◌}
use mathlib.Core.Logic.{◌≢◌}
use mathlib.Core.Bool.{Bool, true, false, ◌||◌, cond, true≢false}
use mathlib.Core.List.{List}
use native.Mathlib.Omega.{arith}
use lib.Dec.{ltb, eqb}
use lib.ListN.{length, get_or, set, get_or-eq_default}
use lib.Seq.{get_or-set_same, get_or-set_other}
use borrow.Author.Tests.{ltb-true, ltb-false, eqb-true, eqb-false}
use Rattle.promises.specs.Types.{GrantFields, Call}
use Rattle.rules.specs.Limits.{is_domain}
use Rattle.rules.specs.State.{State, Book, view}
use Rattle.rules.specs.Effects.{effect, holder, holders_after}
use Rattle.rules.specs.Runs.{run}
use Rattle.rules.specs.Views.{names_member, seen_by}
use Rattle.rules.specs.Facts.{Within, GrantFit, Fit}
use Rattle.rules.proofs.Accepts.{fit}
use Rattle.rules.proofs.Tests.{within_true, true_within}
use Rattle.promises.proofs.MemberUnwinding.{member_unwound}

-- ---- the place of a holder
-- a domain that somebody holds has a place in the list
held_place : (hs : List ℕ) (d m : ℕ) → Within 1 8 d → 1 ≤ m → holder hs d ≡ m → d - 1 < length hs
unfolding holder
held_place hs d m w l h = go (ltb (d - 1) (length hs)) refl
  where
    at : get_or hs (d - 1) 0 ≡ m
    at = rw (true_within 1 8 d w) at h

    go : (t : Bool) → ltb (d - 1) (length hs) ≡ t → d - 1 < length hs
    go true e = ltb-true (d - 1) (length hs) e
    go false e = absurd (omega (arith, at, get_or-eq_default hs 0 (ltb-false (d - 1) (length hs) e)))

-- after a grant of a domain that the giver holds, its holder is the one it was granted to, and every other domain's is as it was
holder_granted : (s : State) (g : GrantFields) → GrantFit s g → (d : ℕ)
    → holder (set s.holders (g.domain - 1) g.to) d ≡ cond (eqb g.domain d) g.to (holder s.holders d)
unfolding holder
holder_granted s g f d = go (eqb g.domain d) refl
  where
    place : g.domain - 1 < length s.holders
    place = held_place s.holders g.domain g.from f.domain f.from.low f.holds

    other : (t : Bool) → is_domain d ≡ t → g.domain ≢ d → cond t (get_or (set s.holders (g.domain - 1) g.to) (d - 1) 0) 0 ≡ cond t (get_or s.holders (d - 1) 0) 0
    other true e n =
        let w : Within 1 8 d = within_true 1 8 d e in
        let v : Within 1 8 g.domain = f.domain in
        get_or-set_other s.holders (g.domain - 1) (d - 1) g.to 0 (λ same. n (omega arith))
    other false e n = refl

    go : (t : Bool) → eqb g.domain d ≡ t
        → cond (is_domain d) (get_or (set s.holders (g.domain - 1) g.to) (d - 1) 0) 0 ≡ cond t g.to (cond (is_domain d) (get_or s.holders (d - 1) 0) 0)
    go true e = rw (← eqb-true g.domain d e, true_within 1 8 g.domain f.domain) (get_or-set_same s.holders (g.domain - 1) g.to 0 place)
    go false e = other (is_domain d) refl (eqb-false g.domain d e)

-- ---- whether the member holds a domain
abbrev pub holds : ℕ → State → ℕ → Bool
holds m s d = eqb (holder s.holders d) m

-- a grant that names the member decides it for its own domain; nothing else changes it
passed : ℕ → (ℕ → Bool) → Call → ℕ → Bool
passed m held (Call.Deposit d) = held
passed m held (Call.Claim c) = held
passed m held (Call.Transfer t) = held
passed m held (Call.Withdraw w) = held
passed m held Call.Send = held
passed m held (Call.Settle n) = held
passed m held (Call.Grant g) = λ d. cond (eqb g.domain d) (eqb g.to m) (held d)
passed m held (Call.Sign g) = held
passed m held (Call.Trace n) = held

holds_named : (m : ℕ) (s : State) (c : Call) → Fit s c → holds m (effect c s) ≡ passed m (holds m s) c
unfolding effect holders_after passed
holds_named m s (Call.Deposit d) f = refl
holds_named m s (Call.Claim c) f = refl
holds_named m s (Call.Transfer t) f = refl
holds_named m s (Call.Withdraw w) f = refl
holds_named m s Call.Send f = refl
holds_named m s (Call.Settle n) f = refl
holds_named m s (Call.Grant g) f = fun_ext (λ d. ap (λ (h : ℕ). eqb h m) (holder_granted s g f d) ∙ go d (eqb g.domain d))
  where
    go : (d : ℕ) (t : Bool) → eqb (cond t g.to (holder s.holders d)) m ≡ cond t (eqb g.to m) (eqb (holder s.holders d) m)
    go d true = refl
    go d false = refl
holds_named m s (Call.Sign g) f = refl
holds_named m s (Call.Trace n) f = refl

-- a call that does not name the member leaves it as it is: of a grant, neither the giver, who held the domain, nor the one who has it now is the member
holds-others : (m : ℕ) (s : State) (c : Call) → Fit s c → names_member m c ≡ false → passed m (holds m s) c ≡ holds m s
unfolding passed names_member
holds-others m s (Call.Deposit d) f h = refl
holds-others m s (Call.Claim c) f h = refl
holds-others m s (Call.Transfer t) f h = refl
holds-others m s (Call.Withdraw w) f h = refl
holds-others m s Call.Send f h = refl
holds-others m s (Call.Settle n) f h = refl
holds-others m s (Call.Grant g) f h = fun_ext (λ d. go d (eqb g.from m) (eqb g.to m) (eqb g.domain d) refl refl h)
  where
    go : (d : ℕ) (t u v : Bool) → eqb g.from m ≡ t → eqb g.domain d ≡ v → t || u ≡ false → cond v u (eqb (holder s.holders d) m) ≡ eqb (holder s.holders d) m
    go d true u v e k n = absurd (true≢false n)
    go d false u true e k n = n ∙ sym (rw (← eqb-true g.domain d k, f.holds) e)
    go d false u false e k n = refl
holds-others m s (Call.Sign g) f h = refl
holds-others m s (Call.Trace n) f h = refl

-- so two runs that the member sees alike leave the member the same domains
pub same-domains : (m : ℕ) (b b' : Book) → holds m (view b) ≡ holds m (view b') → (cs cs' : List Call) → seen_by m b cs ≡ seen_by m b' cs'
    → holds m (view (run b cs)) ≡ holds m (view (run b' cs'))
same-domains m =
    member_unwound m (holds m) (passed m) (λ b c a h. holds_named m (view b) c (fit b c a))
    (λ b c a h. holds_named m (view b) c (fit b c a) ∙ holds-others m (view b) c (fit b c a) h)
