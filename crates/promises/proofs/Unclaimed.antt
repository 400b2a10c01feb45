-- The unclaimed deposits of a reached book are those that were there and then the accepted ones, less those that an accepted claim took, in order: deposit numbers are given once, so a claim takes one deposit, and none that comes later.
use Prim.Native.Nat.{ℕ, suc, ◌+◌, ◌≤◌, ◌<◌}
use mathlib.Core.Path.{◌≡◌, refl, sym, ap, ◌∙◌}
use mathlib.Core.Bool.{Bool, true, false, not, ◌&&◌, ◌||◌, cond, false≢true, or-false}
use mathlib.Core.List.{List, [], ◌∷◌, ◌++◌, append-nil, append_assoc}
use native.Mathlib.Omega.{arith}
use lib.Dec.{leb, eqb}
use lib.ListN.{take, drop}
use borrow.Author.Tests.{eqb-true, ne_eqb, leb-true, le-leb}
use Rattle.promises.specs.Types.{Deposit, ClaimFields, Call}
use Rattle.rules.specs.Lists.{all, any, those, index_of}
use Rattle.rules.specs.Tables.{edited}
use Rattle.rules.specs.State.{State, Book, view}
use Rattle.rules.specs.Effects.{effect, matches, inbox_edit, deposited, withdrawn, sent, settled_one, outside_after}
use Rattle.rules.specs.Frame.{numbers_rise}
use Rattle.rules.specs.Runs.{run, depositing, deposits}
use Rattle.rules.specs.Facts.{Accepted, DepositFit, ClaimFit}
use Rattle.rules.proofs.Tests.{both}
use Rattle.rules.proofs.Digits.{all_append, all_imply}
use Rattle.rules.proofs.Accepts.{fit}
use Rattle.lots.proofs.ListLaws.{those-append, any_append}
use Rattle.promises.specs.Demand2.{claiming, claims, is_claimed}
use Rattle.promises.proofs.Framed.{framed}
use Rattle.promises.proofs.InboxFrame.{rise_parts}
use Rattle.promises.specs.Started.{Started}
use Rattle.promises.proofs.Reached.{started_keeps}

-- ---- a claim and a deposit
-- a claim takes a deposit with its own number
matches-number : (c : ClaimFields) (d : Deposit) → matches c d ≡ true → d.number.0 ≡ c.number.0
unfolding matches
matches-number c d h =
    eqb-true d.number.0 c.number.0
    (both (eqb d.number.0 c.number.0) (eqb d.asset c.asset && (eqb d.amount c.amount && eqb d.member c.member)) h).0

-- and no deposit with another
other-number : (c : ClaimFields) (d : Deposit) → c.number.0 < d.number.0 → matches c d ≡ false
unfolding matches
other-number c d h = rw (ne_eqb d.number.0 c.number.0 (λ e. omega arith))

-- ---- one claim, of rows whose numbers rise
abbrev is_left : ClaimFields → Deposit → Bool
is_left c d = not (matches c d)

-- it takes none of those whose numbers are above its own
left_above : (c : ClaimFields) (before last : ℕ) (ds : List Deposit) → numbers_rise before last ds ≡ true → c.number.0 ≤ before → those (is_left c) ds ≡ ds
unfolding those
left_above c before last [] h l = refl
left_above c before last (d ∷ ds) h l =
    let (p, q, r) = rise_parts before last d ds h in
    rw (other-number c d (omega arith), left_above c d.number.0 last ds r (omega arith))

-- so with the first row taken out that it matches, those are left that it does not match
taken_out : (c : ClaimFields) (before last : ℕ) (ds : List Deposit) → numbers_rise before last ds ≡ true
    → take (index_of (matches c) ds) ds ++ drop (suc (index_of (matches c) ds)) ds ≡ those (is_left c) ds
unfolding those index_of
taken_out c before last [] h = refl
taken_out c before last (d ∷ ds) h =
    let (p, q, r) = rise_parts before last d ds h in
    go (matches c d) refl (taken_out c d.number.0 last ds r) (left_above c d.number.0 last ds r)
  where
    go : (t : Bool) → matches c d ≡ t → take (index_of (matches c) ds) ds ++ drop (suc (index_of (matches c) ds)) ds ≡ those (is_left c) ds
        → (c.number.0 ≤ d.number.0 → those (is_left c) ds ≡ ds)
        → take (cond t 0 (suc (index_of (matches c) ds))) (d ∷ ds) ++ drop (suc (cond t 0 (suc (index_of (matches c) ds)))) (d ∷ ds) ≡ cond (not t) (d ∷ those (is_left c) ds) (those (is_left c) ds)
    go true e ih above = sym (above (omega (arith, matches-number c d e)))
    go false e ih above = ap (λ (r : List Deposit). d ∷ r) ih

-- and a row that it matches has a number up to the last
found-low : (c : ClaimFields) (before last : ℕ) (ds : List Deposit) → numbers_rise before last ds ≡ true → any (matches c) ds ≡ true → c.number.0 ≤ last
unfolding any
found-low c before last [] h f = absurd (false≢true f)
found-low c before last (d ∷ ds) h f =
    let (p, q, r) = rise_parts before last d ds h in
    go (matches c d) refl f (found-low c d.number.0 last ds r) q
  where
    go : (t : Bool) → matches c d ≡ t → t || any (matches c) ds ≡ true → (any (matches c) ds ≡ true → c.number.0 ≤ last) → d.number.0 ≤ last → c.number.0 ≤ last
    go true e f ih q = omega (arith, matches-number c d e)
    go false e f ih q = ih f

-- ---- all claims
-- no claim of a number up to the last takes a deposit above it
fresh : (ks : List ClaimFields) (last : ℕ) (d : Deposit) → all (λ c. leb c.number.0 last) ks ≡ true → last < d.number.0 → is_claimed ks d ≡ false
unfolding all any
fresh [] last d h l = refl
fresh (c ∷ ks) last d h l =
    let (p, q) = both (leb c.number.0 last) (all (λ k. leb k.number.0 last) ks) h in
    rw (other-number c d (omega (arith, leb-true c.number.0 last p)), fresh ks last d q l)

-- what one claim more leaves is what it leaves of what the others left
those_twice : {A : Type 0} (p q r : A → Bool) → ((x : A) → p x ≡ q x && r x) → (xs : List A) → those p xs ≡ those r (those q xs)
unfolding those
those_twice p q r h [] = refl
those_twice {A} p q r h (x ∷ xs) = rw (h x) (go (q x) (r x) refl (those_twice p q r h xs))
  where
    go : (t u : Bool) → r x ≡ u → those p xs ≡ those r (those q xs) → cond (t && u) (x ∷ those p xs) (those p xs) ≡ those r (cond t (x ∷ those q xs) (those q xs))
    go true true e ih = rw e (ap (λ (l : List A). x ∷ l) ih)
    go true false e ih = rw e ih
    go false u e ih = ih

one_more : (ks : List ClaimFields) (c : ClaimFields) (d : Deposit) → not (is_claimed (ks ++ (c ∷ [])) d) ≡ not (is_claimed ks d) && is_left c d
unfolding any
one_more ks c d = rw (any_append (λ k. matches k d) ks (c ∷ []), or-false (matches c d)) (go (is_claimed ks d) (matches c d))
  where
    go : (t u : Bool) → not (t || u) ≡ not t && not u
    go true u = refl
    go false u = refl

-- ---- the invariant: the inbox is what was there and the deposits so far, less what the claims so far took, and no claim has a number above the last
record Left (first ds : List Deposit) (ks : List ClaimFields) (s : State) : Type 0 where
  inbox : s.inbox ≡ those (λ d. not (is_claimed ks d)) (first ++ ds)
  low : all (λ c. leb c.number.0 s.outside.last.0) ks ≡ true

module _ (first : List Deposit) where
  -- a call that neither deposits nor claims
  carried : (ds : List Deposit) (ks : List ClaimFields) (s t : State) → t.inbox ≡ s.inbox → t.outside.last ≡ s.outside.last → Left first ds ks s → Left first (ds ++ []) (ks ++ []) t
  carried ds ks s t i l h = rw (append-nil ds, append-nil ks) record { inbox = i ∙ h.inbox; low = rw l h.low }

  -- a deposit, with a number that no claim has
  left-deposit : (ds : List Deposit) (ks : List ClaimFields) (s : State) (d : Deposit) → d.number.0 ≡ s.outside.last.0 + 1 → Left first ds ks s
      → Left first (ds ++ (d ∷ [])) (ks ++ []) (effect (Call.Deposit d) s)
  unfolding effect inbox_edit edited outside_after deposited
  left-deposit ds ks s d n h =
      rw (append-nil ks)
      record {
        inbox =
            rw (h.inbox, ← append_assoc first ds (d ∷ []), those-append (λ e. not (is_claimed ks e)) (first ++ ds) (d ∷ []))
            (unfold those in rw (fresh ks s.outside.last.0 d h.low (omega arith)));
        low =
            all_imply (λ c. leb c.number.0 s.outside.last.0) (λ c. leb c.number.0 d.number.0)
            (λ c e. le-leb c.number.0 d.number.0 (omega (arith, leb-true c.number.0 s.outside.last.0 e))) ks h.low;
      }

  -- a claim, of a row of the inbox
  left-claim : (ds : List Deposit) (ks : List ClaimFields) (s : State) (c : ClaimFields) → numbers_rise 0 s.outside.last.0 s.inbox ≡ true → any (matches c) s.inbox ≡ true → Left first ds ks s
      → Left first (ds ++ []) (ks ++ (c ∷ [])) (effect (Call.Claim c) s)
  unfolding effect inbox_edit edited outside_after
  left-claim ds ks s c rise found h =
      rw (append-nil ds)
      record {
        inbox =
            taken_out c 0 s.outside.last.0 s.inbox rise
            ∙ ap (those (is_left c)) h.inbox
            ∙ sym (those_twice (λ d. not (is_claimed (ks ++ (c ∷ [])) d)) (λ d. not (is_claimed ks d)) (is_left c) (one_more ks c) (first ++ ds));
        low = rw (all_append (λ k. leb k.number.0 s.outside.last.0) ks (c ∷ []), h.low) (unfold all in rw (le-leb c.number.0 s.outside.last.0 (found-low c 0 s.outside.last.0 s.inbox rise found)));
      }

  -- every accepted call keeps it
  left-kept : (ds : List Deposit) (ks : List ClaimFields) (b : Book) (c : Call) → Accepted b c → Started b → Left first ds ks (view b)
      → Left first (ds ++ depositing b c) (ks ++ claiming b c) (effect c (view b))
  unfolding depositing claiming effect inbox_edit edited outside_after withdrawn sent settled_one
  left-kept ds ks b (Call.Deposit d) a r h =
      let k : DepositFit (view b) d = fit b (Call.Deposit d) a in
      left-deposit ds ks (view b) d k.next h
  left-kept ds ks b (Call.Claim c) a r h =
      let k : ClaimFit (view b) c = fit b (Call.Claim c) a in
      left-claim ds ks (view b) c (framed b r.frame).numbers k.found h
  left-kept ds ks b (Call.Transfer t) a r h = carried ds ks (view b) (effect (Call.Transfer t) (view b)) refl refl h
  left-kept ds ks b (Call.Withdraw w) a r h = carried ds ks (view b) (effect (Call.Withdraw w) (view b)) refl refl h
  left-kept ds ks b Call.Send a r h = carried ds ks (view b) (effect Call.Send (view b)) refl refl h
  left-kept ds ks b (Call.Settle n) a r h = carried ds ks (view b) (effect (Call.Settle n) (view b)) refl refl h
  left-kept ds ks b (Call.Grant g) a r h = carried ds ks (view b) (effect (Call.Grant g) (view b)) refl refl h
  left-kept ds ks b (Call.Sign g) a r h = carried ds ks (view b) (effect (Call.Sign g) (view b)) refl refl h
  left-kept ds ks b (Call.Trace n) a r h = carried ds ks (view b) (effect (Call.Trace n) (view b)) refl refl h

-- no claim leaves all
unclaimed_yet : (ds : List Deposit) → those (λ d. not (is_claimed [] d)) ds ≡ ds
unfolding those any
unclaimed_yet [] = refl
unclaimed_yet (d ∷ ds) = ap (λ (r : List Deposit). d ∷ r) (unclaimed_yet ds)

-- after any calls
pub unclaimed-left : (b : Book) (cs : List Call) → Started b → (view (run b cs)).inbox ≡ those (λ d. not (is_claimed (claims b cs) d)) ((view b).inbox ++ deposits b cs)
unclaimed-left b cs r = (started_keeps depositing claiming (Left (view b).inbox) (left-kept (view b).inbox) b cs r start).inbox
  where
    start : Left (view b).inbox [] [] (view b)
    start = record { inbox = sym (unclaimed_yet ((view b).inbox ++ []) ∙ append-nil (view b).inbox); low = unfold all in refl }
