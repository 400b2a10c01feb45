-- What a member sees of the inbox: the rows for the member, in order. They move as the inbox does by the calls that name the member, and by no other.
use Prim.Native.Nat.{ℕ, suc}
use mathlib.Core.Path.{◌≡◌, refl, sym, ap, ◌∙◌}
use mathlib.Core.Bool.{Bool, true, false, ◌&&◌, cond, false≢true}
use mathlib.Core.List.{List, [], ◌∷◌, ◌++◌, append-nil}
use lib.Dec.{eqb}
use lib.ListN.{take, drop}
use borrow.Author.Tests.{eqb-true}
use Rattle.promises.specs.Types.{Deposit, ClaimFields, Call}
use Rattle.rules.specs.Lists.{those, index_of}
use Rattle.rules.specs.Tables.{edited}
use Rattle.rules.specs.State.{State, Book, view}
use Rattle.rules.specs.Effects.{effect, matches, inbox_edit}
use Rattle.rules.specs.Runs.{run}
use Rattle.rules.specs.Views.{names_member, seen_by}
use Rattle.lots.proofs.ListLaws.{those-append}
use Rattle.rules.proofs.Tests.{both}
use Rattle.promises.proofs.MemberUnwinding.{member_unwound}

-- ---- lists
-- a list without the first element that passes a test
without : {A : Type 0} → (A → Bool) → List A → List A
without q xs = take (index_of q xs) xs ++ drop (suc (index_of q xs)) xs

module _ {A : Type 0} (p q : A → Bool) where
  -- if what passes q passes p, taking the first such out of all the elements, or out of those that pass p, is the same
  those_without : ((x : A) → q x ≡ true → p x ≡ true) → (xs : List A) → those p (without q xs) ≡ without q (those p xs)
  unfolding without those index_of
  those_without h [] = refl
  those_without h (x ∷ xs) = go (q x) (p x) refl refl (those_without h xs)
    where
      go : (t u : Bool) → q x ≡ t → p x ≡ u → those p (without q xs) ≡ without q (those p xs)
          → those p (take (cond t 0 (suc (index_of q xs))) (x ∷ xs) ++ drop (suc (cond t 0 (suc (index_of q xs)))) (x ∷ xs)) ≡ without q (cond u (x ∷ those p xs) (those p xs))
      go true true e f ih = rw e
      go true false e f ih = absurd (false≢true (sym f ∙ h x e))
      go false true e f ih = rw (e, f) (ap (λ (r : List A). x ∷ r) ih)
      go false false e f ih = rw f ih

  -- if what passes q does not pass p, taking it out leaves those that pass p as they are
  those_without_other : ((x : A) → q x ≡ true → p x ≡ false) → (xs : List A) → those p (without q xs) ≡ those p xs
  unfolding without those index_of
  those_without_other h [] = refl
  those_without_other h (x ∷ xs) = go (q x) refl (those_without_other h xs)
    where
      go : (t : Bool) → q x ≡ t → those p (without q xs) ≡ those p xs
          → those p (take (cond t 0 (suc (index_of q xs))) (x ∷ xs) ++ drop (suc (cond t 0 (suc (index_of q xs)))) (x ∷ xs)) ≡ cond (p x) (x ∷ those p xs) (those p xs)
      go true e ih = rw (h x e)
      go false e ih = rw ih

-- ---- the member's rows
-- a deposit that is for the member
abbrev pub is_for : ℕ → Deposit → Bool
is_for m d = eqb d.member m

-- a claim matches only deposits for its own member
pub matches-member : (c : ClaimFields) (d : Deposit) → matches c d ≡ true → d.member ≡ c.member
unfolding matches
matches-member c d h =
    let (n, r) = both (eqb d.number.0 c.number.0) (eqb d.asset c.asset && (eqb d.amount c.amount && eqb d.member c.member)) h in
    let (a, r₂) = both (eqb d.asset c.asset) (eqb d.amount c.amount && eqb d.member c.member) r in
    let (x, k) = both (eqb d.amount c.amount) (eqb d.member c.member) r₂ in
    eqb-true d.member c.member k

-- a call that names the member moves the member's rows as it moves the inbox
inbox-named : (m : ℕ) (c : Call) (inbox : List Deposit) → names_member m c ≡ true
    → those (is_for m) (edited (inbox_edit c inbox) inbox) ≡ edited (inbox_edit c (those (is_for m) inbox)) (those (is_for m) inbox)
unfolding names_member edited inbox_edit without those
inbox-named m (Call.Deposit d) inbox h = rw (those-append (is_for m) inbox (d ∷ []), h)
inbox-named m (Call.Claim c) inbox h = those_without (is_for m) (matches c) (λ d e. rw (matches-member c d e) h) inbox
inbox-named m (Call.Transfer t) inbox h = refl
inbox-named m (Call.Withdraw w) inbox h = refl
inbox-named m Call.Send inbox h = refl
inbox-named m (Call.Settle n) inbox h = refl
inbox-named m (Call.Grant g) inbox h = refl
inbox-named m (Call.Sign g) inbox h = refl
inbox-named m (Call.Trace n) inbox h = refl

-- any other call leaves them as they are
inbox-others : (m : ℕ) (c : Call) (inbox : List Deposit) → names_member m c ≡ false
    → those (is_for m) (edited (inbox_edit c inbox) inbox) ≡ those (is_for m) inbox
unfolding names_member edited inbox_edit without those
inbox-others m (Call.Deposit d) inbox h = rw (those-append (is_for m) inbox (d ∷ []), h) (append-nil (those (is_for m) inbox))
inbox-others m (Call.Claim c) inbox h = those_without_other (is_for m) (matches c) (λ d e. rw (matches-member c d e) h) inbox
inbox-others m (Call.Transfer t) inbox h = refl
inbox-others m (Call.Withdraw w) inbox h = refl
inbox-others m Call.Send inbox h = refl
inbox-others m (Call.Settle n) inbox h = refl
inbox-others m (Call.Grant g) inbox h = refl
inbox-others m (Call.Sign g) inbox h = refl
inbox-others m (Call.Trace n) inbox h = refl

-- so two runs that the member sees alike leave the member the same unclaimed deposits, in the same order
pub same-unclaimed : (m : ℕ) (b b' : Book) → those (is_for m) (view b).inbox ≡ those (is_for m) (view b').inbox → (cs cs' : List Call) → seen_by m b cs ≡ seen_by m b' cs'
    → those (is_for m) (view (run b cs)).inbox ≡ those (is_for m) (view (run b' cs')).inbox
unfolding effect
same-unclaimed m =
    member_unwound m (λ (s : State). those (is_for m) s.inbox) (λ (rows : List Deposit) (c : Call). edited (inbox_edit c rows) rows)
    (λ b c a h. inbox-named m c (view b).inbox h) (λ b c a h. inbox-others m c (view b).inbox h)
