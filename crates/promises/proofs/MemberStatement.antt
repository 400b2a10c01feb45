-- What a member sees of the history: the statement. The member's balances need no simulation of their own: they are the provenance of the statement.
use Rattle.std.specs.Prelude.{Ok, Err}
use Prim.Native.Nat.{ℕ, ◌+◌, ◌-◌}
use mathlib.Core.Path.{◌≡◌, refl, sym, ap, ◌∙◌}
use mathlib.Core.Bool.{Bool, true, false, ◌&&◌, ◌||◌, cond, true≢false}
use mathlib.Core.List.{List, [], ◌∷◌, ◌++◌, append-nil}
use lib.Dec.{eqb}
use lib.Seq.{append_snoc}
use Rattle.promises.specs.Types.{Record, Call, Kind}
use Rattle.rules.specs.Lists.{those}
use Rattle.rules.specs.State.{State, Book, view}
use Rattle.rules.specs.Effects.{effect, balance, records_of}
use Rattle.rules.specs.Kinds.{AnyKind, numbered_kind}
use Rattle.rules.specs.History.{kind_of, counted, counted_as, provenance_of, names, names_as, statement}
use Rattle.rules.specs.Runs.{run}
use Rattle.rules.specs.Views.{names_member, seen_by}
use Rattle.lots.proofs.ListLaws.{those-append}
use Rattle.lots.proofs.ProvenanceLaws.{provenance-last}
use Rattle.promises.specs.Started.{Started}
use Rattle.promises.proofs.History.{provenanced}
use Rattle.promises.proofs.Reached.{started-run}
use Rattle.promises.proofs.MemberUnwinding.{member_unwound}

-- ---- the statement
-- a longer history has the longer statement
statement-append : (m : ℕ) (h rs : List Record) → statement m (h ++ rs) ≡ statement m h ++ statement m rs
unfolding statement
statement-append m h rs = those-append (names m) h rs

-- a call that does not name the member writes no record that does
unnamed_record : (m : ℕ) (c : Call) → names_member m c ≡ false → statement m (records_of c) ≡ []
unfolding names_member records_of statement those numbered_kind names_as
unnamed_record m (Call.Deposit d) h = refl
unnamed_record m (Call.Claim c) h = rw h
unnamed_record m (Call.Transfer t) h = rw h
unnamed_record m (Call.Withdraw w) h = rw h
unnamed_record m Call.Send h = refl
unnamed_record m (Call.Settle n) h = refl
unnamed_record m (Call.Grant g) h = rw h
unnamed_record m (Call.Sign g) h = refl
unnamed_record m (Call.Trace n) h = refl

-- so two runs that the member sees alike leave the member the same statement
pub same-statement : (m : ℕ) (b b' : Book) → statement m (view b).history ≡ statement m (view b').history → (cs cs' : List Call) → seen_by m b cs ≡ seen_by m b' cs'
    → statement m (view (run b cs)).history ≡ statement m (view (run b' cs')).history
unfolding effect
same-statement m =
    member_unwound m (λ (s : State). statement m s.history) (λ (st : List Record) (c : Call). st ++ statement m (records_of c))
    (λ b c a h. statement-append m (view b).history (records_of c))
    (λ b c a h. statement-append m (view b).history (records_of c) ∙ rw (unnamed_record m c h) (append-nil (statement m (view b).history)))

-- ---- provenance of the statement
-- a record that does not name the member counts nothing for the member
unnamed_counts : (k : AnyKind) (m a : ℕ) (r : Record) (n : ℕ) → names_as k m r ≡ false → counted_as k m a r n ≡ n
unfolding names_as counted_as
unnamed_counts (Ok Kind.Claim) m a r n h = rw h
unnamed_counts (Ok Kind.Transfer) m a r n h = go (eqb r.first m) (eqb r.second m) h
  where
    go : (t u : Bool) → t || u ≡ false → cond (u && eqb r.asset a) (n + r.amount) (cond (t && eqb r.asset a) (n - r.amount) n) ≡ n
    go true u e = absurd (true≢false e)
    go false u e = rw e
unnamed_counts (Ok Kind.Withdrawal) m a r n h = rw h
unnamed_counts (Ok Kind.Grant) m a r n h = refl
unnamed_counts (Err e) m a r n h = refl

-- one record more counts on what the statement gave, whether it names the member or not
provenance-one : (m a : ℕ) (h : List Record) (r : Record) → provenance_of m a (statement m (h ++ (r ∷ []))) ≡ counted m a r (provenance_of m a (statement m h))
unfolding statement those
provenance-one m a h r = ap (λ (st : List Record). provenance_of m a st) (statement-append m h (r ∷ [])) ∙ go (names m r) refl
  where
    go : (t : Bool) → names m r ≡ t → provenance_of m a (statement m h ++ cond t (r ∷ []) []) ≡ counted m a r (provenance_of m a (statement m h))
    go true e = provenance-last m a (statement m h) r
    go false e = rw append-nil (sym (unnamed_counts (kind_of r) m a r (provenance_of m a (statement m h)) e))

-- so however many more come, the statement gives what the history gives
provenance-more : (m a : ℕ) (rest h : List Record) → provenance_of m a (statement m h) ≡ provenance_of m a h → provenance_of m a (statement m (h ++ rest)) ≡ provenance_of m a (h ++ rest)
provenance-more m a [] h e = rw append-nil e
provenance-more m a (r ∷ rest) h e =
    rw (← append_snoc h r rest) (provenance-more m a rest (h ++ (r ∷ [])) (provenance-one m a h r ∙ ap (counted m a r) e ∙ sym (provenance-last m a h r)))

-- a member's provenance is that of the statement
pub provenance-statement : (m a : ℕ) (h : List Record) → provenance_of m a (statement m h) ≡ provenance_of m a h
provenance-statement m a h = provenance-more m a h [] (unfold statement those in refl)

-- ---- the balances
-- a member's balance in any asset is the provenance of the history, and so of the member's statement
balance-statement : (m : ℕ) (b : Book) → Started b → (cs : List Call) (a : ℕ) → balance (view (run b cs)).balances m a ≡ provenance_of m a (statement m (view (run b cs)).history)
balance-statement m b r cs a =
    provenanced (view (run b cs)) (started-run b cs r).agreed.replayed m a ∙ sym (provenance-statement m a (view (run b cs)).history)

-- so two runs that the member sees alike leave the member the same balances
pub same-balances : (m : ℕ) (b b' : Book) → Started b → Started b' → statement m (view b).history ≡ statement m (view b').history → (cs cs' : List Call) → seen_by m b cs ≡ seen_by m b' cs'
    → (a : ℕ) → balance (view (run b cs)).balances m a ≡ balance (view (run b' cs')).balances m a
same-balances m b b' r r' start cs cs' alike a =
    balance-statement m b r cs a ∙ ap (λ (st : List Record). provenance_of m a st) (same-statement m b b' start cs cs' alike) ∙ sym (balance-statement m b' r' cs' a)
