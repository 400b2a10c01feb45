-- How `Coincide` (`specs/Coincide.antt`) is proved of a contract: from the facts that its clauses say of each of the two results.
use mathlib.Core.Path.{◌≡◌, refl, sym, ◌∙◌}
use base.Logic.{ent, sep, id⊢, via, fst∗, snd∗}
use contract.Monad.{conj, conj_l, conj_r, fact, fact_i, fact_use}
use borrow.Fn.World.{World, Pr}
use Prim.Native.Nat.{ℕ}
use mathlib.Core.List.{List, []}
use lib.ListN.{replicate}
use Rattle.rules.specs.Types.{DepositNumber, Deposit, Payment, Answer}
use Rattle.rules.specs.Tables.{no_record}
use Rattle.rules.specs.State.{Outside, State}
use Rattle.rules.specs.Replies.{Reply, told}
use Rattle.rules.proofs.Told.{told_once, once}

module _ (w : World) where
  abbrev pub Says : Pr w → Type 0 → Type 1
  Says P φ = ent w.𝓤 P (fact w.𝓤 φ)

  -- ---- a contract of one clause, and of clauses that are joined
  pub one : {φ : Type 0} → Says (fact w.𝓤 φ) φ
  one {φ} = id⊢ w.𝓤 (fact w.𝓤 φ)

  pub joined : {P Q : Pr w} {φ ψ : Type 0} → Says P φ → Says Q ψ → Says (sep w.𝓤 P Q) (φ × ψ)
  joined {P} {Q} {φ} {ψ} f g =
      fact_use w.𝓤 φ (via w.𝓤 P (fst∗ w.𝓤 P Q) f) (λ p. fact_use w.𝓤 ψ (via w.𝓤 Q (snd∗ w.𝓤 P Q) g) (λ q. fact_i w.𝓤 (φ × ψ) (sep w.𝓤 P Q) (p, q)))

  -- ---- what follows from what is said of one result and of the other
  pub from_each : {P Q : Pr w} {φ ψ χ : Type 0} → Says P φ → Says Q ψ → (φ → ψ → χ) → Says (conj w.𝓤 P Q) χ
  from_each {P} {Q} {φ} {ψ} {χ} f g k =
      fact_use w.𝓤 φ (via w.𝓤 P (conj_l w.𝓤 P Q) f) (λ p. fact_use w.𝓤 ψ (via w.𝓤 Q (conj_r w.𝓤 P Q) g) (λ q. fact_i w.𝓤 χ (conj w.𝓤 P Q) (k p q)))

  abbrev pub Both : Type 0 → Type 0 → Type 0 → Type 1
  Both φ ψ χ = Says (conj w.𝓤 (fact w.𝓤 φ) (fact w.𝓤 ψ)) χ

  pub both : {φ ψ χ : Type 0} → (φ → ψ → χ) → Both φ ψ χ
  both = from_each one one

  -- an equation for the result, where nothing else is to be compared
  pub value : {A L : Type 0} {y r r' : A} {l : L} → Both (r ≡ y) (r' ≡ y) ((r ≡ r') × (l ≡ l))
  value = both (λ p q. (once _ p q, refl))

  -- one for what is told of it
  pub reply : {L : Type 0} {y : Reply} {r r' : Answer} {l : L} → Both (told r ≡ y) (told r' ≡ y) ((r ≡ r') × (l ≡ l))
  reply = both (λ p q. (told_once _ _ (p ∙ sym q), refl))

  -- one for what is left of the first parameter
  pub first : {A B L : Type 0} {y t t' : A} {r : B} {l : L} → Both (t ≡ y) (t' ≡ y) ((r ≡ r) × (◌≡◌ {A = A × L} (t, l) (t', l)))
  first {l = l} = both (λ p q. (refl, λ j. (once _ p q j, l)))

-- ---- tables of refusals
-- whatever a table reads, some state has it: these balances, holders and unclaimed deposits, this outside, and so many records
abbrev pub some_state : List ℕ → List ℕ → List Deposit → Outside → ℕ → State
some_state balances holders inbox outside records =
    record {
      balances = balances;
      holders = holders;
      inbox = inbox;
      outside = outside;
      history = replicate records no_record;
    }

abbrev pub some_outside : List ℕ → DepositNumber → List Payment → List Payment → Outside
some_outside lifetime last flying waiting = record { lifetime = lifetime; settled = []; last = last; next = record { 0 = 0 }; inflight = flying; waiting = waiting }

-- nothing outside
abbrev pub no_outside : Outside
no_outside = some_outside [] (record { 0 = 0 }) [] []
