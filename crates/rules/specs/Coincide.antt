-- "any two results allowed by it coincide", of any function's contract. A contract is here what the checker makes of the source: `clauses` in the function's own module, over its signature, `ended`. So a lemma of this form speaks of the `ensures` as it stands in the source, and of nothing that was copied from it.
use Rattle.std.specs.Prelude.{◌≡◌}
use seplogic.Ra.Ura.{Ura}
use base.Logic.{SProp, ent}
use prog.Memory.{Memory}
use prog.Routine.{Routine}
use types.Logic.{Logic}
use contract.Monad.{Fun, conj, fact}
use contract.Lifetimes.{Lfts}
use denote.Triple.Entry.{Args, Res}
use denote.Triple.Clauses.{Ended, Clauses, ClausesAt, Lasts, at_exit}
use borrow.Fn.World.{World}

-- a contract, in every model of the checker's logic
abbrev pub Contract : Ended → Type 2
Contract T = (M : Type 1) (𝓤 : Ura M) → (𝓛 : Logic 𝓤) → (Memory → SProp 𝓤) → (Routine → Fun 𝓤) → Clauses 𝓤 T

-- two results for the same arguments: what is answered, and what is left of each thing that is lent by `&mut`, in the order of the parameters (of any other parameter, `tt`)
pub record Two (T : Ended) : Type 0 where
  pub lifetimes : Lfts T.signature.lifetimes
  pub args : Args T.signature lifetimes
  pub result : Res T.signature lifetimes
  pub result' : Res T.signature lifetimes
  pub left : Lasts T lifetimes args
  pub left' : Lasts T lifetimes args

module _ (T : Ended) (c : Contract T) where
  abbrev at : (w : World) (x : Two T) → ClausesAt w.𝓤 T x.lifetimes
  at w x = c w.M w.𝓤 w.𝓛 w.𝓜.mem w.𝓡.run x.lifetimes x.args

  -- where the `ensures` allows both results, they agree in what R says; what the `requires` says is not used
  abbrev pub AnyTwo : (Two T → Type 0) → Type 2
  AnyTwo R =
      (w : World) (x : Two T) (g : (at w x).ghost)
      → ent w.𝓤 (conj w.𝓤 ((at w x).ensures g x.result (at_exit T x.lifetimes x.args x.left)) ((at w x).ensures g x.result' (at_exit T x.lifetimes x.args x.left'))) (fact w.𝓤 (R x))

  -- in everything
  abbrev pub Coincide : Type 2
  Coincide = AnyTwo (λ x. (x.result ≡ x.result') × (x.left ≡ x.left'))
