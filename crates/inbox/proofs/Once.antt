-- Any two results that a public function's contract allows coincide (`Coincide` of `rules`). A table of refusals is said of every state of which its arguments are what it reads; there is such a state for all arguments.
use mathlib.Core.Path.{◌≡◌, refl, sym, ◌∙◌}
use mathlib.Core.Bool.{Bool, true, false, cond}
use mathlib.Core.List.{List, [], ◌∷◌}
use borrow.Author.Tests.{eq-eqb}
use lib.ListN.{length, replicate, length-replicate}
use Rattle.rules.specs.declared.rows.Deposit.{Deposit}
use Rattle.rules.specs.declared.calls.ClaimFields.{ClaimFields}
use Rattle.rules.specs.Lists.{any}
use Rattle.rules.specs.Tables.{no_deposit}
use Rattle.rules.specs.State.{State}
use Rattle.rules.specs.Effects.{matches}
use Rattle.rules.specs.Coincide.{Coincide}
use Rattle.rules.proofs.Told.{told_once, plainly_once, outcome_once}
use Rattle.rules.proofs.Coincide.{both, value, some_state, some_outside, no_outside}
use Rattle.inbox.specs.After.{deposit_of}
use Rattle.inbox.specs.contracts.deposit as deposit
use Rattle.inbox.specs.contracts.deposit_done as deposit-done
use Rattle.inbox.specs.contracts.deposit_reply as deposit-reply
use Rattle.inbox.specs.contracts.claim as claim
use Rattle.inbox.specs.contracts.claim_done as claim-done
use Rattle.inbox.specs.contracts.claim_reply as claim-reply
use Rattle.inbox.specs.contracts.is_unclaimed as is-unclaimed

pub deposit_once : Coincide deposit.ended (λ M 𝓤 𝓛. deposit.clauses 𝓛)
deposit_once w x g = both w (λ p q. let o = outcome_once _ p q in (plainly_once o.0, λ j. ((o.1 j).desk, ((o.1 j).inbox, (tt, (tt, (tt, tt)))))))

pub deposit_done_once : Coincide deposit-done.ended (λ M 𝓤 𝓛. deposit-done.clauses 𝓛)
deposit_done_once w x g = both w (λ p q. let o = outcome_once _ p q in (refl, λ j. ((o.1 j).desk, ((o.1 j).inbox, (tt, (tt, (tt, tt)))))))

pub deposit_reply_once : Coincide deposit-reply.ended (λ M 𝓤 𝓛. deposit-reply.clauses 𝓛)
deposit_reply_once w x g =
    let s : State = some_state [] [] (replicate x.args.1.1.0 no_deposit) (some_outside x.args.0.now x.args.1.0 [] []) 0 in
    let n : length (replicate x.args.1.1.0 no_deposit) ≡ x.args.1.1.0 = length-replicate x.args.1.1.0 no_deposit in
    both w (λ p q. (plainly_once (told_once _ _ (p s refl refl n ∙ sym (q s refl refl n))), refl))

pub claim_once : Coincide claim.ended (λ M 𝓤 𝓛. claim.clauses 𝓛)
claim_once w x g = both w (λ p q. let o = outcome_once _ p q in (plainly_once o.0, λ j. ((o.1 j).desk, ((o.1 j).inbox, (tt, ((o.1 j).history, (tt, tt)))))))

pub claim_done_once : Coincide claim-done.ended (λ M 𝓤 𝓛. claim-done.clauses 𝓛)
claim_done_once w x g = both w (λ p q. let o = outcome_once _ p q in (refl, λ j. ((o.1 j).desk, ((o.1 j).inbox, (tt, ((o.1 j).history, (tt, tt)))))))

-- an inbox in which the claimed deposit waits, or does not
waiting : Bool → ClaimFields → List Deposit
waiting t c = cond t (deposit_of c ∷ []) []

waits : (t : Bool) (c : ClaimFields) → any (matches c) (waiting t c) ≡ t
unfolding any matches waiting
waits true c = rw (eq-eqb c.number.0 c.number.0 refl, eq-eqb c.asset c.asset refl, eq-eqb c.amount c.amount refl, eq-eqb c.member c.member refl)
waits false c = refl

pub claim_reply_once : Coincide claim-reply.ended (λ M 𝓤 𝓛. claim-reply.clauses 𝓛)
claim_reply_once w x g =
    let s : State = some_state [] [] (waiting x.args.0 x.args.1.1.0) no_outside x.args.1.0 in
    both w (λ p q. (plainly_once (told_once _ _ (p s (waits x.args.0 x.args.1.1.0) (length-replicate _ _) ∙ sym (q s (waits x.args.0 x.args.1.1.0) (length-replicate _ _)))), refl))

pub is_unclaimed_once : Coincide is-unclaimed.ended (λ M 𝓤 𝓛. is-unclaimed.clauses 𝓛)
is_unclaimed_once w x g = value w
