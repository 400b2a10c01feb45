-- Any two results that a public function's contract allows coincide (`Coincide` of `rules`). A table of refusals is said of every state of which its arguments are what it reads; there is such a state for all arguments.
use mathlib.Core.Path.{◌≡◌, refl, sym, ◌∙◌}
use mathlib.Core.List.{[]}
use lib.ListN.{length, length-replicate}
use Rattle.rules.specs.State.{State}
use Rattle.rules.specs.Coincide.{Coincide}
use Rattle.rules.proofs.Told.{told_once, plainly_once, outcome_once}
use Rattle.rules.proofs.Coincide.{both, some_state, no_outside}
use Rattle.ledger.specs.contracts.transfer as transfer
use Rattle.ledger.specs.contracts.transfer_done as transfer-done
use Rattle.ledger.specs.contracts.transfer_reply as transfer-reply
use Rattle.ledger.specs.contracts.grant as grant
use Rattle.ledger.specs.contracts.grant_done as grant-done
use Rattle.ledger.specs.contracts.grant_reply as grant-reply
use Rattle.ledger.specs.contracts.sign as sign
use Rattle.ledger.specs.contracts.sign_reply as sign-reply

pub transfer_once : Coincide transfer.ended (λ M 𝓤 𝓛. transfer.clauses 𝓛)
transfer_once w x g = both w (λ p q. let o = outcome_once _ p q in (plainly_once o.0, λ j. ((o.1 j).desk, (tt, (tt, ((o.1 j).history, (tt, tt)))))))

pub transfer_done_once : Coincide transfer-done.ended (λ M 𝓤 𝓛. transfer-done.clauses 𝓛)
transfer_done_once w x g = both w (λ p q. let o = outcome_once _ p q in (refl, λ j. ((o.1 j).desk, (tt, (tt, ((o.1 j).history, (tt, tt)))))))

pub transfer_reply_once : Coincide transfer-reply.ended (λ M 𝓤 𝓛. transfer-reply.clauses 𝓛)
transfer_reply_once w x g =
    let s : State = some_state x.args.0.now [] [] no_outside x.args.1.0 in
    let n : length s.history ≡ x.args.1.0 = length-replicate x.args.1.0 _ in
    both w (λ p q. (plainly_once (told_once _ _ (p s refl n ∙ sym (q s refl n))), refl))

pub grant_once : Coincide grant.ended (λ M 𝓤 𝓛. grant.clauses 𝓛)
grant_once w x g = both w (λ p q. let o = outcome_once _ p q in (plainly_once o.0, λ j. ((o.1 j).desk, (tt, (tt, ((o.1 j).history, (tt, tt)))))))

pub grant_done_once : Coincide grant-done.ended (λ M 𝓤 𝓛. grant-done.clauses 𝓛)
grant_done_once w x g = both w (λ p q. let o = outcome_once _ p q in (refl, λ j. ((o.1 j).desk, (tt, (tt, ((o.1 j).history, (tt, tt)))))))

pub grant_reply_once : Coincide grant-reply.ended (λ M 𝓤 𝓛. grant-reply.clauses 𝓛)
grant_reply_once w x g =
    let s : State = some_state [] x.args.0.now [] no_outside x.args.1.0 in
    let n : length s.history ≡ x.args.1.0 = length-replicate x.args.1.0 _ in
    both w (λ p q. (plainly_once (told_once _ _ (p s refl n ∙ sym (q s refl n))), refl))

pub sign_once : Coincide sign.ended (λ M 𝓤 𝓛. sign.clauses 𝓛)
sign_once w x g = both w (λ p q. (plainly_once (outcome_once _ p q).0, refl))

pub sign_reply_once : Coincide sign-reply.ended (λ M 𝓤 𝓛. sign-reply.clauses 𝓛)
sign_reply_once w x g =
    let s : State = some_state [] x.args.0.now [] no_outside 0 in
    both w (λ p q. (plainly_once (told_once _ _ (p s refl ∙ sym (q s refl))), refl))
