-- Any two results that a public function's contract allows coincide (`Coincide` of `rules`).
use mathlib.Core.Path.{refl, sym, ◌∙◌}
use Rattle.rules.specs.Coincide.{Coincide}
use Rattle.rules.proofs.Told.{told_once, plainly_once}
use Rattle.rules.proofs.Coincide.{both, value}
use Rattle.refusals.specs.contracts.call_reply as call-reply
use Rattle.refusals.specs.contracts.says_all as Says-All

pub call_reply_once : Coincide call-reply.ended (λ M 𝓤 𝓛. call-reply.clauses 𝓛)
call_reply_once w x g = both w (λ p q. (plainly_once (told_once _ _ (p ∙ sym q)), refl))

pub says_all_once : Coincide Says-All.ended (λ M 𝓤 𝓛. Says-All.clauses 𝓛)
says_all_once w x g = value w
