-- Any two results that a public function's contract allows coincide (`Coincide` of `rules`), refusals too.
use mathlib.Core.Path.{refl, sym, ◌∙◌}
use Rattle.rules.specs.Coincide.{Coincide}
use Rattle.rules.proofs.Told.{origin_once}
use Rattle.rules.proofs.Coincide.{both, value}
use Rattle.records.specs.contracts.record_at as record-at
use Rattle.records.specs.contracts.book_in_frame as book-in-frame
use Rattle.records.specs.contracts.frame.history_in_frame as history-in-frame
use Rattle.records.specs.contracts.origin.provenance as provenance

pub record_at_once : Coincide record-at.ended (λ M 𝓤 𝓛. record-at.clauses 𝓛)
record_at_once w x g = value w

pub book_in_frame_once : Coincide book-in-frame.ended (λ M 𝓤 𝓛. book-in-frame.clauses 𝓛)
book_in_frame_once w x g = value w

pub history_in_frame_once : Coincide history-in-frame.ended (λ M 𝓤 𝓛. history-in-frame.clauses 𝓛)
history_in_frame_once w x g = value w

pub provenance_once : Coincide provenance.ended (λ M 𝓤 𝓛. provenance.clauses 𝓛)
provenance_once w x g = both w (λ p q. (origin_once _ _ (p ∙ sym q), refl))
