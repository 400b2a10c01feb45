-- Any two results that a public function's contract allows coincide (`Coincide` of `rules`).
use Rattle.rules.specs.Coincide.{Coincide}
use Rattle.rules.proofs.Coincide.{value}
use Rattle.frames.specs.contracts.in_frame as in_frame

pub in_frame_once : Coincide in_frame.ended (λ M 𝓤 𝓛. in_frame.clauses 𝓛)
in_frame_once w x g = value w
