-- Any two results that a public function's contract allows coincide (`Coincide` of `rules`).
use Rattle.std.specs.Prelude.{Err}
use mathlib.Core.Path.{◌≡◌, refl}
use Rattle.rules.specs.declared.calls.FailsAt.{FailsAt}
use Rattle.rules.specs.Types.{Line}
use Rattle.rules.specs.Coincide.{Coincide}
use Rattle.rules.proofs.Coincide.{both, value}
use Rattle.lines.specs.contracts.read.read_line as read-line
use Rattle.lines.specs.contracts.read.unread_field as unread-field

pub read_line_once : Coincide read-line.ended (λ M 𝓤 𝓛. read-line.clauses 𝓛)
read_line_once w x g = value w

-- a line that does not read tells one field
one_field : {line : Line} {e e' : FailsAt} → Err e ≡ line → Err e' ≡ line → e ≡ e'
one_field p q = cc

pub unread_field_once : Coincide unread-field.ended (λ M 𝓤 𝓛. unread-field.clauses 𝓛)
unread_field_once w x g = both w (λ p q. (one_field p q, refl))
