-- Any two results that a public function's contract allows coincide (`Coincide` of `rules`).
use Rattle.std.specs.Prelude.{Result, Ok, Err, MatchResult}
use Prim.Native.Nat.{ℕ}
use mathlib.Core.Path.{◌≡◌, sym, ap}
use mathlib.Core.List.{List, []}
use denote.Bor.{Bor}
use Rattle.rules.specs.declared.calls.FailsAt.{FailsAt}
use Rattle.rules.specs.Coincide.{Coincide, AnyTwo}
use Rattle.rules.proofs.Told.{once}
use Rattle.rules.proofs.Coincide.{both, value}
use Rattle.fields.specs.contracts.field_end as field_end
use Rattle.fields.specs.contracts.after_field as after-field
use Rattle.fields.specs.contracts.next_field as next_field

pub field_end_once : Coincide field_end.ended (λ M 𝓤 𝓛. field_end.clauses 𝓛)
field_end_once w x g = value w

-- every byte of the part of the line that is handed back
pub after_field_once : AnyTwo after-field.ended (λ M 𝓤 𝓛. after-field.clauses 𝓛) (λ x. x.result.now ≡ x.result'.now)
after_field_once w x g = both w (once _)

-- what can be seen of a field that was read: its number and every byte of the part of the line that is handed back, or the field that does not read
abbrev pub seen : Result (ℕ × Bor (List ℕ)) FailsAt → Result (ℕ × List ℕ) FailsAt
seen (Ok read) = Ok (read.0, read.1.now)
seen (Err e) = Err e

seen_lem : (told : Result (ℕ × List ℕ) FailsAt) (r : Result (ℕ × Bor (List ℕ)) FailsAt) → MatchResult r (λ read. told ≡ Ok (read.0, read.1.now)) (λ e. told ≡ Err e) → seen r ≡ told
seen_lem told (Ok read) h = sym h
seen_lem told (Err e) h = sym h

pub next_field_once : AnyTwo next_field.ended (λ M 𝓤 𝓛. next_field.clauses 𝓛) (λ x. seen x.result ≡ seen x.result')
next_field_once w x g = both w (λ p q. once _ (seen_lem _ x.result p) (seen_lem _ x.result' q))

-- so every byte of the part that is handed back is the same
abbrev pub part : Result (ℕ × List ℕ) FailsAt → List ℕ
part (Ok read) = read.1
part (Err e) = []

pub part_once : AnyTwo next_field.ended (λ M 𝓤 𝓛. next_field.clauses 𝓛) (λ x. part (seen x.result) ≡ part (seen x.result'))
part_once w x g = both w (λ p q. ap part (once _ (seen_lem _ x.result p) (seen_lem _ x.result' q)))
