-- Any two results that a public function's contract allows coincide (`Coincide` of `rules`).
use mathlib.Core.Path.{refl}
use Rattle.rules.specs.Coincide.{Coincide}
use Rattle.rules.proofs.Told.{once}
use Rattle.rules.proofs.Coincide.{both, value, first}
use Rattle.tables.specs.contracts.put_row as put-row
use Rattle.tables.specs.contracts.take_out as take_out
use Rattle.tables.specs.contracts.find_row as find-row
use Rattle.tables.specs.contracts.rows.put as put
use Rattle.tables.specs.contracts.rows.get as get
use Rattle.tables.specs.contracts.rows.Row.put_at as put-at
use Rattle.tables.specs.contracts.rows.Row.get_at as get_at

pub put_row_once : Coincide put-row.ended (λ M 𝓤 𝓛. put-row.clauses 𝓛)
put_row_once w x g = first w

pub take_out_once : Coincide take_out.ended (λ M 𝓤 𝓛. take_out.clauses 𝓛)
take_out_once w x g = first w

pub find_row_once : Coincide find-row.ended (λ M 𝓤 𝓛. find-row.clauses 𝓛)
find_row_once w x g = value w

-- at every type of row
module _ (R : _) (row : _) (row-dict : _) (clone : _) (clone-dict : _) where
  pub put_once : Coincide (put.ended R row row-dict clone clone-dict) (λ M 𝓤 𝓛. put.clauses R row row-dict clone clone-dict 𝓛)
  put_once w x g = first w

  pub get_once : Coincide (get.ended R row row-dict clone clone-dict) (λ M 𝓤 𝓛. get.clauses R row row-dict clone clone-dict 𝓛)
  get_once w x g = value w

  pub put_at_once : Coincide (put-at.ended R row row-dict clone clone-dict) (λ M 𝓤 𝓛. put-at.clauses R row row-dict clone clone-dict 𝓛)
  put_at_once w x g = both w (λ p q. (refl, λ j. (x.left.0, (once _ p q j, x.left.1.1))))

  pub get_at_once : Coincide (get_at.ended R row row-dict clone clone-dict) (λ M 𝓤 𝓛. get_at.clauses R row row-dict clone clone-dict 𝓛)
  get_at_once w x g = value w
