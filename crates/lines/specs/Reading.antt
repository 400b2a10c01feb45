-- Reading one field after another: so many numbers, and nothing after the last.
use Rattle.std.specs.Prelude.{ℕ, List}
use Rattle.rules.specs.Lines.{fields_after, Numbers, wanted}

-- so many numbers from field k on, in a part that a field reader handed back
unfoldable pub wanted_in : ℕ → ℕ → List ℕ → Numbers
wanted_in k n s = wanted k n (fields_after s)
