-- What the functions over a flat table do on every table: where the rows do not lie within it, nothing.
use Rattle.std.specs.Prelude.{ℕ, ◌+◌, ◌-◌, ◌*◌, Bool, ◌&&◌, cond, List, ◌++◌, leb, ltb, length, take, drop, replicate}
use Rattle.rules.specs.Lists.{same, index_of}
use Rattle.rules.specs.Tables.{Shape, rows_of, splice, without_row}

-- rows of a width, as bare numbers
abbrev pub bare : ℕ → Shape (List ℕ)
bare w = record { width = w; flat = λ r. r; row = λ r. r }

-- the row of this shape whose numbers lie from a place of a table on
abbrev pub row_from : {A : Type 0} → Shape A → ℕ → List ℕ → A
row_from shape at t = shape.row (take shape.width (drop at t))

-- row i of a table of rows of this shape
abbrev pub row_at : {A : Type 0} → Shape A → ℕ → List ℕ → A
row_at shape i t = row_from shape (i * shape.width) t

-- the first n numbers of a list, with zeros for those that it does not have
abbrev pub padded : ℕ → List ℕ → List ℕ
padded n t = take n t ++ replicate (n - length t) 0

-- so many rows lie within the table
abbrev pub lie_within : ℕ → ℕ → List ℕ → Bool
lie_within w n t = leb (n * w) (length t)

-- these numbers from a place on, if they lie within the table
unfoldable pub put_at : ℕ → List ℕ → List ℕ → List ℕ
put_at at r t = cond (leb (at + length r) (length t)) (splice at r t) t

-- row i of n taken out, if there is one
unfoldable pub taken_out : ℕ → ℕ → ℕ → List ℕ → List ℕ
taken_out w i n t = cond (lie_within w n t && ltb i n) (without_row w i n t) t

-- the place of the first of n rows with just these numbers, as wide as a row is; n where there is none, or the rows do not lie within the table
unfoldable pub place_of : List ℕ → ℕ → List ℕ → ℕ
place_of r n t = cond (lie_within (length r) n t) (index_of (same r) (rows_of (bare (length r)) n t)) n
