-- Rows in lent tables. A table is a flat list of numbers; its first rows are used, and the rest keep what they held.
use Rattle.std.specs.Prelude.{ℕ, zero, suc, ◌+◌, ◌-◌, ◌*◌, max, List, [], ◌∷◌, ◌++◌, length, get_or, take, drop, set, replicate}
use Rattle.rules.specs.Types.{Deposit, Payment, Record}
use Rattle.rules.specs.Lists.{joined}

-- how a kind of row lies: its width, its numbers one after the other, and the row that such numbers are read as
pub record Shape (A : Type 0) : Type 0 where
  pub width : ℕ
  pub flat : A → List ℕ
  pub row : List ℕ → A

-- the edits that a call makes to a table's rows: none, one at the end, one out, one changed
pub data Edit (A : Type 0) : Type 0 where
  keep : Edit A
  add : A → Edit A
  take_out : ℕ → Edit A
  change : ℕ → A → Edit A

module _ {A : Type 0} where
  -- the first n rows of a table
  unfoldable pub rows_of : Shape A → ℕ → List ℕ → List A
  rows_of shape zero t = []
  rows_of shape (suc n) t = shape.row (take shape.width t) ∷ rows_of shape n (drop shape.width t)

  -- a table of which n rows were used, with these rows laid in it: the rows one after the other, then zeros for each row given up, then the rest as it was
  unfoldable pub lay : Shape A → List A → ℕ → List ℕ → List ℕ
  lay shape rows n t =
      joined shape.flat rows
      ++ replicate ((n - length rows) * shape.width) 0
      ++ drop (max n (length rows) * shape.width) t

  unfoldable pub edited : Edit A → List A → List A
  edited keep rows = rows
  edited (add a) rows = rows ++ (a ∷ [])
  edited (take_out i) rows = take i rows ++ drop (suc i) rows
  edited (change i a) rows = set rows i a

  -- the edit that adds these rows, of which there is one at most
  unfoldable pub appended : List A → Edit A
  appended [] = Edit.keep
  appended (a ∷ rest) = Edit.add a

-- ---- the same edits on the flat table
-- a table with these numbers from a place on
unfoldable pub splice : ℕ → List ℕ → List ℕ → List ℕ
splice at r t = take at t ++ r ++ drop (at + length r) t

-- a table of n used rows with row i taken out: the rows after it move up, and "the last used row becomes zeros"
unfoldable pub without_row : ℕ → ℕ → ℕ → List ℕ → List ℕ
without_row width i n t =
    take (i * width) t ++ take ((n - suc i) * width) (drop (suc i * width) t) ++ replicate width 0 ++ drop (n * width) t

unfoldable pub edited_table : {A : Type 0} → Shape A → Edit A → ℕ → List ℕ → List ℕ
edited_table shape Edit.keep n t = t
edited_table shape (Edit.add a) n t = splice (n * shape.width) (shape.flat a) t
edited_table shape (Edit.take_out i) n t = without_row shape.width i n t
edited_table shape (Edit.change i a) n t = splice (i * shape.width) (shape.flat a) t

-- ---- the three kinds of row
-- number, asset, amount, member
abbrev pub deposit_shape : Shape Deposit
deposit_shape =
    record {
      width = 4;
      flat = λ d. d.number.0 ∷ d.asset ∷ d.amount ∷ d.member ∷ [];
      row = λ r. record { number = record { 0 = get_or r 0 0 }; asset = get_or r 1 0; amount = get_or r 2 0; member = get_or r 3 0 };
    }

-- asset, amount, payee, nonce
abbrev pub payment_shape : Shape Payment
payment_shape =
    record {
      width = 4;
      flat = λ p. p.asset ∷ p.amount ∷ p.payee ∷ p.nonce.0 ∷ [];
      row = λ r. record { asset = get_or r 0 0; amount = get_or r 1 0; payee = get_or r 2 0; nonce = record { 0 = get_or r 3 0 } };
    }

-- kind, asset, amount, first, second
abbrev pub record_shape : Shape Record
record_shape =
    record {
      width = 5;
      flat = λ r. r.kind ∷ r.asset ∷ r.amount ∷ r.first ∷ r.second ∷ [];
      row = λ r. record { kind = get_or r 0 0; asset = get_or r 1 0; amount = get_or r 2 0; first = get_or r 3 0; second = get_or r 4 0 };
    }

-- one of each kind, to stand where there is none: a row of no numbers, which is read as zeros
abbrev pub no_deposit : Deposit
no_deposit = deposit_shape.row []

abbrev pub no_payment : Payment
no_payment = payment_shape.row []

abbrev pub no_record : Record
no_record = record_shape.row []
