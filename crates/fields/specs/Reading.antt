-- Reading one field: what stands in the part of a line that a field reader hands back.
use Rattle.std.specs.Prelude.{ℕ, ◌+◌, ◌-◌, ◌*◌, Bool, not, ◌&&◌, cond, List, [], ◌∷◌, Option, Some, None, Result, Ok, Err, leb, length, drop}
use Rattle.rules.specs.declared.calls.FailsAt.{FailsAt}
use Rattle.rules.specs.Types.{Field}
use Rattle.rules.specs.Limits.{within, most_digits, highest_field}
use Rattle.rules.specs.Lists.{all}
use Rattle.rules.specs.Lines.{field_end, first_field, after_field, is_digit, value_after, leading_zero, failing, number}

-- the number that a value and one digit more make, if the byte is a digit and the number is one that a field can hold
unfoldable pub one_more : ℕ → ℕ → Option ℕ
one_more v b = cond (is_digit b && leb (v * 10 + (b - 48)) highest_field) (Some (v * 10 + (b - 48))) None

-- the number that a value and these digits make, on the same condition
unfoldable pub digits_after : ℕ → List ℕ → Option ℕ
digits_after v f = cond (all is_digit f && leb (value_after v f) highest_field) (Some (value_after v f)) None

-- what a number's text must be beside digits of such a value: "1 to 20", "no leading zero except `0` itself"
unfoldable pub is_shaped : List ℕ → Bool
is_shaped f = within 1 most_digits (length f) && not (leading_zero f)

-- the number of the field that follows, field k of the line. The part begins with that field's tab, which is passed over; where it is empty no field follows
unfoldable pub next_field : ℕ → List ℕ → Field
next_field k [] = failing k
next_field k (t ∷ rest) = number k (first_field rest)

-- a field's number, and the part after the field; or the field that does not read
unfoldable pub followed : Field → List ℕ → Result (ℕ × List ℕ) FailsAt
followed (Ok n) rest = Ok (n, rest)
followed (Err e) rest = Err e

-- "The field reader hands back the part of the line after the field": the number of the field that follows, and the part after that field
unfoldable pub next_read : ℕ → List ℕ → Result (ℕ × List ℕ) FailsAt
next_read k s = followed (next_field k s) (after_field (drop 1 s))

-- a value, and where its digits end
unfoldable pub placed : Option ℕ → ℕ → Option (ℕ × ℕ)
placed (Some n) end = Some (n, end)
placed None end = None

-- the value of the first field's digits, whatever the shape of its text, and where the field ends
unfoldable pub digits_read : List ℕ → Option (ℕ × ℕ)
digits_read s = placed (digits_after 0 (first_field s)) (field_end s)
