-- `next_field`: a number where the digits have one and their text has its shape.
use mathlib.Core.Path.{sym, ap, ◌∙◌}
use Rattle.fields.specs.Reading.{is_shaped}
use Rattle.fields.proofs.FieldLaws.{next-none, next-not, next_misshaped, next_shaped, end_bound, after_read}
use Rattle.fields.proofs.next_field.Goals as goal

pub returns-in_default : goal.returns-in_default
returns-in_default c = next-none _ _ c.in_default.ensures.cases

pub returns-in_default-digits : goal.returns-in_default-digits
returns-in_default-digits c = rw c.in-Some.ensures.cases.0 (next-not _ _ _ (sym c.in_default-digits.ensures))

pub split_at-requires : goal.split_at-requires
split_at-requires c = end_bound _ (sym c.in-Some-digits.ensures)

pub returns-then-is_shaped : goal.returns-then-is_shaped
returns-then-is_shaped c = rw (c.in-Some.ensures.cases.0, c.after_field-rest.ensures, after_read _ (sym c.in-Some-digits.ensures)) (next_shaped _ _ _ (sym c.in-Some-digits.ensures) (ap is_shaped (sym c.split_at.ensures.front) ∙ sym c.is_shaped.ensures ∙ c.if-is_shaped.true))

pub returns : goal.returns
returns c = rw c.in-Some.ensures.cases.0 (next_misshaped _ _ _ (sym c.in-Some-digits.ensures) (ap is_shaped (sym c.split_at.ensures.front) ∙ sym c.is_shaped.ensures ∙ c.if-is_shaped.false))
