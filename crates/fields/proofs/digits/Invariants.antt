use Prim.Native.Nat.{◌≤◌}
use mathlib.Core.Path.{◌≡◌}
use Rattle.rules.specs.Limits.{highest_field}
use Rattle.fields.specs.Reading.{digits_read}
use Rattle.fields.proofs.FieldLaws.{read_from}
use Rattle.fields.proofs.digits.Given as goal

abbrev pub invariant-loop-i : goal.invariant-loop-i
invariant-loop-i l = (l.v ≤ highest_field) × (digits_read l.s ≡ read_from l.s l.v l.i)
