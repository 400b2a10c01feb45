-- What the loops over a table of lots rest on and come to.
use Rattle.std.specs.Prelude.{ℕ, ◌+◌, ◌-◌, ◌≤◌, ◌≡◌, Option, Some, None, not, cond, List, ◌++◌, leb, eqb, length, take}
use Rattle.rules.specs.declared.rows.Lot.{Lot}
use Rattle.rules.specs.Lots.{in_line, of_amount, taken, left}
use Rattle.rules.specs.Answer.{in_front}
use Rattle.takings.specs.declared.work.Taking.{Taking}
use Rattle.takings.specs.declared.work.Cut.{Cut}

-- ---- taking
abbrev pub taking_of : ℕ → ℕ → ℕ → Taking
taking_of due kept taken = record { due = due; kept = kept; taken = taken }

abbrev pub cut_into : Option Lot → Option Lot → Taking → Cut
cut_into piece rest next = record { piece = piece; rest = rest; next = next }

-- what becomes of the lot in row i: it stays, and is written again unless that is its row, or is taken whole, or is split
abbrev pub cut_none : ℕ → Lot → Taking → Cut
cut_none i l s = cut_into None (cond (eqb s.kept i) None (Some l)) (taking_of s.due (s.kept + 1) s.taken)

abbrev pub cut_whole : Lot → Taking → Cut
cut_whole l s = cut_into (Some l) None (taking_of (s.due - l.amount) s.kept (s.taken + 1))

abbrev pub cut_in_two : Lot → Taking → Cut
cut_in_two l s = cut_into (Some (of_amount s.due l)) (Some (of_amount (l.amount - s.due) l)) (taking_of 0 (s.kept + 1) (s.taken + 1))

unfoldable pub cut_of : ℕ → ℕ → ℕ → Lot → Taking → Cut
cut_of m a i l s = cond (not (in_line m a l)) (cut_none i l s) (cond (leb l.amount s.due) (cut_whole l s) (cut_in_two l s))

-- so many rows can be taken from: there are as many, and the held table has one for each
pub record CanTake (used : ℕ) (work held : List Lot) : Type 0 where
  pub few : used ≤ 1024
  pub room : used ≤ length work
  pub scratch : used ≤ length held

-- the lots that are left stand in the first rows of their table, and those that were taken in the first rows of the held table; how many of each
pub record TakesFrom (m a x used : ℕ) (work : List Lot) (t : Taking) (after held : List Lot) : Type 0 where
  pub stay : take t.kept after ≡ left m a x (take used work)
  pub wait : take t.taken held ≡ taken m a x (take used work)
  pub kept : t.kept ≡ length (left m a x (take used work))
  pub taken : t.taken ≡ length (taken m a x (take used work))

-- ---- lots that join the end: after the used rows, in this order. Every other row keeps what it had, and a lot for which there is no row is not written
unfoldable pub appended : ℕ → List Lot → List Lot → List Lot
appended used ls t = take (length t) (in_front (take used t ++ ls) t)
