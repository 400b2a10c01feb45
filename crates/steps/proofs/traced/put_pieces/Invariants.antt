use mathlib.Core.Path.{◌≡◌}
use lib.ListN.{take}
use Rattle.pages.specs.Writing.{put}
use Rattle.pages.specs.Lent.{page_of, SameBuffer}
use Rattle.steps.proofs.Pages.{pieces_text}
use Rattle.steps.proofs.traced.put_pieces.Given as goal

-- the pieces so far are written, in the buffer that was lent
abbrev pub invariant-loop-piece : goal.invariant-loop-piece
invariant-loop-piece l = (page_of l.page ≡ put (page_of l.initial.page) (pieces_text (take l.piece-index l.handed))) × SameBuffer l.initial.page l.page
