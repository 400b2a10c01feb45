-- `put_bytes`: the first bytes of the text are on the page, and its buffer is still the one that was lent.
use Rattle.std.proofs.Common.{◌≡◌, take}
use Rattle.pages.specs.Writing.{put}
use Rattle.pages.specs.Lent.{page_of, SameBuffer}
use Rattle.pages.proofs.Page.put_bytes.Given as goal

abbrev pub invariant-loop-b : goal.invariant-loop-b
invariant-loop-b l = (page_of l.self ≡ put (page_of l.initial.self) (take l.b-index l.text)) × SameBuffer l.initial.self l.self
