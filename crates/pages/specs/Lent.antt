-- A page that is lent, as it stands, and that its buffer is still the same.
use Rattle.std.specs.Prelude.{◌≡◌}
use Rattle.pages.specs.declared.Page.{Page as LentPage}
use Rattle.pages.specs.Writing.{Page, page}

abbrev pub page_of : LentPage → Page
page_of p = page p.bytes.now p.upto

-- the buffer is still the one that was lent
abbrev pub SameBuffer : LentPage → LentPage → Type 0
SameBuffer old new = new.bytes.ghost_name ≡ old.bytes.ghost_name

-- two pages in one buffer, with the same bytes and the same place
abbrev pub SamePage : LentPage → LentPage → Type 0
SamePage p q = (page_of p ≡ page_of q) × SameBuffer p q
