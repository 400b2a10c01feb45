-- Where the line feeds of a read stand, and how far a read is fed.
use Rattle.std.specs.Prelude.{ℕ, ◌-◌, ◌≤◌, ◌<◌, ◌≡◌, Bool, true, not, eqb, List, length, get_or, take}
use Rattle.rules.specs.Lists.{all}
use Rattle.rules.specs.Lines.{line_feed}
use Rattle.pages.specs.Writing.{Page, put}
use Rattle.runner.specs.Machine.{Machine, feeds, writes}

-- no line feed
abbrev pub no_feed : ℕ → Bool
no_feed b = not (eqb b line_feed)

-- the place of the first line feed of a read, or its end
pub record NextFeed (n : ℕ) (chunk : List ℕ) : Type 0 where
  pub within : n ≤ length chunk
  pub none : all no_feed (take n chunk) ≡ true
  pub feed : n < length chunk → get_or chunk n 0 ≡ line_feed

-- no byte is fed that is not there; and where there are bytes, and room for the longest reply, some are fed
pub record Moves (page : Page) (next : ℕ) (chunk : List ℕ) : Type 0 where
  pub within : next ≤ length chunk
  pub some : 0 < length chunk → 45000 ≤ length page.bytes - page.upto → 0 < next

-- the first bytes of what is left of a read are fed, up to a line feed or its end; what they write fits in the room that is kept for it
pub record FeedsLine (m : Machine) (before : Page) (rest : List ℕ) (n : ℕ) (left : Machine) (after : Page) : Type 0 where
  pub some : 0 < n
  pub within : n ≤ length rest
  pub machine : left ≡ feeds m (take n rest)
  pub page : after ≡ put before (writes m (take n rest))
  pub short : length (writes m (take n rest)) ≤ 45000
