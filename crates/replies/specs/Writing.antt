-- What is written on a page for a reply: its line, piece by piece.
use Rattle.std.specs.Prelude.{ℕ, List, [], ◌∷◌, ◌++◌}
use Rattle.rules.specs.Replies.{Reply}
use Rattle.rules.specs.Lines.{line_feed, decimal, tabbed}

-- "line number and reply number", and the values that come after them: a reply's line up to its pieces
unfoldable pub reply_start : ℕ → Reply → List ℕ
reply_start n r = decimal n ++ tabbed (r.number ∷ r.values)

-- the line of a reply without pieces
unfoldable pub reply_line : ℕ → Reply → List ℕ
reply_line n r = reply_start n r ++ (line_feed ∷ [])
