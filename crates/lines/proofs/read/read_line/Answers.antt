-- `read::read_line`: the whole line, or of an over-long one the field that it tells.
use mathlib.Core.Path.{sym, ap, ◌∙◌}
use Rattle.rules.specs.Lines.{unread}
use Rattle.lines.proofs.LineLaws.{line-short, line_long}
use Rattle.lines.proofs.Held.{whole-held}
use Rattle.lines.proofs.read.read_line.Goals as goal

pub returns-then-s-gt-MOST_BYTES : goal.returns-then-s-gt-MOST_BYTES
returns-then-s-gt-MOST_BYTES c = c.unread_field.ensures ∙ ap unread (whole-held _) ∙ sym (line_long _ c.if-s-gt-MOST_BYTES.true)

pub returns : goal.returns
returns c = c.read_whole.ensures ∙ sym (line-short _ c.if-s-gt-MOST_BYTES.false)
