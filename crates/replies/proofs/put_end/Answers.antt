-- `put_end`: the word, two values, and the line feed.
use mathlib.Core.List.{[], ◌∷◌, ◌++◌}
use Rattle.rules.specs.Lists.{bytes}
use Rattle.rules.specs.Lines.{line_feed, tabbed}
use Rattle.rules.specs.Transcript.{end_text}
use Rattle.pages.proofs.PageLaws.{put_then}
use Rattle.replies.proofs.ReplyLaws.{put_more_values}
use Rattle.replies.proofs.put_end.Goals as goal

pub returns-clause-written : goal.returns-clause-written
unfolding bytes end_text
returns-clause-written c =
    let t = c.args.t in
    put_then _ (bytes "end" ++ tabbed (t.done ∷ t.other ∷ [])) (line_feed ∷ [])
    (put_then _ (bytes "end") (tabbed (t.done ∷ t.other ∷ [])) c.put_bytes.ensures.written (put_more_values _ t.done (t.other ∷ []) c.put_value.ensures.written c.put_value-2.ensures.written))
    c.put_line_feed.ensures.written
