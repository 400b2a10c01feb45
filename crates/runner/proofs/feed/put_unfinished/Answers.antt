-- `feed::put_unfinished`: the runner has stopped, or no line is unfinished, or one is.
use Rattle.std.proofs.Common.{List, ℕ, sym, ap, ◌∙◌}
use Rattle.rules.specs.Lines.{unread, read_whole}
use Rattle.runner.proofs.Closing.{ended_stopped, ended_whole, ended_unfinished}
use Rattle.runner.proofs.feed.put_unfinished.Goals as goal
use Rattle.runner.proofs.feed.put_unfinished.Goals.{then-is_stopped-via-then-is_stopped, then-is_stopped-via-else-is_stopped+then-is_empty}

pub returns-then-is_stopped-clause-ended : goal.returns-then-is_stopped-clause-ended
returns-then-is_stopped-clause-ended c =
    let i = c.session.view_is in
    λ b. rw (← i)
    (elim c.then-is_stopped.branch [
      | then-is_stopped-via-then-is_stopped w ↦ ended_stopped _ _ (rw (← i) at (sym w.if-is_stopped.ensures))
      | then-is_stopped-via-else-is_stopped+then-is_empty w ↦ ended_whole _ _ (sym w.if-is_empty.ensures)
    ])

pub returns-clause-ended : goal.returns-clause-ended
returns-clause-ended c =
    let i = c.session.view_is in
    λ b. rw (← i)
    (ended_unfinished _ _ _ _ _ (rw (← i) at (sym c.if-is_stopped.ensures)) (sym c.if-is_empty.ensures) (c.unread_field-field.ensures ∙ ap (λ (s : List ℕ). unread (read_whole s)) c.as_slice.ensures)
    c.put_malformed.ensures.page_after c.put_malformed.ensures.tally_after)
