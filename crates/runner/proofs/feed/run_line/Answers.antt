-- `feed::run_line`: no count has passed the lines that were answered.
use Rattle.runner.proofs.Answering.{line_counted}
use Rattle.runner.proofs.feed.run_line.Goals as goal

pub invariant_of-session : goal.invariant_of-session
invariant_of-session c = line_counted _ _ _ _ c.session.invariant (rw (← c.session.view_is) at c.requires) c.answer_line.ensures.tally_after
