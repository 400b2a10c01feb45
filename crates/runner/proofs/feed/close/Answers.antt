-- `feed::close`: behind the reply to an unfinished line comes the tally, whatever the book is.
use Rattle.runner.proofs.Closing.{closed}
use Rattle.runner.proofs.feed.close.Goals as goal

pub returns-clause-closed : goal.returns-clause-closed
returns-clause-closed c = λ b. closed _ _ _ _ _ c.requires (c.put_unfinished-tally.ensures.ended b) c.put_end.ensures.written
