-- `feed::answer_line`: the reply of a line that does not read.
use Rattle.runner.proofs.Answering.{malformed_page}
use Rattle.runner.proofs.feed.answer_line.Goals as goal

pub returns-in-Err-clause-page_after : goal.returns-in-Err-clause-page_after
returns-in-Err-clause-page_after c = malformed_page _ _ _ _ _ _ c.in-Err.is c.put_malformed.ensures.page_after
