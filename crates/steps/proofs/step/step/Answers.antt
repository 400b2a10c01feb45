use mathlib.Core.Path.{sym, ap, ◌∙◌}
use Rattle.rules.specs.Lent.{lent_book}
use Rattle.pages.specs.Lent.{page_of}
use Rattle.steps.specs.Step.{replied}
use Rattle.steps.proofs.Said.{all_said, more_said}
use Rattle.steps.proofs.Steps.{plain-replied}
use Rattle.steps.proofs.step.step.Goals as goal

pub step_done-requires : goal.step_done-requires
step_done-requires c = more_said (lent_book c.args.book.now) c.args.c _ c.reply_of-answer.ensures (sym c.if-says_all.ensures)

pub returns-then-says_all-clause-replied : goal.returns-then-says_all-clause-replied
returns-then-says_all-clause-replied c =
    let w = c.put_answered in
    plain-replied _ _ w.result c.args.line (page_of c.args.page.now) w.ensures.number_value w.ensures.written
    ∙ ap (replied c.args.line (page_of c.args.page.now)) (all_said (lent_book c.args.book.now) c.args.c _ c.reply_of-answer.ensures (sym c.if-says_all.ensures))
