use mathlib.Core.Path.{ap, ◌∙◌}
use Rattle.pages.specs.Lent.{page_of}
use Rattle.steps.specs.Step.{replied}
use Rattle.steps.proofs.Steps.{plain-replied}
use Rattle.steps.proofs.step.step_done.Goals as goal

-- whichever of the eight it was, its function has done it
pub returns-in_default-clause-replied : goal.returns-in_default-clause-replied
returns-in_default-clause-replied c =
    let w = c.put_answered in
    plain-replied _ _ w.result c.args.line (page_of c.args.page.now) w.ensures.number_value w.ensures.written ∙ ap (replied c.args.line (page_of c.args.page.now)) c.call_done-done.ensures.done
