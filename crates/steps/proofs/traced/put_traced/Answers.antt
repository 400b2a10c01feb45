use mathlib.Core.Path.{refl, ap, ◌∙◌}
use Rattle.rules.specs.Lent.{lent_book}
use Rattle.pages.specs.Writing.{put}
use Rattle.pages.specs.Lent.{page_of}
use Rattle.steps.specs.Step.{handed}
use Rattle.steps.proofs.Pages.{answer_alone}
use Rattle.steps.proofs.Steps.{trace_replied}
use Rattle.steps.proofs.traced.put_traced.Goals as goal

pub returns-in-Ok-clause-replied : goal.returns-in-Ok-clause-replied
returns-in-Ok-clause-replied c =
    let w = c.put_found in
    trace_replied (lent_book c.args.book.now) c.args.work.now c.args.pieces.now c.args.n _ c.trace.new.work c.trace.new.pieces c.requires c.in-Ok.ensures c.args.line (page_of c.args.page.now) _ _ w.ensures.number_value w.ensures.written

pub returns-in-Err-clause-replied : goal.returns-in-Err-clause-replied
unfolding handed
returns-in-Err-clause-replied c =
    let w = c.put_answered in
    trace_replied (lent_book c.args.book.now) c.args.work.now c.args.pieces.now c.args.n _ c.trace.new.work c.trace.new.pieces c.requires c.in-Err.ensures c.args.line (page_of c.args.page.now) _ _ w.ensures.number_value
    (w.ensures.written ∙ ap (put (page_of c.args.page.now)) (answer_alone c.args.line _ c.trace.new.pieces refl))
