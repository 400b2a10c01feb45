use Rattle.std.proofs.Common.{rules, tests, ◌∙◌}
use Rattle.std.proofs.lemmas.Iterator.{YieldsList-from_slice}
use Rattle.std.proofs.lemmas.Iterator.Search.{all_from_yields_List}
use Rattle.rules.specs.Limits.{within}
use Rattle.frames.proofs.Laws.{listed}
use Rattle.frames.proofs.all_within.Goals as goal

pub returns : goal.returns
returns c =
    let a = c.args in
    all_from_yields_List (within a.lo a.hi) _ _ _ c.all.ensures.ran (YieldsList-from_slice a.s.now cc) (λ x b q k. search (rules, tests))
    ∙ listed (within a.lo a.hi) a.s.now
