use mathlib.Core.Path.{◌∙◌}
use Rattle.std.proofs.Common.{rules, tests}
use Rattle.std.proofs.lemmas.Iterator.Search.{all_from_yields_List}
use Rattle.rules.specs.Limits.{within}
use Rattle.rules.specs.Lists.{all}
use Rattle.frames.proofs.Eights.{all_eights, YieldsList-from_eights}
use Rattle.frames.proofs.balances_in_frame.Goals as goal

pub returns : goal.returns
returns c =
    let b = c.args.b.now in
    all_from_yields_List (all (within 0 1000000000000000)) _ _ _ c.all.ensures.ran (YieldsList-from_eights 16 b c.chunks_exact.ensures.rest c.chunks_exact.ensures.size c.told-b) (λ x b q k. search (rules, tests))
    ∙ all_eights (within 0 1000000000000000) 16 b c.told-b
