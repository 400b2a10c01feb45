-- `field_end`: the place of the first tab, and where there is none the part's length.
use Rattle.std.specs.List.{position}
use Rattle.std.specs.Slice.Iter.{iter_rest}
use Rattle.std.proofs.Common.{◌≡◌, arith, rules, tests}
use Rattle.std.proofs.lemmas.Grind.{common_steps}
use Rattle.std.proofs.lemmas.Iterator.{YieldsList-from_slice}
use Rattle.std.proofs.lemmas.Iterator.Search.{position_from_yields_List}
use lib.Dec.{eqb}
use Rattle.rules.specs.Lines.{tab}
use Rattle.fields.proofs.FieldLaws.{end_found, from_on}
use Rattle.fields.proofs.field_end.Goals as goal

-- what is gone through is the whole part, which is shown and not read off the code's words: a search that begins later is refused for what it finds
pub returns : goal.returns
returns c =
    let s = c.args.s.now in
    let whole : iter_rest c.iter.result ≡ s = grind (arith, common_steps, from_on) in
    let found : c.position.result ≡ position (λ b. eqb b tab) s = position_from_yields_List (λ b. eqb b tab) _ _ c.position.result c.position.ensures.ran (YieldsList-from_slice _ whole) (λ x b q k. search (rules, tests)) in
    grind (arith, c.unwrap_or.ensures, found, end_found s)
