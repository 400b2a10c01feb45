use Rattle.std.proofs.Common.{rules, tests, true, false, ◌∙◌, sym}
use Rattle.std.proofs.lemmas.Iterator.{first_from_Range}
use Rattle.tables.proofs.Find.{Begins, find_outside, find_first}
use Rattle.tables.proofs.find_row.Goals as goal

pub returns-then-not-lie_within : goal.returns-then-not-lie_within
returns-then-not-lie_within c =
    let a = c.args in
    find_outside a.row.now a.n a.t.now (sym c.lie_within.ensures ∙ c.if-not-lie_within.true)

pub returns : goal.returns
returns c =
    let a = c.args in
    c.unwrap_or.ensures ∙ find_first a.row.now a.n a.t.now (sym c.lie_within.ensures ∙ c.if-not-lie_within.false) _
    (first_from_Range _ _ _ _ (Begins a.row.now a.n a.t.now true) (Begins a.row.now a.n a.t.now false) c.find.ensures.ran
    (λ x q k. search (rules, tests))
    (λ x q k. (search rules, search (rules, tests))))
