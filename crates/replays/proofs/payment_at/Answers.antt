use Rattle.std.proofs.Common.{◌∙◌, sym, rules, tests, arith}
use Rattle.std.proofs.lemmas.Iterator.{YieldsList-from_range}
use Rattle.std.proofs.lemmas.Iterator.Adapters.{option_map_id}
use Rattle.std.proofs.lemmas.Iterator.Consumers.{nth_from_yields_List, YieldsList-from_filter}
use Rattle.rules.specs.Tables.{record_shape}
use Rattle.rules.specs.History.{is_withdrawal}
use Rattle.tables.specs.Rows.{row_at}
use Rattle.replays.proofs.Payments.{payment_found}
use Rattle.replays.proofs.payment_at.Goals as goal

-- the withdrawals among the rows are passed over one by one, and the next one is the payment's: so many are passed over
-- as its number says
pub returns : goal.returns
returns c =
    let a = c.args in
    let nth = nth_from_yields_List c.nth.result c.nth.new.self _ c.nth.ensures.ran
    (YieldsList-from_filter _ (λ j. is_withdrawal (row_at record_shape j a.history.now)) (YieldsList-from_range 0 a.records a.records c.filter.ensures.source (omega arith)) c.filter.ensures.closure (λ x r q k. search (rules, tests))) in
    c.unwrap_or.ensures ∙ payment_found a.history.now a.records a.n c.nth.result (sym (option_map_id c.nth.result) ∙ nth) (omega arith)
