use mathlib.Core.Path.{subst, ap}
use native.Mathlib.Omega.{arith}
use Rattle.rules.specs.State.{Book}
use Rattle.replays.specs.Replaying.{Traces}
use Rattle.history.proofs.Traced.{few_records, can_trace, trace_done}
use Rattle.history.proofs.trace.trace.Goals as goal

-- a short history: a table of few rows is enough
pub traced_with-count-requires : goal.traced_with-count-requires
traced_with-count-requires c =
    let a = c.args in record {
      few_rows = omega arith;
      can_trace = rw (← c.book.view_is) at (can_trace a.book.now a.work.now a.pieces.now a.n c.in_ok-reply_to.ensures 32 (omega (arith, ap (λ (b : Book). b.desk.counts.records) c.book.view_is)));
    }

-- a table of all rows is
pub traced_with-count-requires-else-records-le-SHORT : goal.traced_with-count-requires-else-records-le-SHORT
traced_with-count-requires-else-records-le-SHORT c =
    let a = c.args in record {
      few_rows = omega arith;
      can_trace = rw (← c.book.view_is) at (can_trace a.book.now a.work.now a.pieces.now a.n c.in_ok-reply_to.ensures 1024 (few_records a.book.now a.work.now a.pieces.now a.n c.in_ok-reply_to.ensures));
    }

pub returns-then-records-le-SHORT : goal.returns-then-records-le-SHORT
returns-then-records-le-SHORT c =
    let a = c.args in
    let t = c.traced_with-count in
    trace_done a.book.now a.work.now a.pieces.now a.n c.in_ok-reply_to.ensures t.result t.new.work t.new.pieces
    (subst (λ (b : Book). Traces b.history b.desk.counts.records a.n.0 a.work.now a.pieces.now t.result t.new.work t.new.pieces) c.book.view_is t.ensures)

pub returns-else-records-le-SHORT : goal.returns-else-records-le-SHORT
returns-else-records-le-SHORT c =
    let a = c.args in
    let t = c.traced_with-count-else-records-le-SHORT in
    trace_done a.book.now a.work.now a.pieces.now a.n c.in_ok-reply_to.ensures t.result t.new.work t.new.pieces
    (subst (λ (b : Book). Traces b.history b.desk.counts.records a.n.0 a.work.now a.pieces.now t.result t.new.work t.new.pieces) c.book.view_is t.ensures)
