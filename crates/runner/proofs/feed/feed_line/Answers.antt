-- `feed::feed_line`: passed over, held or answered.
use Rattle.std.proofs.Common.{sym, ap}
use Rattle.rules.specs.Lent.{lent_book}
use Rattle.runner.specs.Machine.{Progress, machine_with}
use Rattle.runner.proofs.Parts.{turn_stopped, turn_held, turn_line}
use Rattle.runner.proofs.feed.feed_line.Goals as goal

pub returns-then-is_stopped-clause-fed : goal.returns-then-is_stopped-clause-fed
returns-then-is_stopped-clause-fed c = turn_stopped _ _ _ c.requires (sym c.if-is_stopped.ensures)

pub returns-then-end-rest-clause-fed : goal.returns-then-end-rest-clause-fed
returns-then-end-rest-clause-fed c =
    turn_held _ _ _ _ c.requires (sym c.if-is_stopped.ensures) c.feed_at-end.ensures c.if-end-rest.true _ (ap (λ (s : Progress). machine_with s (lent_book c.args.book.now)) c.hold.ensures)

pub returns-clause-fed : goal.returns-clause-fed
returns-clause-fed c = turn_line _ _ _ _ (sym c.if-is_stopped.ensures) c.feed_at-end.ensures c.if-end-rest.false _ _ c.run_line.ensures.machine c.run_line.ensures.text
