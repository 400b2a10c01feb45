-- `feed::run_some`: line after line, and wherever it stops.
use Rattle.std.proofs.Common.{arith, refl, ◌∙◌}
use Rattle.runner.proofs.Parts.{so_begun, so_more, so_full, so_ended}
use Rattle.runner.proofs.feed.run_some.Goals as goal

pub loop-next-init : goal.loop-next-init
loop-next-init c = record { so_far = so_begun _ _ _ c.requires; tables = record { desk = refl; inbox = refl; outbox = refl; history = refl }; buffer = refl }

pub loop-next-preserved : goal.loop-next-preserved
loop-next-preserved c =
    let v = c.loop-next.invariant in
    let f = c.feed_line-next.ensures in
    let t = v.tables in
    let u = f.tables in
    record {
      so_far = so_more _ _ _ _ _ _ _ _ _ v.so_far (omega (arith, c.room.ensures, c.if-room-ge-LONGEST_REPLY.true)) f.fed;
      tables = record { desk = u.desk ∙ t.desk; inbox = u.inbox ∙ t.inbox; outbox = u.outbox ∙ t.outbox; history = u.history ∙ t.history };
      buffer = f.buffer ∙ v.buffer;
    }

pub returns-else-room-ge-LONGEST_REPLY-clause-ran : goal.returns-else-room-ge-LONGEST_REPLY-clause-ran
returns-else-room-ge-LONGEST_REPLY-clause-ran c = so_full _ _ _ _ _ _ c.loop-next.invariant.so_far (omega (arith, c.room.ensures, c.if-room-ge-LONGEST_REPLY.false))

pub returns-after-loop-next-clause-ran : goal.returns-after-loop-next-clause-ran
returns-after-loop-next-clause-ran c = so_ended _ _ _ _ _ _ c.loop-next.invariant.so_far c.loop-next-test.false
