use Rattle.std.proofs.Common.{arith}
use Rattle.program.proofs.Turns.{Ended, ends_short, ends_turn, ends_count, ends_whole}
use Rattle.program.proofs.Answering.answer_all.Goals.{else-loop-test, then-loop-test+in_ok-read_once+then-is_break}
use Rattle.program.proofs.Answering.answer_all.Goals as goal

pub returns-in_err-read_once : goal.returns-in_err-read_once
returns-in_err-read_once g c = ends_short c.loop.invariant _ _ c.read_once.ensures c.from_residual.ensures.0

pub returns : goal.returns
returns g c =
    let a = c.args in
    let v = c.loop in
    let t = c.loop-test in
    let ended : Ended a.self.now t.self (g.R.Read.remaining a.reader.now) (g.R.Read.remaining t.reader) (g.W.Write.contents a.writer.now) (g.W.Write.contents t.writer) =
    elim t.branch [
      | else-loop-test w ↦ rw (w.self-is, w.reader-is, w.writer-is) (ends_count v.invariant (omega (arith, w.loop-test.false)))
      | then-loop-test+in_ok-read_once+then-is_break w ↦
          rw (w.self-is, w.reader-is, w.writer-is)
          (ends_turn v.invariant w.in_ok-read_once.ensures (rw w.is_break.ensures at w.if-is_break.true) (omega (arith, c.requires, v.auto.input, w.read_once.auto.input)))
    ] in
    ends_whole ended c.finish.ensures
