use Rattle.program.proofs.Turns.{got_ok, turn_ended}
use Rattle.program.proofs.Answering.read_once.Goals as goal

pub returns-then-n-eq0 : goal.returns-then-n-eq0
returns-then-n-eq0 g c =
    let read = c.read in
    let told = c.map_err in
    let n = c.in_ok-n.n in
    turn_ended read.result n read.ensures.bound read.ensures.bytes (got_ok read.result told.result n _ told.ensures.cases told.ensures.variant c.in_ok-n.was) c.if-n-eq0.true
