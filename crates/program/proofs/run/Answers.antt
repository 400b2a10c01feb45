use Rattle.std.proofs.Common.{◌≡◌, refl, replicate}
use Rattle.rules.specs.declared.desk.Desk.{Desk}
use Rattle.rules.specs.State.{empty_book}
use Rattle.rules.specs.Answer.{book_of}
use Rattle.runner.specs.Machine.{Progress, machine_with, begun, begun_desk, start}
use Rattle.program.specs.Turns.{Session}
use Rattle.program.proofs.Turns.{session-transcript}
use Rattle.program.proofs.run.Goals as goal

-- tables of zeros are those of the empty book
begins : (d : Desk) {p : Progress} → d ≡ begun_desk → p ≡ begun → machine_with p (book_of d (replicate 256 0) (replicate 128 0) (replicate 5120 0)) ≡ start
unfolding start empty_book
begins d e h = rw (e, h) refl

pub returns : goal.returns
returns g c =
    let had = g.R.Read.remaining c.args.reader.now in
    let left = g.R.Read.remaining c.answer_all-all.new.reader in
    let before = g.W.Write.contents c.args.writer.now in
    let after = g.W.Write.contents c.answer_all-all.new.writer in
    let begun = begins c.empty_desk-desk.result c.empty_desk-desk.ensures c.new.ensures in
    let s : Session start had left before after c.is_ok.result = rw (c.is_ok.ensures.value, ← begun) c.answer_all-all.ensures in
    record { session = s; transcript = session-transcript had left before after c.is_ok.result s }
