use Rattle.std.proofs.Common.{rules, ◌∙◌, sym, ap, is_ok}
use Rattle.pages.specs.Lent.{page_of}
use Rattle.program.proofs.Turns.{room_keeps, page_text, front_fed, front_whole, front_short}
use Rattle.program.proofs.Answering.answer.Goals as goal

pub returns-in_err-map_err-clause-wrote : goal.returns-in_err-map_err-clause-wrote
returns-in_err-map_err-clause-wrote g c =
    let r = c.run_some-n in
    let shown = page_text (page_of c.clear.new.self) c.clear.ensures.cleared (c.written.ensures ∙ r.ensures.ran.text) in
    front_short c.loop-rest.invariant.so_far r.result _ (rw shown at c.write_all.ensures) c.from_residual.ensures.0

pub invariant_of-self : goal.invariant_of-self
invariant_of-self g c = room_keeps _ _ _ _ c.clear.ensures.cleared c.run_some-n.ensures.ran.page c.loop-rest.invariant.room

pub loop-rest-preserved : goal.loop-rest-preserved
loop-rest-preserved g c =
    let r = c.run_some-n in
    let shown = page_text (page_of c.clear.new.self) c.clear.ensures.cleared (c.written.ensures ∙ r.ensures.ran.text) in
    let went = sym c.map_err.ensures.variant ∙ ap (λ t. is_ok t) c.in_ok-map_err.was in
    record {
      room = room_keeps _ _ _ _ c.clear.ensures.cleared r.ensures.ran.page c.loop-rest.invariant.room;
      so_far = front_fed c.loop-rest.invariant.so_far r.result r.ensures.ran.machine (rw shown at c.write_all.ensures.all went);
    }

pub returns-then-is_stopped-clause-wrote : goal.returns-then-is_stopped-clause-wrote
returns-then-is_stopped-clause-wrote g c = front_whole c.loop-rest.invariant.so_far (search rules)

pub returns-clause-wrote : goal.returns-clause-wrote
returns-clause-wrote g c = front_whole c.loop-rest.invariant.so_far (search rules)
