use Rattle.std.proofs.Common.{◌≡◌, ◌∙◌, ◌≤◌, ◌<◌, List, ℕ, length, map, take, sym, ap₂, inl, inr, arith}
use mathlib.Core.Logic.{◌⊎◌}
use Rattle.rules.specs.declared.rows.Lot.{Lot}
use Rattle.rules.specs.Lots.{of_member}
use Rattle.takings.specs.Working.{appended}
use Rattle.takings.proofs.Appending.{joined_more, joined_end}
use Rattle.takings.proofs.work.join.Goals as goal

-- the next piece joins
pub loop-end-preserved : goal.loop-end-preserved
loop-end-preserved c =
    let i = c.loop-end.end-iterator in
    let (s, z) = c.in-Some.ensures.steps in
    let (_, r) = s in
    record {
      all = cc;
      comes = rw (r.2, c.append.ensures, r.1)
          (
          joined_more c.args.member i.a.start c.next.new.self.b.n c.in-Some.piece.now c.next.new.self.b.iter.rest.now c.loop-end.work (omega (arith, r.0, c.loop-end.invariant.all))
          ∙ ap₂ (λ (k : ℕ) (ps : List Lot). appended i.a.start (map (of_member c.args.member) (take k ps)) c.loop-end.work) z.1 (sym z.0)
          ∙ c.loop-end.invariant.comes
          );
    }

pub returns : goal.returns
returns c =
    let over : (length c.loop-end.work ≤ c.loop-end.end-iterator.a.start) ⊎ (0 < c.loop-end.end-iterator.b.n → length c.loop-end.end-iterator.b.iter.rest.now ≡ 0) = elim c.in-None.ensures.steps [ inl p ↦ inl (omega (arith, p.1.1.0, c.loop-end.invariant.all)) | inr p ↦ inr (λ h. (p.1 h).0) ] in
    sym (joined_end c.args.member c.loop-end.end-iterator.a.start c.loop-end.end-iterator.b.n c.loop-end.end-iterator.b.iter.rest.now c.loop-end.work over) ∙ c.loop-end.invariant.comes
