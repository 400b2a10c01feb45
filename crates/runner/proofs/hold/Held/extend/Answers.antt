-- `hold::Held::extend`: what there is room for, put behind what is held.
use Rattle.std.proofs.Common.{List, ℕ, ap, ◌∙◌}
use Rattle.runner.specs.Machine.{holds}
use Rattle.runner.proofs.Held.{extended, extended_rest}
use Rattle.runner.proofs.hold.Held.extend.Goals as goal

pub returns : goal.returns
returns c =
    let s = c.self in
    extended s.inside.bytes c.args.part.now _ s.inside.len c.min-n.result s.told s.invariant.few c.min-n.ensures c.copy_from_slice.ensures.after
    ∙ ap (λ (t : List ℕ). holds t c.args.part.now) s.view_is

pub invariant_of-self : goal.invariant_of-self
invariant_of-self c =
    let s = c.self in
    extended_rest s.inside.bytes c.args.part.now _ s.inside.len c.min-n.result s.invariant c.min-n.ensures c.copy_from_slice.ensures.after
