-- `after_field`: the line from this place on is looked through, and what is handed back begins where the field ends. Past the line's end nothing is left.
use Prim.Native.Nat.{ℕ}
use mathlib.Core.Path.{◌≡◌, sym, ap, ◌∙◌}
use mathlib.Core.List.{[]}
use native.Mathlib.Omega.{arith}
use lib.ListN.{drop, drop_of_length-le}
use lib.Seq.{drop-nil}
use Rattle.rules.specs.Lines.{field_end, after_field}
use Rattle.fields.proofs.FieldLaws.{from_on, end_here, end_within}
use Rattle.fields.proofs.after_field.Goals as goal

pub returns-in_default : goal.returns-in_default
returns-in_default c =
    let s = c.args.s.now in
    sym (ap after_field (drop_of_length-le s {i = c.args.at} (omega (arith, c.in_default.ensures.lookup))) ∙ drop-nil (field_end []))

pub returns-in-9 : goal.returns-in-9
returns-in-9 c =
    let s = c.args.s.now in
    let at = c.args.at in
    let field = c.in-Some.field.now in
    let here : field_end field ≡ 0 = end_here field 0 (omega (arith, c.in-9.len_at_least)) (omega arith) in
    let part : field ≡ drop at s = c.in-Some.ensures.lookup.0.2 ∙ from_on s at in
    sym (ap (λ (end : ℕ). drop end field) here) ∙ ap after_field part

pub slice_bounds-result-count : goal.slice_bounds-result-count
slice_bounds-result-count c = omega (arith, c.field_end-end.ensures, end_within c.in-Some.field.now)

pub slice_bounds-result-start : goal.slice_bounds-result-start
slice_bounds-result-start c = omega (arith, c.field_end-end.ensures, end_within c.in-Some.field.now)

pub returns : goal.returns
returns c =
    let s = c.args.s.now in
    let at = c.args.at in
    let field = c.in-Some.field.now in
    let part : field ≡ drop at s = c.in-Some.ensures.lookup.0.2 ∙ from_on s at in
    from_on field c.field_end-end.result ∙ ap (λ (end : ℕ). drop end field) c.field_end-end.ensures ∙ ap after_field part
