use Rattle.std.specs.Prelude.{Ok}
use mathlib.Core.Path.{◌≡◌}
use native.Mathlib.Omega.{arith}
use Rattle.rules.specs.declared.rows.Kind.{Kind}
use Rattle.rules.specs.History.{kind_of}
use Rattle.rules.specs.Facts.{Within}
use Rattle.records.proofs.Following.{claim_to, claim_room, claim_after, transfer_from, transfer_to, transfer_covered, transfer_room, transfer_after, withdrawal_from, withdrawal_covered, withdrawal_after, grant_domain, grant_after, none_after}
use Rattle.records.proofs.frame.Standing.follow.Goals as goal

pub cell-to-requires : goal.cell-to-requires
cell-to-requires c =
    let k : kind_of c.args.r ≡ (Ok Kind.Claim) = cc in
    claim_to c.self.inside.balances c.self.inside.holders c.args.self.now c.args.r c.self.view_is c.requires k

pub overflow_add-self : goal.overflow_add-self
overflow_add-self c =
    let k : kind_of c.args.r ≡ (Ok Kind.Claim) = cc in
    omega (arith, claim_room c.self.inside.balances c.self.inside.holders c.args.self.now c.args.r c.self.view_is c.requires k c.cell-to.result c.cell-to.ensures.is_cell)

pub returns-in-Ok-Claim : goal.returns-in-Ok-Claim
returns-in-Ok-Claim c =
    let k : kind_of c.args.r ≡ (Ok Kind.Claim) = cc in
    claim_after c.self.inside.balances c.self.inside.holders c.args.self.now c.args.r c.self.view_is c.requires k c.cell-to.result c.cell-to.ensures.is_cell

pub cell-from-requires : goal.cell-from-requires
cell-from-requires c =
    let k : kind_of c.args.r ≡ (Ok Kind.Transfer) = cc in
    transfer_from c.self.inside.balances c.self.inside.holders c.args.self.now c.args.r c.self.view_is c.requires k

pub cell-to-requires-in-Ok-Transfer : goal.cell-to-requires-in-Ok-Transfer
cell-to-requires-in-Ok-Transfer c =
    let k : kind_of c.args.r ≡ (Ok Kind.Transfer) = cc in
    transfer_to c.self.inside.balances c.self.inside.holders c.args.self.now c.args.r c.self.view_is c.requires k

pub overflow_sub-self : goal.overflow_sub-self
overflow_sub-self c =
    let k : kind_of c.args.r ≡ (Ok Kind.Transfer) = cc in
    transfer_covered c.self.inside.balances c.self.inside.holders c.args.self.now c.args.r c.self.view_is c.requires k c.cell-from.result c.cell-from.ensures.is_cell

pub overflow_add-self-in-Ok-Transfer : goal.overflow_add-self-in-Ok-Transfer
overflow_add-self-in-Ok-Transfer c =
    let k : kind_of c.args.r ≡ (Ok Kind.Transfer) = cc in
    omega (arith, transfer_room c.self.inside.balances c.self.inside.holders c.args.self.now c.args.r c.self.view_is c.requires k c.cell-from.result c.cell-to-in-Ok-Transfer.result c.cell-from.ensures.is_cell c.cell-to-in-Ok-Transfer.ensures.is_cell)

pub returns-in-Ok-Transfer : goal.returns-in-Ok-Transfer
returns-in-Ok-Transfer c =
    let k : kind_of c.args.r ≡ (Ok Kind.Transfer) = cc in
    transfer_after c.self.inside.balances c.self.inside.holders c.args.self.now c.args.r c.self.view_is c.requires k c.cell-from.result c.cell-to-in-Ok-Transfer.result c.cell-from.ensures.is_cell c.cell-to-in-Ok-Transfer.ensures.is_cell

pub cell-from-requires-in-Ok-Withdrawal : goal.cell-from-requires-in-Ok-Withdrawal
cell-from-requires-in-Ok-Withdrawal c =
    let k : kind_of c.args.r ≡ (Ok Kind.Withdrawal) = cc in
    withdrawal_from c.self.inside.balances c.self.inside.holders c.args.self.now c.args.r c.self.view_is c.requires k

pub overflow_sub-self-in-Ok-Withdrawal : goal.overflow_sub-self-in-Ok-Withdrawal
overflow_sub-self-in-Ok-Withdrawal c =
    let k : kind_of c.args.r ≡ (Ok Kind.Withdrawal) = cc in
    withdrawal_covered c.self.inside.balances c.self.inside.holders c.args.self.now c.args.r c.self.view_is c.requires k c.cell-from-in-Ok-Withdrawal.result c.cell-from-in-Ok-Withdrawal.ensures.is_cell

pub returns-in-Ok-Withdrawal : goal.returns-in-Ok-Withdrawal
returns-in-Ok-Withdrawal c =
    let k : kind_of c.args.r ≡ (Ok Kind.Withdrawal) = cc in
    withdrawal_after c.self.inside.balances c.self.inside.holders c.args.self.now c.args.r c.self.view_is c.requires k c.cell-from-in-Ok-Withdrawal.result c.cell-from-in-Ok-Withdrawal.ensures.is_cell

pub overflow_sub-domain : goal.overflow_sub-domain
overflow_sub-domain c =
    let k : kind_of c.args.r ≡ (Ok Kind.Grant) = cc in
    let d : Within 1 8 c.args.r.asset = grant_domain c.self.inside.balances c.self.inside.holders c.args.self.now c.args.r c.self.view_is c.requires k in
    omega arith

pub offset_bounds-self-inside-domain : goal.offset_bounds-self-inside-domain
offset_bounds-self-inside-domain c =
    let k : kind_of c.args.r ≡ (Ok Kind.Grant) = cc in
    let d : Within 1 8 c.args.r.asset = grant_domain c.self.inside.balances c.self.inside.holders c.args.self.now c.args.r c.self.view_is c.requires k in
    omega arith

pub bounds-self-inside-domain : goal.bounds-self-inside-domain
bounds-self-inside-domain c =
    let k : kind_of c.args.r ≡ (Ok Kind.Grant) = cc in
    let d : Within 1 8 c.args.r.asset = grant_domain c.self.inside.balances c.self.inside.holders c.args.self.now c.args.r c.self.view_is c.requires k in
    omega arith

pub returns-in-Ok-Grant : goal.returns-in-Ok-Grant
returns-in-Ok-Grant c =
    let k : kind_of c.args.r ≡ (Ok Kind.Grant) = cc in
    grant_after c.self.inside.balances c.self.inside.holders c.args.self.now c.args.r c.self.view_is c.requires k

pub returns-in-Err : goal.returns-in-Err
returns-in-Err c = none_after c.args.self.now c.args.r c.in-Err.field-0 cc
