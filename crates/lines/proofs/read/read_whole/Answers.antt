-- `read::read_whole`: the word's form reads the rest, or the word is none of the words.
use mathlib.Core.Path.{sym, ◌∙◌}
use mathlib.Core.List.{[]}
use native.Mathlib.Omega.{arith}
use Rattle.rules.specs.Lists.{any, bytes}
use Rattle.rules.specs.Lines.{form_of, deposit_form, claim_form, transfer_form, withdraw_form, send_form, settle_form, grant_form, sign_form, trace_form, forms}
use Rattle.rules.proofs.ReadBack.{alone}
use Rattle.fields.proofs.FieldLaws.{end_within}
use Rattle.lines.proofs.LineLaws.{line_form, line-none}
use Rattle.lines.proofs.read.read_whole.Goals as goal

pub split_at-requires : goal.split_at-requires
split_at-requires c = omega (arith, c.field_end.ensures, end_within c.args.s.now)

pub returns-then-word_is : goal.returns-then-word_is
unfolding bytes form_of deposit_form
returns-then-word_is c = line_form c.args.s.now c.field_end.ensures c.split_at.ensures.front c.split_at.ensures.back deposit_form (alone (deposit_form.call [])) c.word_is.ensures c.if-word_is.true c.read_deposit.ensures

pub returns-then-word_is-2 : goal.returns-then-word_is-2
unfolding bytes form_of claim_form
returns-then-word_is-2 c = line_form c.args.s.now c.field_end.ensures c.split_at.ensures.front c.split_at.ensures.back claim_form (alone (claim_form.call [])) c.word_is-2.ensures c.if-word_is-2.true c.read_claim.ensures

pub returns-then-word_is-3 : goal.returns-then-word_is-3
unfolding bytes form_of transfer_form
returns-then-word_is-3 c = line_form c.args.s.now c.field_end.ensures c.split_at.ensures.front c.split_at.ensures.back transfer_form (alone (transfer_form.call [])) c.word_is-3.ensures c.if-word_is-3.true c.read_transfer.ensures

pub returns-then-word_is-4 : goal.returns-then-word_is-4
unfolding bytes form_of withdraw_form
returns-then-word_is-4 c = line_form c.args.s.now c.field_end.ensures c.split_at.ensures.front c.split_at.ensures.back withdraw_form (alone (withdraw_form.call [])) c.word_is-4.ensures c.if-word_is-4.true c.read_withdraw.ensures

pub returns-then-word_is-5 : goal.returns-then-word_is-5
unfolding bytes form_of send_form
returns-then-word_is-5 c = line_form c.args.s.now c.field_end.ensures c.split_at.ensures.front c.split_at.ensures.back send_form (alone (send_form.call [])) c.word_is-5.ensures c.if-word_is-5.true c.read_send.ensures

pub returns-then-word_is-6 : goal.returns-then-word_is-6
unfolding bytes form_of settle_form
returns-then-word_is-6 c = line_form c.args.s.now c.field_end.ensures c.split_at.ensures.front c.split_at.ensures.back settle_form (alone (settle_form.call [])) c.word_is-6.ensures c.if-word_is-6.true c.read_settle.ensures

pub returns-then-word_is-7 : goal.returns-then-word_is-7
unfolding bytes form_of grant_form
returns-then-word_is-7 c = line_form c.args.s.now c.field_end.ensures c.split_at.ensures.front c.split_at.ensures.back grant_form (alone (grant_form.call [])) c.word_is-7.ensures c.if-word_is-7.true c.read_grant.ensures

pub returns-then-word_is-8 : goal.returns-then-word_is-8
unfolding bytes form_of sign_form
returns-then-word_is-8 c = line_form c.args.s.now c.field_end.ensures c.split_at.ensures.front c.split_at.ensures.back sign_form (alone (sign_form.call [])) c.word_is-8.ensures c.if-word_is-8.true c.read_sign.ensures

pub returns-then-word_is-9 : goal.returns-then-word_is-9
unfolding bytes form_of trace_form
returns-then-word_is-9 c = line_form c.args.s.now c.field_end.ensures c.split_at.ensures.front c.split_at.ensures.back trace_form (alone (trace_form.call [])) c.word_is-9.ensures c.if-word_is-9.true c.read_trace.ensures

pub returns : goal.returns
unfolding any bytes forms deposit_form claim_form transfer_form withdraw_form send_form settle_form grant_form sign_form trace_form
returns c = sym (line-none c.args.s.now c.field_end.ensures c.split_at.ensures.front c.split_at.ensures.back (rw (sym c.word_is.ensures ∙ c.if-word_is.false, sym c.word_is-2.ensures ∙ c.if-word_is-2.false, sym c.word_is-3.ensures ∙ c.if-word_is-3.false, sym c.word_is-4.ensures ∙ c.if-word_is-4.false, sym c.word_is-5.ensures ∙ c.if-word_is-5.false, sym c.word_is-6.ensures ∙ c.if-word_is-6.false, sym c.word_is-7.ensures ∙ c.if-word_is-7.false, sym c.word_is-8.ensures ∙ c.if-word_is-8.false, sym c.word_is-9.ensures ∙ c.if-word_is-9.false)))
