-- One name that opens every rule at once, for what is shown by computing.
use Rattle.rules.specs.Cases.{cases, given}
use Rattle.rules.specs.Lists.{all, any, those, index_of, sum_of, joined, ands, same, bytes}
use Rattle.rules.specs.Tables.{rows_of, lay, edited}
use Rattle.rules.specs.State.{view, desk_of, laid, first_holders, empty_state, empty_book}
use Rattle.rules.specs.Replies.{told_refusal, told, told_origin, smallest}
use Rattle.rules.specs.Effects.{balance, credit, debit, balances_after, holder, holders_after, matches, inbox_edit, total, raised, oldest, deposited, withdrawn, sent, settled_one, outside_after, records_of, effect}
use Rattle.rules.specs.Refusals.{full, trace_refusals, refusals, fulls}
use Rattle.rules.specs.Frame.{numbers_rise, nonces_from, nonces_rise, in_frame}
use Rattle.rules.specs.Kinds.{numbered_kind}
use Rattle.rules.specs.History.{counted_as, provenance, names_as, statement, withdrawals, standing_from, standing_as, fits_as, replays}
use Rattle.rules.specs.Lots.{line, taken, left, lots_as, replay, trace_from}
use Rattle.rules.specs.Answer.{frame_test, reply_number, pieces_of, done_answer, answer, trace_number, trace_answer, provenance_number, provenance_answer}
use Rattle.rules.specs.Runs.{run, gather, depositing, sending, settling}
use Rattle.rules.specs.Sheet.{up_from, accepted_deposits, unclaimed_sum, balances_sum, outbox_sum, settled_sum, BalanceSheet, chain_total}
use Rattle.rules.specs.Lines.{fields_from, fields, field_end, value_after, reads_as_number, number, and_read, wanted, deposit_form, claim_form, transfer_form, withdraw_form, send_form, settle_form, grant_form, sign_form, trace_form, forms, formed, read_as, read_fields, unread, read_line, spelled, decimal, tabbed, form_of, numbers_of, write_line}
use Rattle.rules.specs.Transcript.{last_line, lines_from, input_lines, read_input, answer_line, reply_text, tallied, end_text, played, transcript}

unfoldable pub compute : Unit {0}
unfolding cases given all any those index_of sum_of joined ands bytes rows_of lay edited view desk_of laid first_holders empty_state empty_book told_refusal told told_origin smallest balance credit debit balances_after holder holders_after matches inbox_edit total raised oldest deposited withdrawn sent settled_one outside_after records_of effect full trace_refusals refusals fulls numbers_rise nonces_from nonces_rise in_frame numbered_kind counted_as provenance names_as statement withdrawals standing_from standing_as fits_as replays line taken left lots_as replay trace_from frame_test reply_number pieces_of done_answer answer trace_number trace_answer provenance_number provenance_answer run gather depositing sending settling up_from accepted_deposits unclaimed_sum balances_sum outbox_sum settled_sum BalanceSheet chain_total fields_from fields field_end value_after reads_as_number number and_read wanted deposit_form claim_form transfer_form withdraw_form send_form settle_form grant_form sign_form trace_form forms same formed read_as read_fields unread read_line spelled decimal tabbed form_of numbers_of write_line last_line lines_from input_lines read_input answer_line reply_text tallied end_text played transcript
compute = tt
