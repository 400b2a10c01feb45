-- Any two results that a public function's contract allows coincide (`Coincide` of `rules`), refusals too.
use mathlib.Core.Path.{◌≡◌, refl, sym, ap, ◌∙◌}
use Prim.Native.Nat.{ℕ}
use mathlib.Core.List.{List, []}
use Rattle.rules.specs.Tables.{rows_of, record_shape}
use Rattle.rules.specs.State.{State}
use Rattle.rules.specs.declared.rows.Lot.{Lot}
use Rattle.rules.specs.Types.{Answer}
use Rattle.rules.specs.Coincide.{Coincide}
use Rattle.rules.specs.Answer.{TraceOutcome}
use Rattle.rules.proofs.Told.{told_once, answered_once, plainly_once}
use Rattle.rules.specs.declared.answers.Done.{Done}
use Rattle.rules.proofs.Coincide.{both, no_outside}
use Rattle.history.specs.Tracing.{trace_outcome_of}
use Rattle.history.specs.contracts.refusals.history_reply as history-reply
use Rattle.history.specs.contracts.trace.trace as trace

-- the table of refusals is said of every state that has these records
pub history_reply_once : Coincide history-reply.ended (λ M 𝓤 𝓛. history-reply.clauses 𝓛)
history_reply_once w x g =
    let s : State = record { balances = []; holders = []; inbox = []; outside = no_outside; history = rows_of record_shape x.args.1.0 x.args.0.now } in
    both w (λ p q. (plainly_once (told_once _ _ (p s refl ∙ sym (q s refl))), refl))

-- the answer, and every row of both lent tables
outcome_once : (y : TraceOutcome) {r r' : Answer} {w w' p p' : List Lot} → trace_outcome_of r w p ≡ y → trace_outcome_of r' w' p' ≡ y → (r ≡ r') × (w ≡ w') × (p ≡ p')
outcome_once y e f =
    (told_once _ _ (ap (λ (x : TraceOutcome). x.reply) (e ∙ sym f)), ap (λ (x : TraceOutcome). x.work) (e ∙ sym f), ap (λ (x : TraceOutcome). x.pieces) (e ∙ sym f))

-- how many pieces a trace has
pieces_of : Done → ℕ
pieces_of (Done.Traced count) = count
pieces_of (Done.Sent p) = 0
pieces_of Done.Plain = 0

pub trace_once : Coincide trace.ended (λ M 𝓤 𝓛. trace.clauses 𝓛)
unfolding pieces_of
trace_once w x g = both w (λ p q. let o = outcome_once _ p q in (answered_once 0 Done.Traced pieces_of (λ y. refl) o.0, λ j. (tt, (o.1 j, (o.2 j, (tt, tt))))))
