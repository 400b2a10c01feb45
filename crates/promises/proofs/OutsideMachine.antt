-- Demand 3, the outside: it is a small machine of its own, moved by what is seen of the accepted calls and by nothing else.
use Prim.Native.Nat.{◌-◌}
use mathlib.Core.Path.{◌≡◌, refl, sym, ap, ◌∙◌}
use mathlib.Core.List.{List, [], ◌∷◌, map, foldl}
use Rattle.promises.specs.Types.{Deposit, Payment, Call}
use Rattle.rules.specs.Limits.{asset_count}
use Rattle.rules.specs.Lists.{sum_of}
use Rattle.rules.specs.State.{State, Book, Empty, Outside, view}
use Rattle.rules.specs.Effects.{effect, deposited, withdrawn, sent, settled_one, outside_after, oldest}
use Rattle.rules.specs.Runs.{run, gather, depositing, sending, settling}
use Rattle.rules.specs.Sheet.{up_from, deposited_in, paid_in, accepted_deposits, settled_sum, chain_total}
use Rattle.rules.specs.Views.{Seen, outside_of, seen_outside, outside_view}
use Rattle.promises.specs.Promises.{OutsideTold, OutsideAgreed}
use Rattle.promises.proofs.Base.{view_empty}
use Rattle.promises.proofs.Demand3Unwinding.{shown_by, unwound}

-- what each thing seen does to the outside; of a withdrawal the member is not known, and not needed
moved_outside : Outside → Seen → Outside
moved_outside o (Seen.deposit d) = deposited d o
moved_outside o (Seen.withdrawal a x p) = withdrawn (record { member = 0; asset = a; amount = x; payee = p }) o
moved_outside o Seen.send = sent o
moved_outside o (Seen.settlement n) = settled_one o

-- a call moves the outside exactly as what is seen of it does
moves-outside : (c : Call) (o : Outside) → outside_after c o ≡ foldl moved_outside o (outside_of c)
unfolding outside_after outside_of moved_outside withdrawn
moves-outside (Call.Deposit d) o = refl
moves-outside (Call.Claim c) o = refl
moves-outside (Call.Transfer t) o = refl
moves-outside (Call.Withdraw w) o = refl
moves-outside Call.Send o = refl
moves-outside (Call.Settle n) o = refl
moves-outside (Call.Grant g) o = refl
moves-outside (Call.Sign g) o = refl
moves-outside (Call.Trace n) o = refl

-- the deposit that a thing seen brings, the payment that it sends, and the payment that it settles
deposit_seen : Outside → Seen → List Deposit
deposit_seen o (Seen.deposit d) = d ∷ []
deposit_seen o (Seen.withdrawal a x p) = []
deposit_seen o Seen.send = []
deposit_seen o (Seen.settlement n) = []

send_seen : Outside → Seen → List Payment
send_seen o (Seen.deposit d) = []
send_seen o (Seen.withdrawal a x p) = []
send_seen o Seen.send = oldest o.waiting ∷ []
send_seen o (Seen.settlement n) = []

settlement_seen : Outside → Seen → List Payment
settlement_seen o (Seen.deposit d) = []
settlement_seen o (Seen.withdrawal a x p) = []
settlement_seen o Seen.send = []
settlement_seen o (Seen.settlement n) = oldest o.inflight ∷ []

-- a call brings, sends and settles what the thing seen of it does
brings : (b : Book) (c : Call) → depositing b c ≡ shown_by moved_outside deposit_seen (view b).outside (outside_of c)
unfolding depositing outside_of shown_by deposit_seen
brings b (Call.Deposit d) = refl
brings b (Call.Claim c) = refl
brings b (Call.Transfer t) = refl
brings b (Call.Withdraw w) = refl
brings b Call.Send = refl
brings b (Call.Settle n) = refl
brings b (Call.Grant g) = refl
brings b (Call.Sign g) = refl
brings b (Call.Trace n) = refl

sends_as_seen : (b : Book) (c : Call) → sending b c ≡ shown_by moved_outside send_seen (view b).outside (outside_of c)
unfolding sending outside_of shown_by send_seen
sends_as_seen b (Call.Deposit d) = refl
sends_as_seen b (Call.Claim c) = refl
sends_as_seen b (Call.Transfer t) = refl
sends_as_seen b (Call.Withdraw w) = refl
sends_as_seen b Call.Send = refl
sends_as_seen b (Call.Settle n) = refl
sends_as_seen b (Call.Grant g) = refl
sends_as_seen b (Call.Sign g) = refl
sends_as_seen b (Call.Trace n) = refl

settles_as_seen : (b : Book) (c : Call) → settling b c ≡ shown_by moved_outside settlement_seen (view b).outside (outside_of c)
unfolding settling outside_of shown_by settlement_seen
settles_as_seen b (Call.Deposit d) = refl
settles_as_seen b (Call.Claim c) = refl
settles_as_seen b (Call.Transfer t) = refl
settles_as_seen b (Call.Withdraw w) = refl
settles_as_seen b Call.Send = refl
settles_as_seen b (Call.Settle n) = refl
settles_as_seen b (Call.Grant g) = refl
settles_as_seen b (Call.Sign g) = refl
settles_as_seen b (Call.Trace n) = refl

-- two runs from books that look the same from outside, in which the outside sees the same
module _ (b b' : Book) (start : (view b).outside ≡ (view b').outside) (cs cs' : List Call) (alike : seen_outside b cs ≡ seen_outside b' cs') where
  -- whatever the machine shows on the way is the same, and the outside part of the book at the end
  same-outside : {A : Type 0} (out : Book → Call → List A) (shown : Outside → Seen → List A)
      → ((c : Book) (d : Call) → out c d ≡ shown_by moved_outside shown (view c).outside (outside_of d))
      → ((view (run b cs)).outside ≡ (view (run b' cs')).outside) × (gather out b cs ≡ gather out b' cs')
  unfolding seen_outside effect
  same-outside out shown shows =
      unwound outside_of (λ (s : State). s.outside) out moved_outside shown (λ c d a. moves-outside d (view c).outside) (λ c d a. shows c d) b b' cs cs'
      start alike

  same_view : outside_view b cs ≡ outside_view b' cs'
  unfolding outside_view chain_total accepted_deposits settled_sum
  same_view =
      let (o, ds) = same-outside depositing deposit_seen brings in
      let ps = (same-outside sending send_seen sends_as_seen).1 in
      let ss = (same-outside settling settlement_seen settles_as_seen).1 in
      λ i.
      record {
        inflight = (o i).inflight;
        waiting = (o i).waiting;
        next = (o i).next;
        send_answers = ps i;
        settlements = ss i;
        chain_totals = map (λ a. sum_of (deposited_in a) (ds i) - sum_of (paid_in a) (ss i)) (up_from 1 asset_count);
      }

-- as any two empty books do
empty_outside : (b b' : Book) → Empty b → Empty b' → (view b).outside ≡ (view b').outside
empty_outside b b' e e' = ap (λ (s : State). s.outside) (view_empty b e ∙ sym (view_empty b' e'))

-- demand 3, the outside
pub outside_told : OutsideTold
outside_told b b' e e' = same_view b b' (empty_outside b b' e e')

pub outside-agreed : OutsideAgreed
outside-agreed b b' e e' cs cs' alike = (same-outside b b' (empty_outside b b' e e') cs cs' alike depositing deposit_seen brings).0
