-- Demand 3, a member: two runs that the member sees alike leave the member the same view, and the member's next call gets the same reply from both.
use Rattle.std.specs.Prelude.{Ok}
use Prim.Native.Nat.{ℕ}
use mathlib.Core.Path.{◌≡◌, refl, sym, ap, ◌∙◌}
use mathlib.Core.Bool.{Bool, true, not, false≢true}
use mathlib.Core.List.{List, ◌∷◌, ◌++◌, map}
use native.Mathlib.Omega.{arith}
use lib.Dec.{eqb}
use borrow.Author.Tests.{eqb-true}
use Rattle.promises.specs.Types.{Deposit, ClaimFields, Call, Done}
use Rattle.rules.specs.Limits.{within, asset_count, domain_count}
use Rattle.rules.specs.Lists.{all, any, those}
use Rattle.rules.specs.State.{State, Book, Empty, view}
use Rattle.rules.specs.Replies.{Reply, told_refusal, told, smallest}
use Rattle.rules.specs.Effects.{balance, matches}
use Rattle.rules.specs.History.{statement}
use Rattle.rules.specs.Refusals.{table, refusals, fulls}
use Rattle.rules.specs.Frame.{in_frame}
use Rattle.rules.specs.Answer.{frame_test, reply_number, reply_with, done_answer, answer}
use Rattle.rules.specs.Runs.{run}
use Rattle.rules.specs.Sheet.{up_from}
use Rattle.rules.specs.Views.{seen_by, shown_to, asks, has_room}
use Rattle.promises.specs.Promises.{MemberTold, NoneFull, MemberAnswered, MemberAnsweredWithRoom}
use Rattle.rules.proofs.Accepts.{reply-with, refusals-numbered}
use Rattle.promises.proofs.Lists.{any-those}
use Rattle.promises.proofs.Replies.{smallest_own, one_passes}
use Rattle.promises.proofs.NoneFull.{first-given, room-smallest, full-number}
use Rattle.promises.specs.Started.{Started}
use Rattle.promises.proofs.Base.{view_empty}
use Rattle.promises.proofs.Reached.{started_empty, started-run}
use Rattle.promises.proofs.MemberInbox.{is_for, matches-member, same-unclaimed}
use Rattle.promises.proofs.MemberDomains.{holds, same-domains}
use Rattle.promises.proofs.MemberStatement.{same-statement, same-balances}

-- two states that are the same to a member: in every balance of the member's, the rows for the member, the domains that the member holds, and the statement
record Same (m : ℕ) (s s' : State) : Type 0 where
  balances : (a : ℕ) → balance s.balances m a ≡ balance s'.balances m a
  unclaimed : those (is_for m) s.inbox ≡ those (is_for m) s'.inbox
  domains : holds m s ≡ holds m s'
  statement : statement m s.history ≡ statement m s'.history

-- as two runs leave them that start from two such states, and that the member sees alike
same_after : (m : ℕ) (b b' : Book) → Started b → Started b' → Same m (view b) (view b') → (cs cs' : List Call) → seen_by m b cs ≡ seen_by m b' cs'
    → Same m (view (run b cs)) (view (run b' cs'))
same_after m b b' r r' start cs cs' alike =
    record {
      balances = same-balances m b b' r r' start.statement cs cs' alike;
      unclaimed = same-unclaimed m b b' start.unclaimed cs cs' alike;
      domains = same-domains m b b' start.domains cs cs' alike;
      statement = same-statement m b b' start.statement cs cs' alike;
    }

-- and as any two empty books are
same_empty : (m : ℕ) (b b' : Book) → Empty b → Empty b' → Same m (view b) (view b')
same_empty m b b' e e' = rw (view_empty b e, view_empty b' e') record { balances = λ a. refl; unclaimed = refl; domains = refl; statement = refl }

same-from_empty : (m : ℕ) (b b' : Book) → Empty b → Empty b' → (cs cs' : List Call) → seen_by m b cs ≡ seen_by m b' cs' → Same m (view (run b cs)) (view (run b' cs'))
same-from_empty m b b' e e' cs cs' alike = same_after m b b' (started_empty b e) (started_empty b' e') (same_empty m b b' e e') cs cs' alike

-- they show the member the same
same_shown : (m : ℕ) (s s' : State) → Same m s s' → shown_to m s ≡ shown_to m s'
unfolding shown_to
same_shown m s s' e =
    λ i.
    record {
      balances = map (λ a. e.balances a i) (up_from 1 asset_count);
      unclaimed = e.unclaimed i;
      domains = those (λ d. e.domains i d) (up_from 1 domain_count);
      statement = e.statement i;
    }

-- demand 3, a member
pub member-told : MemberTold
member-told m b b' e e' cs cs' alike = same_shown m (view (run b cs)) (view (run b' cs')) (same-from_empty m b b' e e' cs cs' alike)

-- ---- the member's next call
-- a number that says of no table that it is full
abbrev says_not : ℕ → Bool
says_not n = not (within 16 17 n)

-- whether a claim of the member's finds its deposit is known from the rows for the member
claim-found : (m : ℕ) (c : ClaimFields) (inbox : List Deposit) → eqb c.member m ≡ true → any (matches c) inbox ≡ any (matches c) (those (is_for m) inbox)
claim-found m c inbox h = any-those (is_for m) (matches c) (λ d e. rw (matches-member c d e) h) inbox

-- two states that are the same to the member refuse the member's own call alike, but that a table is full
same-refusals : (m : ℕ) (s s' : State) → Same m s s' → (c : Call) → asks m c ≡ true → refusals s c ≡ refusals s' c
unfolding asks refusals
same-refusals m s s' e (Call.Deposit d) h = absurd (false≢true h)
same-refusals m s s' e (Call.Claim c) h = rw (claim-found m c s.inbox h, claim-found m c s'.inbox h, e.unclaimed)
same-refusals m s s' e (Call.Transfer t) h = rw (eqb-true t.from m h, e.balances t.asset)
same-refusals m s s' e (Call.Withdraw w) h = rw (eqb-true w.member m h, e.balances w.asset)
same-refusals m s s' e Call.Send h = absurd (false≢true h)
same-refusals m s s' e (Call.Settle n) h = absurd (false≢true h)
same-refusals m s s' e (Call.Grant g) h = rw (eqb-true g.from m h, ap (λ (held : ℕ → Bool). held g.domain) e.domains)
same-refusals m s s' e (Call.Sign g) h = rw (eqb-true g.member m h, ap (λ (held : ℕ → Bool). held g.domain) e.domains)
same-refusals m s s' e (Call.Trace n) h = absurd (false≢true h)

-- the reply to the member's own call, from a book in frame: its number by the two tables of refusals, and no values
reply_by_table : (m : ℕ) (b : Book) → in_frame b ≡ true → (c : Call) → asks m c ≡ true
    → (answer b c).reply ≡ reply_with (smallest (table (view b) c)) (told (Ok Done.Plain))
unfolding asks answer reply_number frame_test done_answer smallest
reply_by_table m b f (Call.Deposit d) h = absurd (false≢true h)
reply_by_table m b f (Call.Claim c) h = rw f
reply_by_table m b f (Call.Transfer t) h = rw f
reply_by_table m b f (Call.Withdraw w) h = rw f
reply_by_table m b f Call.Send h = absurd (false≢true h)
reply_by_table m b f (Call.Settle n) h = absurd (false≢true h)
reply_by_table m b f (Call.Grant g) h = rw f
reply_by_table m b f (Call.Sign g) h = rw f
reply_by_table m b f (Call.Trace n) h = absurd (false≢true h)

-- so where it does not say that a table is full, it turns on the other refusals alone
reply_aside : (m : ℕ) (b : Book) → in_frame b ≡ true → (c : Call) → asks m c ≡ true → NoneFull (answer b c).reply
    → (answer b c).reply ≡ reply_with (smallest (refusals (view b) c)) (told (Ok Done.Plain))
unfolding told
reply_aside m b f c h n =
    let rs : List (ℕ × Bool) = refusals (view b) c in
    let fs : List (ℕ × Bool) = fulls (view b) c in
    let table : (answer b c).reply ≡ reply_with (smallest (rs ++ fs)) (told (Ok Done.Plain)) = reply_by_table m b f c h in
    let number : (answer b c).reply.number ≡ smallest (rs ++ fs) = ap (λ (r : Reply). r.number) table ∙ reply-with (smallest (rs ++ fs)) (told (Ok Done.Plain)) refl in
    table
    ∙ ap (λ (k : ℕ). reply_with k (told (Ok Done.Plain))) (first-given rs fs (refusals-numbered (view b) c) (λ z e. let w = full-number (view b) c m h z in omega (arith, w.0, w.1, n.outbox, n.history)))

-- demand 3, the member's next call: both books are in frame
pub member-answered : MemberAnswered
member-answered m b b' e e' cs cs' alike c h n n' =
    reply_aside m (run b cs) (started-run b cs (started_empty b e)).frame c h n
    ∙ ap (λ (rs : List (ℕ × Bool)). reply_with (smallest rs) (told (Ok Done.Plain))) (same-refusals m (view (run b cs)) (view (run b' cs')) (same-from_empty m b b' e e' cs cs' alike) c h)
    ∙ sym (reply_aside m (run b' cs') (started-run b' cs' (started_empty b' e')).frame c h n')

-- no other refusal has the number of a full table
none_says : (m : ℕ) (s : State) (c : Call) → asks m c ≡ true → all says_not (0 ∷ map (λ (r : ℕ × Bool). r.0) (refusals s c)) ≡ true
unfolding asks refusals all told_refusal
none_says m s (Call.Deposit d) h = absurd (false≢true h)
none_says m s (Call.Claim c) h = refl
none_says m s (Call.Transfer t) h = refl
none_says m s (Call.Withdraw w) h = refl
none_says m s Call.Send h = absurd (false≢true h)
none_says m s (Call.Settle n) h = absurd (false≢true h)
none_says m s (Call.Grant g) h = refl
none_says m s (Call.Sign g) h = refl
none_says m s (Call.Trace n) h = absurd (false≢true h)

-- so where there is room, the reply says of no table that it is full
room-told : (m : ℕ) (b : Book) → in_frame b ≡ true → (c : Call) → asks m c ≡ true → has_room (view b) ≡ true → NoneFull (answer b c).reply
unfolding told
room-told m b f c h r =
    let rs : List (ℕ × Bool) = refusals (view b) c in
    let fs : List (ℕ × Bool) = fulls (view b) c in
    let given : smallest (rs ++ fs) ≡ smallest rs = first-given rs fs (refusals-numbered (view b) c) (λ z. absurd (z (room-smallest (view b) c m h r))) in
    let number : (answer b c).reply.number ≡ smallest rs =
    ap (λ (r : Reply). r.number) (reply_by_table m b f c h) ∙ reply-with (smallest (rs ++ fs)) (told (Ok Done.Plain)) refl ∙ given in
    let says : says_not (answer b c).reply.number ≡ true =
    rw number (one_passes says_not (smallest rs) (0 ∷ map (λ (x : ℕ × Bool). x.0) rs) (smallest_own rs) (none_says m (view b) c h)) in
    record { outbox = λ e. false≢true (rw e at says); history = λ e. false≢true (rw e at says) }

-- and with the demand's proviso
pub member-answered-with-room : MemberAnsweredWithRoom
member-answered-with-room m b b' e e' cs cs' alike c h r r' =
    member-answered m b b' e e' cs cs' alike c h (room-told m (run b cs) (started-run b cs (started_empty b e)).frame c h r) (room-told m (run b' cs') (started-run b' cs' (started_empty b' e')).frame c h r')
