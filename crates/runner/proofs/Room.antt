-- No reply is too long for the room that is kept for it, and where there is room a text is written whole.
use Rattle.std.specs.Prelude.{Ok, Err}
use Prim.Native.Nat.{ℕ, zero, suc, ◌+◌, ◌*◌, ◌/◌, ◌%◌, ◌≤◌}
use mathlib.Core.Path.{◌≡◌, refl}
use mathlib.Core.Bool.{Bool, true, false, cond}
use mathlib.Core.List.{List, [], ◌∷◌, ◌++◌}
use native.Mathlib.Omega.{arith}
use lib.Dec.{ltb}
use lib.ListN.{length, length-append}
use Rattle.rules.specs.declared.rows.Lot.{Lot}
use Rattle.rules.proofs.Told.{Telling, telling}
use Rattle.rules.specs.Lists.{joined, bytes}
use Rattle.rules.specs.Lines.{line_feed, tab, spelled, decimal, tabbed, unread, read_whole}
use Rattle.rules.specs.declared.calls.Call.{Call}
use Rattle.rules.specs.Types.{Line}
use Rattle.rules.specs.Types.{Answer}
use Rattle.rules.specs.declared.answers.Done.{Done}
use Rattle.rules.specs.declared.answers.Refusal.{Refusal}
use Rattle.rules.specs.State.{Book, view, history_of}
use Rattle.rules.specs.Replies.{told, if_done, told_refusal}
use Rattle.rules.specs.Answer.{Outcome, answer, reply_number, reply_with, pieces_of, done_answer}
use Rattle.rules.specs.Facts.{Accepted}
use Rattle.rules.proofs.Accepts.{by_number, accepted-frame}
use Rattle.lots.proofs.LotCounts.{pieces-count}
use Rattle.lots.proofs.TraceJoin.{records_fit}
use Rattle.rules.specs.declared.answers.Tally.{Tally}
use Rattle.rules.specs.Transcript.{piece_values, reply_text, answer_line, end_text}
use Rattle.runner.specs.Machine.{Machine, stopped, unfinished_text, at_end, closing}

-- a number has at most 20 digits
one_more : (t : Bool) (k a b : ℕ) (ds : List ℕ) → length ds ≤ k → length (cond t (a ∷ []) (ds ++ (b ∷ []))) ≤ suc k
one_more true k a b ds h = omega arith
one_more false k a b ds h = let e = length-append ds (b ∷ []) in omega arith

spelled-length : (k n : ℕ) → length (spelled k n) ≤ k
unfolding spelled
spelled-length zero n = omega arith
spelled-length (suc k) n = one_more (ltb n 10) k (48 + n) (48 + n % 10) (spelled k (n / 10)) (spelled-length k (n / 10))

decimal-length : (n : ℕ) → length (decimal n) ≤ 20
unfolding decimal
decimal-length n = spelled-length 20 n

tabbed-length : (ns : List ℕ) → length (tabbed ns) ≤ 21 * length ns
unfolding tabbed joined
tabbed-length [] = omega arith
tabbed-length (n ∷ ns) =
    let e = length-append (tab ∷ decimal n) (tabbed ns) in
    let d = decimal-length n in
    let i = tabbed-length ns in
    omega arith

pieces-length : (ls : List Lot) → length (joined piece_values ls) ≡ 2 * length ls
unfolding joined
pieces-length [] = refl
pieces-length (l ∷ ls) = let i = pieces-length ls in omega arith

line-length : (n m : ℕ) (vs : List ℕ) (ps : List Lot) → length vs ≤ 4 → length ps ≤ 1024
    → length (decimal n ++ tabbed (m ∷ vs ++ joined piece_values ps) ++ (line_feed ∷ [])) ≤ 43134
line-length n m vs ps v p =
    let x = decimal-length n in
    let y = tabbed-length ((m ∷ vs) ++ joined piece_values ps) in
    let z = length-append (m ∷ vs) (joined piece_values ps) in
    let w = pieces-length ps in
    simp (length-append) (omega (arith, x, y, z, w))

pub reply-length : (n : ℕ) (o : Outcome) → length o.reply.values ≤ 4 → length o.pieces ≤ 1024 → length (reply_text n o) ≤ 43134
unfolding reply_text
reply-length n o v p = line-length n o.reply.number o.reply.values o.pieces v p

-- ---- what a line is answered
values-few : (a : Answer) → length (told a).values ≤ 4
unfolding told
values-few (Ok Done.Plain) = omega arith
values-few (Ok (Done.Sent p)) = omega arith
values-few (Ok (Done.Traced n)) = omega arith
values-few (Err r) = go (telling r)
  where
    go : {x : Refusal} → Telling x → length (told_refusal x).values ≤ 4
    go (Telling.field k) = unfold told_refusal in omega arith
    go (Telling.alone e) = rw e (omega arith)

reply-few : (n : ℕ) (a : Answer) → length (reply_with n (told a)).values ≤ 4
reply-few zero a = values-few a
reply-few (suc n) a = omega arith

pieces-few : (b : Book) (c : Call) → Accepted b c → length (pieces_of (view b) c) ≤ 1024
unfolding pieces_of view
pieces-few b (Call.Deposit d) a = omega arith
pieces-few b (Call.Claim c) a = omega arith
pieces-few b (Call.Transfer t) a = omega arith
pieces-few b (Call.Withdraw w) a = omega arith
pieces-few b Call.Send a = omega arith
pieces-few b (Call.Settle n) a = omega arith
pieces-few b (Call.Grant g) a = omega arith
pieces-few b (Call.Sign g) a = omega arith
pieces-few b (Call.Trace n) a =
    let x = records_fit b (accepted-frame b (Call.Trace n) a) in
    let y = pieces-count (history_of b) n in
    omega arith

done-few : (n : ℕ) (ps : List Lot) → (n ≡ 0 → length ps ≤ 1024) → length (if_done n ps []) ≤ 1024
done-few zero ps h = h refl
done-few (suc n) ps h = omega arith

pub line_fits : (n : ℕ) (b : Book) (l : Line) → length (reply_text n (answer_line b l)) ≤ 43134
unfolding answer_line answer
line_fits n b (Ok c) =
    reply-length n (answer b c) (reply-few (reply_number b c) (Ok (done_answer (view b) c)))
    (done-few (reply_number b c) (pieces_of (view b) c) (λ e. pieces-few b c (by_number b c e)))
line_fits n b (Err e) = reply-length n (answer_line b (Err e)) (values-few (Err (Refusal.Malformed e.0))) (omega arith)

-- what is written at the end of the input
end_length : (t : Tally) → length (end_text t) ≤ 46
unfolding end_text bytes
end_length t =
    let x = tabbed-length (t.done ∷ t.other ∷ []) in
    let y : length (bytes "end") ≡ 3 = refl in
    simp (length-append) (omega (arith, x, y))

unfinished-fits : (held : List ℕ) (m : Machine) → length (unfinished_text held m) ≤ 43134
unfolding unfinished_text
unfinished-fits [] m = omega arith
unfinished-fits (b ∷ bs) m = line_fits m.line m.book (unread (read_whole (b ∷ bs)))

pub closing-fits : (m : Machine) → length (closing m) ≤ 45000
unfolding closing
closing-fits m = go (stopped m)
  where
    go : (t : Bool) → length (cond t [] (unfinished_text m.held m) ++ end_text (at_end m).tally) ≤ 45000
    go true = let e = end_length (at_end m).tally in omega arith
    go false =
        let e = end_length (at_end m).tally in
        let u = unfinished-fits m.held m in
        let l = length-append (unfinished_text m.held m) (end_text (at_end m).tally) in
        omega arith
