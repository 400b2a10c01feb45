-- A line answered: what a call comes to and what a malformed line does; and the machine after it.
use Rattle.std.proofs.Common.{Err}
use Prim.Native.Nat.{ℕ, zero, suc, ◌+◌, ◌≤◌}
use mathlib.Core.Path.{◌≡◌, refl}
use native.Mathlib.Omega.{arith}
use Rattle.rules.specs.declared.calls.FailsAt.{FailsAt}
use Rattle.rules.specs.declared.answers.Refusal.{Refusal}
use Rattle.rules.specs.declared.answers.Tally.{Tally}
use Rattle.rules.specs.Types.{Line}
use Rattle.rules.specs.State.{Book}
use Rattle.rules.specs.Replies.{told_refusal, told}
use Rattle.rules.specs.Transcript.{answer_line, reply_text, tallied}
use Rattle.pages.specs.Writing.{Page, put}
use Rattle.replies.specs.Writing.{reply_line}
use Rattle.replies.proofs.ReplyLaws.{reply-line}
use Rattle.runner.specs.Machine.{Counted}

-- ---- what a line comes to
-- a line that is none of the forms: 1 Malformed, with the field that it tells
pub malformed_text : (b : Book) (n : ℕ) (e : FailsAt) → reply_text n (answer_line b (Err e)) ≡ reply_line n (told (Err (Refusal.Malformed e.0)))
unfolding answer_line
malformed_text b n e = reply-line n (answer_line b (Err e)) refl

pub malformed_page : (b : Book) (n : ℕ) (p q : Page) (l : Line) (e : FailsAt) → l ≡ Err e → q ≡ put p (reply_line n (told (Err (Refusal.Malformed e.0)))) → q ≡ put p (reply_text n (answer_line b l))
malformed_page b n p q l e f h = rw (f, malformed_text b n e) h

pub malformed_counted : (b : Book) (e : FailsAt) → (answer_line b (Err e)).reply.number ≡ 1
unfolding answer_line told told_refusal
malformed_counted b e = refl

pub malformed_tally : (b : Book) (l : Line) (e : FailsAt) (t t' : Tally) → l ≡ Err e → t' ≡ tallied t 1 → t' ≡ tallied t (answer_line b l).reply.number
malformed_tally b l e t t' f h = rw (f, malformed_counted b e) h

-- ---- the counts after it
counted_more : (t : Tally) (n m : ℕ) → Counted t n → n ≤ 100000 → Counted (tallied t m) (n + 1)
unfolding tallied
counted_more t n zero f h = record { done = omega (arith, f.done); other = omega (arith, f.other); few = omega arith }
counted_more t n (suc m) f h = record { done = omega (arith, f.done); other = omega (arith, f.other); few = omega arith }

pub line_counted : (t t' : Tally) (n m : ℕ) → Counted t n → n ≤ 100000 → t' ≡ tallied t m → Counted t' (n + 1)
line_counted t t' n m f h e = rw e (counted_more t n m f h)
