-- Lines: what is written is one reply for each, then the tally.
use Prim.Native.Nat.{ℕ, zero, suc, ◌+◌}
use mathlib.Core.Path.{◌≡◌, refl, ap, ◌∙◌}
use mathlib.Core.Bool.{Bool, true, false, not, cond}
use mathlib.Core.List.{List, [], ◌∷◌, ◌++◌, append_assoc}
use native.Mathlib.Nat.{add-zero, zero-add}
use native.Mathlib.Omega.{arith}
use lib.Dec.{eqb, eqb-suc-zero}
use lib.ListN.{length}
use Rattle.promises.specs.Types.{Tally}
use Rattle.rules.specs.Lists.{those}
use Rattle.rules.specs.State.{Book, empty_book}
use Rattle.rules.specs.Answer.{Outcome}
use Rattle.rules.specs.Transcript.{InputLine, input_lines, read_input, answer_line, reply_text, tallied, end_text, played, transcript}
use Rattle.promises.specs.Demand1.{outcomes, reply_texts, done_count, other_count, answered}
use Rattle.promises.specs.Promises.{Answers}
use Rattle.promises.proofs.LineFeeds.{feeds-append, one_line, end_line, reply-lines}

-- ---- lines
-- the two counts of a tally that goes on from another
abbrev after : Tally → List Outcome → Tally
after t os = record { done = t.done + done_count os; other = t.other + other_count os }

-- one reply more in front
tally-first : (t : Tally) (o : Outcome) (os : List Outcome) → after (tallied t o.reply.number) os ≡ after t (o ∷ os)
unfolding tallied done_count other_count those
tally-first t o os = go o.reply.number
  where
    is_done : Outcome → Bool
    is_done o = eqb o.reply.number 0

    is_other : Outcome → Bool
    is_other o = not (eqb o.reply.number 0)

    tally_path : (d d' e e' : ℕ) → d ≡ d' → e ≡ e' → ◌≡◌ {A = Tally} (record { done = d; other = e }) (record { done = d'; other = e' })
    tally_path d d' e e' p q = rw (p, q)

    go : (n : ℕ)
        → after (tallied t n) os
        ≡ record {
          done = t.done + length (cond (eqb n 0) (o ∷ those is_done os) (those is_done os));
          other = t.other + length (cond (not (eqb n 0)) (o ∷ those is_other os) (those is_other os));
        }
    go zero = tally_path _ _ _ _ (omega arith) refl
    go (suc n) = rw (eqb-suc-zero n) (tally_path _ _ _ _ refl (omega arith))

-- what is written is the replies' texts and then the tally
played-text : (n : ℕ) (b : Book) (t : Tally) (ls : List InputLine)
    → played n b t ls ≡ reply_texts n (outcomes b ls) ++ end_text (after t (outcomes b ls))
unfolding played outcomes reply_texts done_count other_count those
played-text n b t [] = rw (add-zero t.done, add-zero t.other)
played-text n b t (l ∷ ls) =
    let o : Outcome = answer_line b (read_input l) in
    rw (
      played-text (n + 1) o.book (tallied t o.reply.number) ls,
      tally-first t o (outcomes o.book ls),
      append_assoc (reply_text n o) (reply_texts (n + 1) (outcomes o.book ls)) (end_text (after t (o ∷ outcomes o.book ls))),
    )

-- of two opposite tests every element passes one
counts-sum : (os : List Outcome) → done_count os + other_count os ≡ length os
unfolding done_count other_count those
counts-sum [] = refl
counts-sum (o ∷ os) = go (eqb o.reply.number 0) (counts-sum os)
  where
    go : (t : Bool) → done_count os + other_count os ≡ length os
        → length (cond t (o ∷ those (λ o. eqb o.reply.number 0) os) (those (λ o. eqb o.reply.number 0) os))
        + length (cond (not t) (o ∷ those (λ o. not (eqb o.reply.number 0)) os) (those (λ o. not (eqb o.reply.number 0)) os))
        ≡ suc (length os)
    go true ih = omega arith
    go false ih = omega arith

-- each line gets one outcome
length-outcomes : (b : Book) (ls : List InputLine) → length (outcomes b ls) ≡ length ls
unfolding outcomes
length-outcomes b [] = refl
length-outcomes b (l ∷ ls) = ap suc (length-outcomes (answer_line b (read_input l)).book ls)

-- the whole of what is written
transcript-text : (input : List ℕ) → transcript input ≡ reply_texts 1 (answered input) ++ end_text (record { done = done_count (answered input); other = other_count (answered input) })
unfolding transcript
transcript-text input =
    rw (zero-add (done_count (answered input)), zero-add (other_count (answered input))) at (played-text 1 empty_book (record { done = 0; other = 0 }) (input_lines input))

-- what the book runner writes
pub answers : (input : List ℕ) → Answers input
answers input =
    let l : length (answered input) ≡ length (input_lines input) = length-outcomes empty_book (input_lines input) in
    let tally : Tally = record { done = done_count (answered input); other = other_count (answered input) } in
    record {
      text = transcript-text input;
      one_each = l;
      tally = counts-sum (answered input) ∙ l;
      one_line = one_line;
      lines = rw (transcript-text input, feeds-append (reply_texts 1 (answered input)) (end_text tally), reply-lines 1 (answered input), end_line tally, l);
    }
