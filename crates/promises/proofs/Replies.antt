-- Reply numbers: every one is its call's own, and a refused call changes nothing.
use Rattle.std.specs.Prelude.{Ok, Err}
use Prim.Native.Nat.{ℕ, zero, suc, min, ◌≤◌}
use mathlib.Core.Path.{◌≡◌, refl}
use mathlib.Core.Logic.{◌≢◌}
use mathlib.Core.Bool.{Bool, true, false, ◌||◌, cond, or-true, false≢true}
use mathlib.Core.List.{List, [], ◌∷◌, map}
use native.Mathlib.Omega.{arith}
use lib.Dec.{leb, eqb}
use borrow.Author.Tests.{leb-true, eq-eqb, eqb-true, leb-false}
use Rattle.promises.specs.Types.{Call, Line}
use Rattle.rules.specs.Lists.{all, any}
use Rattle.rules.specs.State.{Book}
use Rattle.rules.specs.Replies.{told_refusal, told, smaller, smallest}
use Rattle.rules.specs.Refusals.{refusals, fulls, trace_refusals}
use Rattle.rules.specs.Answer.{asked, frame_test, reply_number, answer}
use Rattle.rules.specs.Transcript.{answer_line}
use Rattle.promises.specs.Demand1.{possible, is_one_of}
use Rattle.promises.specs.Promises.{Numbered, Unchanged, LineAnswered}
use Rattle.rules.proofs.Tests.{both}
use Rattle.rules.proofs.Accepts.{reply-number}
use Rattle.promises.proofs.Base.{refused-leaves}
use Rattle.promises.proofs.Smallest.{number-applies, number-smallest}

-- the smallest number of a table is 0 or one of its numbers
pub smallest_own : (rs : List (ℕ × Bool)) → is_one_of (smallest rs) (0 ∷ map (λ (r : ℕ × Bool). r.0) rs) ≡ true
unfolding any smallest
smallest_own [] = refl
smallest_own (r ∷ rs) = go r.1 (smallest rs) (smallest_own rs)
  where
    rest : ℕ → Bool
    rest x = any (eqb x) (map (λ (r : ℕ × Bool). r.0) rs)

    later : (x : ℕ) → eqb x 0 || rest x ≡ true → eqb x 0 || (eqb x r.0 || rest x) ≡ true
    later x h = elim (eqb x 0) as (λ (t : Bool). t || rest x ≡ true → t || (eqb x r.0 || rest x) ≡ true) [ true ↦ λ e. e | false ↦ λ e. rw (e, or-true) ] h

    first : (x : ℕ) → x ≡ r.0 → eqb x 0 || (eqb x r.0 || rest x) ≡ true
    first x e = rw (eq-eqb x r.0 e, or-true)

    go : (t : Bool) (x : ℕ) → eqb x 0 || rest x ≡ true
        → eqb (cond t (smaller r.0 x) x) 0 || (eqb (cond t (smaller r.0 x) x) r.0 || rest (cond t (smaller r.0 x) x)) ≡ true
    go true zero h = first r.0 refl
    go true (suc x) h = split (leb r.0 (suc x)) refl
      where
        split : (t : Bool) → leb r.0 (suc x) ≡ t → eqb (min r.0 (suc x)) 0 || (eqb (min r.0 (suc x)) r.0 || rest (min r.0 (suc x))) ≡ true
        split true e = first (min r.0 (suc x)) (omega (arith, leb-true r.0 (suc x) e))
        split false e =
            let m : min r.0 (suc x) ≡ suc x = omega (arith, leb-false r.0 (suc x) e) in
            rw m (later (suc x) h)
    go false x h = later x h

-- what is one of some numbers passes every test that they all pass
pub one_passes : (p : ℕ → Bool) (n : ℕ) (ns : List ℕ) → is_one_of n ns ≡ true → all p ns ≡ true → p n ≡ true
unfolding any all
one_passes p n [] h k = absurd (false≢true h)
one_passes p n (m ∷ ns) h k = go (eqb n m) refl h (one_passes p n ns)
  where
    go : (t : Bool) → eqb n m ≡ t → t || is_one_of n ns ≡ true → (is_one_of n ns ≡ true → all p ns ≡ true → p n ≡ true) → p n ≡ true
    go true e i ih = rw (eqb-true n m e) (both (p m) (all p ns) k).0
    go false e i ih = ih i (both (p m) (all p ns) k).1

-- a call's possible numbers are 0 and those of its table
own_numbers : (b : Book) (c : Call) → 0 ∷ map (λ (r : ℕ × Bool). r.0) (asked b c) ≡ possible c
unfolding frame_test refusals fulls trace_refusals told_refusal possible
own_numbers b (Call.Deposit d) = refl
own_numbers b (Call.Claim c) = refl
own_numbers b (Call.Transfer t) = refl
own_numbers b (Call.Withdraw w) = refl
own_numbers b Call.Send = refl
own_numbers b (Call.Settle n) = refl
own_numbers b (Call.Grant g) = refl
own_numbers b (Call.Sign g) = refl
own_numbers b (Call.Trace n) = refl

-- of which none is above 21
low-numbers : (c : Call) → all (λ n. leb n 21) (possible c) ≡ true
unfolding all possible
low-numbers (Call.Deposit d) = refl
low-numbers (Call.Claim c) = refl
low-numbers (Call.Transfer t) = refl
low-numbers (Call.Withdraw w) = refl
low-numbers Call.Send = refl
low-numbers (Call.Settle n) = refl
low-numbers (Call.Grant g) = refl
low-numbers (Call.Sign g) = refl
low-numbers (Call.Trace n) = refl

-- so every reply number is one of its call's own
pub numbered : (b : Book) (c : Call) → Numbered b c
numbered b c =
    record {
      one_of_its_own = rw (reply-number b c, ← own_numbers b c) (number_own b c);
      applies = rw (reply-number b c) (number-applies b c);
      smallest = rw (reply-number b c) (number-smallest b c);
    }
  where
    number_own : (b : Book) (c : Call) → is_one_of (reply_number b c) (0 ∷ map (λ (r : ℕ × Bool). r.0) (asked b c)) ≡ true
    number_own b c = unfold reply_number in smallest_own (asked b c)

-- and none is above 21
number-low : (b : Book) (c : Call) → (answer b c).reply.number ≤ 21
number-low b c = leb-true (answer b c).reply.number 21 (one_passes (λ n. leb n 21) (answer b c).reply.number (possible c) (numbered b c).one_of_its_own (low-numbers c))

-- a refused call changes nothing, and tells nothing but its number
pub refused : (b : Book) (c : Call) → (answer b c).reply.number ≢ 0 → Unchanged b (answer b c)
refused b c h = refused-leaves b c (rw (reply-number b c) at h)

-- a line that is no call is answered 1, and changes nothing either
pub line-answered : (b : Book) (l : Line) → LineAnswered b l
unfolding answer_line told told_refusal
line-answered b (Ok c) = record { at_most = number-low b c; book = λ h. (refused b c h).book; values = λ h g. (refused b c h).values; pieces = λ h. (refused b c h).pieces }
line-answered b (Err e) = record { at_most = omega arith; book = λ h. refl; values = λ h g. absurd (g refl); pieces = λ h. refl }
