-- A field that reads as a number is that number's own digits: no number is written in two ways.
use Rattle.std.specs.Prelude.{Ok}
use Prim.Native.Nat.{ℕ, suc, ◌+◌, ◌-◌, ◌*◌, ◌/◌, ◌%◌, ◌≤◌}
use mathlib.Core.Path.{◌≡◌, refl, ap, ◌∙◌}
use mathlib.Core.Bool.{Bool, true, false, not, ◌&&◌, cond, false≢true}
use mathlib.Core.List.{List, [], ◌∷◌, ◌++◌, append-nil}
use native.Mathlib.Omega.{arith}
use lib.Dec.{leb, ltb, eqb}
use lib.ListN.{length}
use lib.Seq.{append_snoc}
use borrow.Author.Tests.{lt-ltb, le-ltb, eqb-false, not-true}
use Rattle.rules.specs.Limits.{within, highest_field}
use Rattle.rules.specs.Lists.{all}
use Rattle.rules.specs.Lines.{is_digit, value_after, leading_zero, reads_as_number, number, spelled, decimal, failing}
use Rattle.rules.specs.Facts.{Within}
use Rattle.rules.proofs.Tests.{both, within_true}

-- the byte of a digit is spelled by itself
spelled-one : (k b : ℕ) → Within 48 57 b → spelled (suc k) (b - 48) ≡ b ∷ []
unfolding spelled
spelled-one k b h =
    let e : 48 + (b - 48) ≡ b = omega arith in
    rw (lt-ltb (b - 48) 10 (omega arith), e)

-- one digit more, behind a number that is not 0
spelled-more : (k v b : ℕ) → 1 ≤ v → Within 48 57 b → spelled (suc k) (v * 10 + (b - 48)) ≡ spelled k v ++ (b ∷ [])
unfolding spelled
spelled-more k v b h d =
    let tenth : (v * 10 + (b - 48)) / 10 ≡ v = omega arith in
    let last : 48 + (v * 10 + (b - 48)) % 10 ≡ b = omega arith in
    rw (le-ltb (v * 10 + (b - 48)) 10 (omega arith), tenth, last)

-- so digits behind it go on spelling
spelled_on : (k v : ℕ) (bs : List ℕ) → 1 ≤ v → all is_digit bs ≡ true → spelled (k + length bs) (value_after v bs) ≡ spelled k v ++ bs
unfolding all value_after
spelled_on k v [] h d =
    let e : k + 0 ≡ k = omega arith in
    rw (e, append-nil (spelled k v))
spelled_on k v (b ∷ bs) h d =
    let (p, q) = both (is_digit b) (all is_digit bs) d in
    let w : Within 48 57 b = within_true 48 57 b p in
    let e : k + suc (length bs) ≡ suc k + length bs = omega arith in
    rw (e, spelled_on (suc k) (v * 10 + (b - 48)) bs (omega arith) q, spelled-more k v b h w) (append_snoc (spelled k v) b bs)

-- a digit, and digits behind it unless it is 0: as many as a field can have
spelled-all : (b : ℕ) (bs : List ℕ) → length (b ∷ bs) ≤ 20 → Within 48 57 b → all is_digit bs ≡ true → not (leading_zero (b ∷ bs)) ≡ true → decimal (value_after 0 (b ∷ bs)) ≡ b ∷ bs
unfolding decimal value_after
spelled-all b [] l w d z =
    let e : 0 * 10 + (b - 48) ≡ b - 48 = omega arith in
    rw e (spelled-one 19 b w)
spelled-all b (c ∷ cs) l w d z =
    let e : 0 * 10 + (b - 48) ≡ b - 48 = omega arith in
    let k : 20 ≡ suc (19 - length (c ∷ cs)) + length (c ∷ cs) = omega arith in
    let other : eqb b 48 ≡ false = not-true (eqb b 48) (unled (eqb b 48) (ltb 1 (length (b ∷ c ∷ cs))) z (lt-ltb 1 (length (b ∷ c ∷ cs)) (omega arith))) in
    let some : 1 ≤ b - 48 = omega (arith, eqb-false b 48 other) in
    rw e
    (ap (λ (n : ℕ). spelled n (value_after (b - 48) (c ∷ cs))) k
    ∙ spelled_on (suc (19 - length (c ∷ cs))) (b - 48) (c ∷ cs) some d
    ∙ rw (spelled-one (19 - length (c ∷ cs)) b w))
  where
    unled : (t u : Bool) → not (t && u) ≡ true → u ≡ true → not t ≡ true
    unled true u h e = absurd (false≢true (rw e at h))
    unled false u h e = refl

-- what reads as a number is its digits
decimal_value : (f : List ℕ) → reads_as_number f ≡ true → (decimal (value_after 0 f) ≡ f) × (leb (value_after 0 f) highest_field ≡ true)
unfolding reads_as_number all
decimal_value [] h = absurd (false≢true h)
decimal_value (b ∷ bs) h =
    let (l, r) = both (within 1 20 (length (b ∷ bs))) (all is_digit (b ∷ bs) && (not (leading_zero (b ∷ bs)) && leb (value_after 0 (b ∷ bs)) highest_field)) h in
    let (d, t) = both (all is_digit (b ∷ bs)) (not (leading_zero (b ∷ bs)) && leb (value_after 0 (b ∷ bs)) highest_field) r in
    let (z, m) = both (not (leading_zero (b ∷ bs))) (leb (value_after 0 (b ∷ bs)) highest_field) t in
    let (p, q) = both (is_digit b) (all is_digit bs) d in
    (spelled-all b bs (within_true 1 20 (length (b ∷ bs)) l).high (within_true 48 57 b p) q z, m)

-- a field that is read as a number
pub number_spelled : (k : ℕ) (f : List ℕ) (n : ℕ) → number k f ≡ Ok n → (f ≡ decimal n) × (leb n highest_field ≡ true)
unfolding number
number_spelled k f n h = go (reads_as_number f) refl h
  where
    go : (t : Bool) → reads_as_number f ≡ t → cond t (Ok (value_after 0 f)) (failing k) ≡ Ok n → (f ≡ decimal n) × (leb n highest_field ≡ true)
    go true e q =
        let v : value_after 0 f ≡ n = cc in
        let (d, m) = decimal_value f e in
        (rw (← v, d), rw v at m)
    go false e q =
        let z : ◌≡◌ {A = ℕ} 0 1 = cc in
        absurd (omega arith)
