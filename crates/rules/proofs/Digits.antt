-- A number's digits read back: what the writer spells is a field, and the field's value is the number.
use Rattle.std.specs.Prelude.{Ok}
use Prim.Native.Nat.{ℕ, zero, suc, ◌+◌, ◌-◌, ◌*◌, ◌/◌, ◌%◌, ◌^◌, ◌≤◌, ◌<◌}
use mathlib.Core.Path.{◌≡◌, refl}
use mathlib.Core.Bool.{Bool, true, false, ◌&&◌, cond, and_assoc, and-eq-true_iff}
use mathlib.Core.List.{List, [], ◌∷◌, ◌++◌}
use native.Mathlib.Nat.{pow-suc}
use native.Mathlib.Omega.{arith}
use lib.Dec.{ltb, eqb}
use lib.ListN.{length, get_or, length-append, get_or-append}
use borrow.Author.Tests.{ltb-true, ltb-false, lt-ltb, le-leb, ne_eqb}
use Rattle.rules.specs.Limits.{highest_field}
use Rattle.rules.specs.Lists.{all}
use Rattle.rules.specs.Lines.{is_digit, value_after, reads_as_number, number, spelled, decimal}

-- ---- tests of every element
-- a test of every element of two lists, one after the other, is the test of each list
pub all_append : {A : Type 0} (p : A → Bool) (xs ys : List A) → all p (xs ++ ys) ≡ all p xs && all p ys
unfolding all
all_append p [] ys = refl
all_append p (x ∷ xs) ys = rw (all_append p xs ys, and_assoc)

-- what passes one test passes another that follows from it
pub all_imply : {A : Type 0} (p q : A → Bool) → ((x : A) → p x ≡ true → q x ≡ true) → (xs : List A) → all p xs ≡ true → all q xs ≡ true
unfolding all
all_imply p q f [] h = refl
all_imply p q f (x ∷ xs) h =
    let (a, b) = (and-eq-true_iff (p x) (all p xs)).0 h in
    rw (f x a) (all_imply p q f xs b)

-- ---- digits
-- the value of digits after digits goes on from the value of the first ones
pub value_append : (v : ℕ) (xs ys : List ℕ) → value_after v (xs ++ ys) ≡ value_after (value_after v xs) ys
unfolding value_after
value_append v [] ys = refl
value_append v (x ∷ xs) ys = value_append (v * 10 + (x - 48)) xs ys

-- f spells n in at most k digits, and starts with 0 for no number but 0
pub record Spells (k n : ℕ) (f : List ℕ) : Type 0 where
  pub some : 1 ≤ length f
  pub short : length f ≤ k
  pub digits : all is_digit f ≡ true
  pub value : value_after 0 f ≡ n
  pub unled : 1 ≤ n → eqb (get_or f 0 0) 48 ≡ false

-- the byte of a digit is a digit
digit : (d : ℕ) → d < 10 → all is_digit ((48 + d) ∷ []) ≡ true
unfolding all
digit d h = rw (le-leb 48 (48 + d) (omega arith), le-leb (48 + d) 57 (omega arith))

-- a number below ten is its one digit
one_digit : (k n : ℕ) → n < 10 → Spells (suc k) n ((48 + n) ∷ [])
unfolding value_after
one_digit k n h =
    record {
      some = omega arith;
      short = omega arith;
      digits = digit n h;
      value = omega arith;
      unled = λ p. ne_eqb (48 + n) 48 (λ e. omega arith);
    }

-- any other is its tenth's digits and then its last one
last_digit : (k n : ℕ) (f : List ℕ) → 10 ≤ n → Spells k (n / 10) f → Spells (suc k) n (f ++ ((48 + n % 10) ∷ []))
unfolding value_after
last_digit k n f h s =
    record {
      some = rw length-append (omega arith);
      short = rw length-append (omega arith);
      digits = rw (all_append is_digit f ((48 + n % 10) ∷ []), s.digits) (digit (n % 10) (omega arith));
      value = rw (value_append 0 f ((48 + n % 10) ∷ []), s.value) (omega arith);
      unled = λ p. rw (get_or-append f ((48 + n % 10) ∷ []) 0 0 s.some) (s.unled (omega arith));
    }

-- so many digits, at least one, spell every number below that power of ten
pub spells : (k n : ℕ) → n < 10 ^ suc k → Spells (suc k) n (spelled (suc k) n)
unfolding spelled
spells zero n h = rw (lt-ltb n 10 h) (one_digit 0 n h)
spells (suc k) n h = go (ltb n 10) refl (λ t. spells k (n / 10) (omega (arith, pow-suc 10 (suc k))))
  where
    go : (b : Bool) → ltb n 10 ≡ b → (10 ≤ n → Spells (suc k) (n / 10) (spelled (suc k) (n / 10)))
        → Spells (suc (suc k)) n (cond b ((48 + n) ∷ []) (spelled (suc k) (n / 10) ++ ((48 + n % 10) ∷ [])))
    go true e r = one_digit (suc k) n (ltb-true n 10 e)
    go false e r = last_digit (suc k) n (spelled (suc k) (n / 10)) (ltb-false n 10 e) (r (ltb-false n 10 e))

-- a number that a field can hold is spelled in at most 20 digits
pub decimal_spells : (n : ℕ) → n ≤ highest_field → Spells 20 n (decimal n)
unfolding decimal
decimal_spells n h = spells 19 n (omega arith)

-- and its field reads as that number
pub number-decimal : (k n : ℕ) → n ≤ highest_field → number k (decimal n) ≡ Ok n
unfolding number reads_as_number decimal spelled all value_after
number-decimal k zero h = refl
number-decimal k (suc n) h =
    let s : Spells 20 (suc n) (decimal (suc n)) = decimal_spells (suc n) h in
    rw (le-leb 1 (length (decimal (suc n))) s.some, le-leb (length (decimal (suc n))) 20 s.short, s.digits, s.unled (omega arith), s.value, le-leb (suc n) highest_field h)
