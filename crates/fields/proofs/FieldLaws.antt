-- Where a field ends, and what its digits are worth so far.
use Rattle.std.specs.Option.{unwrap_or}
use Rattle.std.specs.List.{position, position_or_len}
use Rattle.std.proofs.Common.{Some, None}
use Rattle.std.specs.Prelude.{Ok, Option}
use Prim.Native.Nat.{ℕ, zero, suc, ◌+◌, ◌-◌, ◌*◌, ◌≤◌, ◌<◌}
use mathlib.Core.Path.{◌≡◌, refl, sym, ap, ◌∙◌}
use mathlib.Core.Bool.{Bool, true, false, not, ◌&&◌, cond, and-false}
use mathlib.Core.List.{List, [], ◌∷◌}
use native.Mathlib.Numerals.{add-one}
use native.Mathlib.Omega.{arith}
use lib.Dec.{leb, ltb, eqb}
use lib.ListN.{length, get_or, take, drop, drop_of_length-le}
use lib.Seq.{drop-cons, take_all}
use borrow.Author.Tests.{eq-eqb, ne_eqb, le-leb, lt-leb, leb-false, leb-true}
use Rattle.std.proofs.lemmas.List.Recursion.{is_position_or_len}
use Rattle.std.proofs.lemmas.Bool.Decides.{nat_tests}
use Rattle.rules.specs.Limits.{highest_field}
use Rattle.rules.specs.Lists.{all, index_of}
use Rattle.rules.specs.Lines.{tab, field_end, first_field, after_field, is_digit, value_after, leading_zero, reads_as_number, failing, number}
use Rattle.fields.specs.Reading.{one_more, digits_after, is_shaped, next_field, followed, next_read, placed, digits_read}

-- ---- where the field ends
module _ (s : List ℕ) (i : ℕ) where
  pub end_here : i < length s → get_or s i 0 ≡ tab → field_end (drop i s) ≡ 0
  unfolding field_end index_of
  end_here h e = rw (drop-cons s i 0 h, eq-eqb tab (get_or s i 0) (sym e))

  pub end_later : i < length s → (get_or s i 0 ≡ tab → ⊥) → field_end (drop i s) ≡ suc (field_end (drop (i + 1) s))
  unfolding field_end index_of
  end_later h e = rw (add-one i, drop-cons s i 0 h, ne_eqb tab (get_or s i 0) (λ q. e (sym q)))

  pub end_none : length s ≤ i → field_end (drop i s) ≡ 0
  unfolding field_end index_of
  end_none h = rw (drop_of_length-le s h)

pub end_within : (s : List ℕ) → field_end s ≤ length s
unfolding field_end index_of
end_within [] = omega arith
end_within (b ∷ s) = go (eqb tab b) (end_within s)
  where
    go : (t : Bool) → field_end s ≤ length s → cond t 0 (suc (field_end s)) ≤ suc (length s)
    go true h = omega arith
    go false h = omega arith

-- at any place of a field the part after it is the same
pub same_part : (s : List ℕ) (at : ℕ) → at ≤ field_end s → after_field (drop at s) ≡ after_field s
unfolding field_end index_of
same_part s zero h = refl
same_part [] (suc at) h = absurd (omega arith)
same_part (b ∷ s) (suc at) h = go (eqb tab b) h (same_part s at)
  where
    go : (t : Bool) → suc at ≤ cond t 0 (suc (field_end s)) → (at ≤ field_end s → after_field (drop at s) ≡ after_field s) → after_field (drop at s) ≡ drop (cond t 0 (suc (field_end s))) (b ∷ s)
    go true l later = absurd (omega arith)
    go false l later = later (omega arith)

-- it is the place of the first tab
first_tab : (s : List ℕ) → field_end s ≡ position_or_len (λ b. eqb b tab) s
unfolding field_end index_of
first_tab s = is_position_or_len field_end (λ b. eqb b tab) refl (λ b rest. step b (field_end rest)) s
  where
    step : (b n : ℕ) → cond (eqb tab b) 0 (suc n) ≡ cond (eqb b tab) 0 (1 + n)
    step b n = grind (arith, nat_tests)

pub end_found : (s : List ℕ) → unwrap_or (position (λ b. eqb b tab) s) (length s) ≡ field_end s
end_found s = go (position_or_len (λ b. eqb b tab) s) (first_tab s) (end_within s)
  where
    go : (n : ℕ) → field_end s ≡ n → field_end s ≤ length s → unwrap_or (cond (ltb n (length s)) (Some n) None) (length s) ≡ field_end s
    go n e l = grind (arith, nat_tests)

-- a part from a place on, as the code takes it
pub from_on : {A : Type 0} (s : List A) (a : ℕ) → take (length s - a) (drop a s) ≡ drop a s
from_on s a = take_all (length s - a) (drop a s) (rw (lib.ListN.length-drop a s) (omega arith))

-- ---- digits
-- a value only grows as digits follow
pub value_grows : (v : ℕ) (f : List ℕ) → v ≤ value_after v f
unfolding value_after
value_grows v [] = omega arith
value_grows v (b ∷ f) = omega (arith, value_grows (v * 10 + (b - 48)) f)

-- what the digits' value makes, where there is one
valued : {A : Type 0} → A → (ℕ → A) → Option ℕ → A
valued otherwise made (Some n) = made n
valued otherwise made None = otherwise

-- one digit more, and then the others; where it makes no number, there is none
more : (v b : ℕ) (f : List ℕ) → digits_after v (b ∷ f) ≡ valued None (λ n. digits_after n f) (one_more v b)
unfolding digits_after one_more valued all value_after
more v b f = go (is_digit b) refl (leb (v * 10 + (b - 48)) highest_field) refl
  where
    go : (p : Bool) → is_digit b ≡ p → (q : Bool) → leb (v * 10 + (b - 48)) highest_field ≡ q
        → digits_after v (b ∷ f) ≡ valued None (λ n. digits_after n f) (one_more v b)
    go false d q e = rw d
    go true d false e =
        let big : highest_field < value_after (v * 10 + (b - 48)) f = omega (arith, leb-false (v * 10 + (b - 48)) highest_field e, value_grows (v * 10 + (b - 48)) f) in
        rw (d, e, lt-leb (value_after (v * 10 + (b - 48)) f) highest_field big, and-false)
    go true d true e = rw (d, e)

-- what is made is a number that a field can hold
pub grown_within : (v b : ℕ) {n : ℕ} → one_more v b ≡ Some n → n ≤ highest_field
unfolding one_more
grown_within v b {n} e = go (is_digit b) (leb (v * 10 + (b - 48)) highest_field) refl e
  where
    go : (d l : Bool) → leb (v * 10 + (b - 48)) highest_field ≡ l → cond (d && l) (Some (v * 10 + (b - 48))) None ≡ Some n → n ≤ highest_field
    go false l p q =
        let z : ◌≡◌ {A = ℕ} 0 1 = cc in
        omega arith
    go true false p q =
        let z : ◌≡◌ {A = ℕ} 0 1 = cc in
        omega arith
    go true true p q =
        let z : v * 10 + (b - 48) ≡ n = cc in
        omega (arith, leb-true (v * 10 + (b - 48)) highest_field p)

-- what is read of a field from place i on, after the value so far: the number, and the field's end
unfoldable pub read_from : List ℕ → ℕ → ℕ → Option (ℕ × ℕ)
read_from s v i = placed (digits_after v (first_field (drop i s))) (i + field_end (drop i s))

pub from_first : (s : List ℕ) → digits_read s ≡ read_from s 0 0
unfolding digits_read read_from
from_first s =
    let at : 0 + field_end s ≡ field_end s = omega arith in
    rw at

module _ (s : List ℕ) (v i : ℕ) where
  -- the field ends here
  pub from_end : field_end (drop i s) ≡ 0 → v ≤ highest_field → read_from s v i ≡ Some (v, i)
  unfolding read_from placed digits_after all value_after
  from_end e l =
      let at : i + 0 ≡ i = omega arith in
      rw (e, le-leb v highest_field l, at)

  -- or it has this byte and those after it
  from_later : i < length s → (get_or s i 0 ≡ tab → ⊥)
      → read_from s v i ≡ placed (valued None (λ n. digits_after n (first_field (drop (i + 1) s))) (one_more v (get_or s i 0))) (i + 1 + field_end (drop (i + 1) s))
  unfolding read_from
  from_later h e =
      let end = field_end (drop (i + 1) s) in
      let p : i + suc end ≡ i + 1 + end = omega arith in
      rw (end_later s i h e, p)
      (ap (λ (d : Option ℕ). placed d (i + 1 + end)) (rw (drop-cons s i 0 h, ← add-one i) (more v (get_or s i 0) (take end (drop (i + 1) s)))))

  pub from-not : i < length s → (get_or s i 0 ≡ tab → ⊥) → one_more v (get_or s i 0) ≡ None → read_from s v i ≡ None
  unfolding valued placed
  from-not h e q = from_later h e ∙ rw q

  pub from_more : {n : ℕ} → i < length s → (get_or s i 0 ≡ tab → ⊥) → one_more v (get_or s i 0) ≡ Some n → read_from s v i ≡ read_from s n (i + 1)
  unfolding valued read_from
  from_more h e q = from_later h e ∙ rw q

-- ---- the field after a tab
-- its number, from its shape and its digits
number_shaped : (k : ℕ) (f : List ℕ) → number k f ≡ cond (is_shaped f) (valued (failing k) Ok (digits_after 0 f)) (failing k)
unfolding number reads_as_number is_shaped digits_after valued
number_shaped k f = go (leb 1 (length f)) (leb (length f) 20) (all is_digit f) (leading_zero f) (leb (value_after 0 f) highest_field)
  where
    go : (a b d z l : Bool)
        → cond (a && b && (d && (not z && l))) (Ok (value_after 0 f)) (failing k)
        ≡ cond (a && b && not z) (valued (failing k) Ok (cond (d && l) (Some (value_after 0 f)) None)) (failing k)
    go false b d z l = refl
    go true false d z l = refl
    go true true d true l = grind arith
    go true true true false true = refl
    go true true true false false = refl
    go true true false false l = refl

module _ (rest : List ℕ) where
  -- what was read of the digits is their value, and ends where the field ends
  pub digits_read_lem : {n end : ℕ} → digits_read rest ≡ Some (n, end) → (digits_after 0 (first_field rest) ≡ Some n) × (field_end rest ≡ end)
  unfolding digits_read placed
  digits_read_lem {n} {end} e = go (digits_after 0 (first_field rest)) e
    where
      go : (d : Option ℕ) → placed d (field_end rest) ≡ Some (n, end) → (d ≡ Some n) × (field_end rest ≡ end)
      go (Some m) q =
          let both : ◌≡◌ {A = ℕ × ℕ} (m, field_end rest) (n, end) = cc in
          (ap (λ (x : ℕ × ℕ). Some x.0) both, ap (λ (x : ℕ × ℕ). x.1) both)
      go None q =
          let z : ◌≡◌ {A = ℕ} 0 1 = cc in
          absurd (omega arith)

  pub no_digits : digits_read rest ≡ None → digits_after 0 (first_field rest) ≡ None
  unfolding digits_read placed
  no_digits e = go (digits_after 0 (first_field rest)) e
    where
      go : (d : Option ℕ) → placed d (field_end rest) ≡ None → d ≡ None
      go (Some m) q =
          let z : ◌≡◌ {A = ℕ} 0 1 = cc in
          absurd (omega arith)
      go None q = refl

  pub end_bound : {n end : ℕ} → digits_read rest ≡ Some (n, end) → end ≤ length rest
  end_bound e = omega (arith, (digits_read_lem e).1, end_within rest)

  -- nothing of the field is left there, so the part after it begins there
  pub after_read : {n end : ℕ} → digits_read rest ≡ Some (n, end) → after_field (drop end rest) ≡ drop end rest
  after_read {n} {end} e =
      let at : field_end rest ≡ end = (digits_read_lem e).1 in
      same_part rest end (omega arith) ∙ ap (λ (k : ℕ). drop k rest) at

  module _ (k t : ℕ) where
    -- no digits, or no number's text
    pub next-not : digits_read rest ≡ None → next_read k (t ∷ rest) ≡ failing k
    unfolding next_read next_field followed valued
    next-not e = rw (number_shaped k (first_field rest), no_digits e) (go (is_shaped (first_field rest)))
      where
        go : (s : Bool) → followed (cond s (failing k) (failing k)) (after_field rest) ≡ failing k
        go true = refl
        go false = refl

    module _ {n end : ℕ} (e : digits_read rest ≡ Some (n, end)) where
      pub next_misshaped : is_shaped (take end rest) ≡ false → next_read k (t ∷ rest) ≡ failing k
      unfolding next_read next_field followed
      next_misshaped s =
          let (d, at) = digits_read_lem e in
          let s' : is_shaped (first_field rest) ≡ false = rw at s in
          rw (number_shaped k (first_field rest), s')

      -- the number, and the part after the field
      pub next_shaped : is_shaped (take end rest) ≡ true → next_read k (t ∷ rest) ≡ Ok (n, drop end rest)
      unfolding next_read next_field followed valued
      next_shaped s =
          let (d, at) = digits_read_lem e in
          let s' : is_shaped (first_field rest) ≡ true = rw at s in
          rw (number_shaped k (first_field rest), s', d, at)

pub next-none : (k : ℕ) (s : List ℕ) → length s ≡ 0 → next_read k s ≡ failing k
unfolding next_read next_field followed
next-none k [] h = refl
next-none k (t ∷ rest) h = absurd (omega arith)
