-- A line's word and its numbers: the form that has the word says how many numbers are wanted, which are taken one at a time.
use Rattle.std.specs.Prelude.{Ok, Err}
use Prim.Native.Nat.{ℕ, suc, ◌+◌, ◌-◌, ◌≤◌, ◌<◌}
use mathlib.Core.Path.{◌≡◌, refl, sym, ap, ◌∙◌}
use mathlib.Core.Bool.{Bool, true, false, ◌&&◌, cond, false≢true}
use mathlib.Core.List.{List, [], ◌∷◌, ◌++◌, append_assoc, append-nil}
use native.Mathlib.Omega.{arith}
use lib.Dec.{eqb}
use lib.Pointwise.{pointwise}
use Rattle.std.proofs.lemmas.Bool.Decides.{nat_tests}
use lib.ListN.{length, set, take, drop}
use lib.Seq.{take_all}
use Rattle.std.proofs.lemmas.List.{take_more_set}
use borrow.Author.Tests.{le-leb, lt-leb}
use Rattle.rules.specs.declared.calls.FailsAt.{FailsAt}
use Rattle.rules.specs.Types.{Field, Line}
use Rattle.rules.specs.Lists.{same, any}
use Rattle.rules.specs.Lines.{field_end, first_field, after_field, fields_after, reads_as_number, value_after, failing, number, Numbers, and_read, wanted, Form, forms, formed, read_as, read_fields, read_whole, unread, read_line}
use Rattle.rules.proofs.ReadBack.{Alone, fields-first}
use Rattle.rules.proofs.Tests.{same_eq}
use Rattle.fields.specs.Reading.{next_field, followed, next_read}
use Rattle.lines.specs.Reading.{wanted_in}

pub same_not : (w f : List ℕ) → (length w ≡ length f → ⊥) → same w f ≡ false
unfolding same
same_not [] [] h = absurd (h refl)
same_not [] (y ∷ f) h = refl
same_not (x ∷ w) [] h = refl
same_not (x ∷ w) (y ∷ f) h = rw (same_not w f (λ e. h (ap suc e)), mathlib.Core.Bool.and-false)

-- the test that `==` makes of two slices
pub same_test : (f w : List ℕ) → pointwise eqb f w ≡ same w f
unfolding same
same_test [] [] = refl
same_test [] (x ∷ w) = refl
same_test (y ∷ f) [] = refl
same_test (y ∷ f) (x ∷ w) = rw (same_test f w, turned)
  where
    turned : eqb y x ≡ eqb x y
    turned = grind (arith, nat_tests)

-- ---- numbers, taken one at a time
-- one number is wanted: the field that follows, and then those of the part after it
wanted-next : (k n : ℕ) (s : List ℕ) → wanted_in k (suc n) s ≡ and_read (next_field k s) (wanted_in (k + 1) n (after_field (drop 1 s)))
unfolding wanted_in fields_after wanted next_field and_read
wanted-next k n [] = refl
wanted-next k n (t ∷ rest) = rw (fields-first rest)

-- a field that does not read fails at its own number
pub own_number : (k : ℕ) (s : List ℕ) {e : FailsAt} → next_read k s ≡ Err e → next_field k s ≡ failing k
unfolding next_read next_field number followed
own_number k [] p = refl
own_number k (t ∷ rest) {e} p = go (reads_as_number (first_field rest)) p
  where
    go : (r : Bool) → followed (cond r (Ok (value_after 0 (first_field rest))) (failing k)) (after_field rest) ≡ Err e
        → cond r (Ok (value_after 0 (first_field rest))) (failing k) ≡ failing k
    go true q = cc
    go false q = refl

module _ (k n : ℕ) (s : List ℕ) where
  -- it does not read
  pub not_read : {e : FailsAt} → next_read k s ≡ Err e → wanted_in k (suc n) s ≡ Numbers.fails_at k
  unfolding and_read
  not_read p = wanted-next k n s ∙ rw (own_number k s p)

  -- it does, and the others stand in the part that is handed back
  pub one_more : {v : ℕ} {rest : List ℕ} → next_read k s ≡ Ok (v, rest) → wanted_in k (suc n) s ≡ and_read (Ok v) (wanted_in (k + 1) n rest)
  unfolding next_read followed
  one_more {v} {rest} p = wanted-next k n s ∙ go (next_field k s) p
    where
      go : (f : Field) → followed f (after_field (drop 1 s)) ≡ Ok (v, rest) → and_read f (wanted_in (k + 1) n (after_field (drop 1 s))) ≡ and_read (Ok v) (wanted_in (k + 1) n rest)
      go (Ok w) q =
          let both : ◌≡◌ {A = ℕ × List ℕ} (w, after_field (drop 1 s)) (v, rest) = cc in
          ap (λ (x : ℕ × List ℕ). and_read (Ok x.0) (wanted_in (k + 1) n x.1)) both
      go (Err f) q = cc

-- numbers that were read before others
unfoldable pub before : List ℕ → Numbers → Numbers
before ns (Numbers.all_read ms) = Numbers.all_read (ns ++ ms)
before ns (Numbers.fails_at k) = Numbers.fails_at k

-- one number more is read, and stands in its place
one_placed : (ns : List ℕ) (i v : ℕ) (x : Numbers) → i < length ns → before (take i ns) (and_read (Ok v) x) ≡ before (take (i + 1) (set ns i v)) x
unfolding before and_read
one_placed ns i v (Numbers.all_read ms) h = rw (take_more_set, append_assoc)
one_placed ns i v (Numbers.fails_at k) h = refl

-- something comes after the last, or nothing does
pub one_too_many_lem : (k : ℕ) (s : List ℕ) → 0 < length s → wanted_in k 0 s ≡ Numbers.fails_at k
unfolding wanted_in fields_after wanted
one_too_many_lem k [] h = absurd (omega arith)
one_too_many_lem k (t ∷ rest) h = rw (fields-first rest)

pub no_more : (k : ℕ) (s : List ℕ) → length s ≤ 0 → wanted_in k 0 s ≡ Numbers.all_read []
unfolding wanted_in fields_after wanted
no_more k [] h = refl
no_more k (t ∷ rest) h = absurd (omega arith)

-- of n numbers that are wanted the first i are read, and the others are wanted in the part that was handed back
abbrev pub SoFar : ℕ → List ℕ → List ℕ → ℕ → List ℕ → Type 0
SoFar n s ns i rest = wanted_in 1 n s ≡ before (take i ns) (wanted_in (i + 1) (n - i) rest)

pub none_yet : (n : ℕ) (s ns : List ℕ) → SoFar n s ns 0 s
unfolding before
none_yet n s ns =
    let all : n - 0 ≡ n = omega arith in
    rw all (go (wanted_in 1 n s))
  where
    go : (x : Numbers) → x ≡ before [] x
    go (Numbers.all_read ms) = refl
    go (Numbers.fails_at k) = refl

module _ (n : ℕ) (s ns : List ℕ) (i : ℕ) (rest : List ℕ) (so : SoFar n s ns i rest) where
  pub one_fails : {e : FailsAt} → i < n → next_read (i + 1) rest ≡ Err e → wanted_in 1 n s ≡ Numbers.fails_at (i + 1)
  unfolding before
  one_fails h p =
      let left : n - i ≡ suc (n - (i + 1)) = omega arith in
      so ∙ rw (left, not_read (i + 1) (n - (i + 1)) rest p)

  pub one_reads : {v : ℕ} {after : List ℕ} → i < n → length ns ≡ n → next_read (i + 1) rest ≡ Ok (v, after) → SoFar n s (set ns i v) (i + 1) after
  one_reads {v} h l p =
      let left : n - i ≡ suc (n - (i + 1)) = omega arith in
      let within : i < length ns = omega arith in
      so ∙ rw (left, one_more (i + 1) (n - (i + 1)) rest p) (one_placed ns i v _ within)

  pub one_left_over : i ≡ n → 0 < length rest → wanted_in 1 n s ≡ Numbers.fails_at (n + 1)
  unfolding before
  one_left_over h l =
      let none : n - i ≡ 0 = omega arith in
      so ∙ rw (none, one_too_many_lem (i + 1) rest l, h)

  pub all_placed : i ≡ n → length ns ≡ n → length rest ≡ 0 → wanted_in 1 n s ≡ Numbers.all_read ns
  unfolding before
  all_placed h l r =
      let none : n - i ≡ 0 = omega arith in
      so ∙ rw (none, no_more (i + 1) rest (omega arith), append-nil) (ap Numbers.all_read (take_all i ns (omega arith)))

-- ---- the line
read_none : (w : List ℕ) (fs : List (List ℕ)) (gs : List Form) → any (λ g. same g.word w) gs ≡ false → read_as gs w fs ≡ failing 0
unfolding read_as any
read_none w fs [] e = refl
read_none w fs (g ∷ gs) e = go (same g.word w) refl (read_none w fs gs)
  where
    go : (t : Bool) → same g.word w ≡ t → (any (λ h. same h.word w) gs ≡ false → read_as gs w fs ≡ failing 0) → read_as (g ∷ gs) w fs ≡ failing 0
    go true q r = absurd (false≢true (sym e ∙ rw q))
    go false q r = rw q (r (rw q at e))

-- the word, and the fields after it
pub parts : (s : List ℕ) → read_whole s ≡ read_as forms (first_field s) (fields_after (after_field s))
unfolding read_fields
parts s = rw (fields-first s)

-- what the code has of a line: the end of its first field, the word that stands before it, and the part after it
module _ (s : List ℕ) {end : ℕ} {word rest : List ℕ} (where-it-ends : end ≡ field_end s) (front : word ≡ take end s) (back : rest ≡ drop end s) where
  -- the word is that of a form that no other form has: that form's function reads the rest
  pub line_form : (g : Form) → Alone g → {r : Line} {t : Bool} → t ≡ same g.word word → t ≡ true → r ≡ formed g (wanted_in 1 g.count rest) → r ≡ read_whole s
  unfolding wanted_in
  line_form g a e t q =
      let w : g.word ≡ first_field s = same_eq g.word word (sym e ∙ t) ∙ rw where-it-ends at front in
      q
      ∙ ap (λ (part : List ℕ). formed g (wanted 1 g.count (fields_after part))) (rw where-it-ends at back)
      ∙ sym (parts s ∙ rw (← w) (a (fields_after (after_field s))))

  -- it is the word of none
  pub line-none : any (λ g. same g.word word) forms ≡ false → read_whole s ≡ failing 0
  line-none e = parts s ∙ read_none (first_field s) (fields_after (after_field s)) forms (rw (front, where-it-ends) at e)

-- a line of at most 120 bytes is what it reads as; one that has more is never read
pub line-short : (s : List ℕ) → length s ≤ 120 → read_line s ≡ read_whole s
unfolding read_line
line-short s h = rw (le-leb (length s) 120 h)

pub line_long : (s : List ℕ) → 120 < length s → read_line s ≡ unread (read_whole s)
unfolding read_line
line_long s h = rw (lt-leb (length s) 120 h)
