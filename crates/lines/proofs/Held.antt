-- The first bytes of a line tell the field of the whole line, if they are more than the longest line of any form in which every field reads.
use Prim.Native.Nat.{ℕ, zero, suc, ◌+◌, ◌-◌, ◌*◌, ◌≤◌, ◌<◌}
use mathlib.Core.Path.{◌≡◌, refl, sym, ap, ◌∙◌}
use mathlib.Core.Bool.{Bool, true, false, cond, and-false}
use mathlib.Core.List.{List, [], ◌∷◌}
use native.Mathlib.Omega.{arith}
use lib.Dec.{leb, ltb, eqb}
use lib.ListN.{length, take}
use lib.Seq.{take-nil, take_all, length-take-le}
use borrow.Author.Tests.{leb-true, leb-false, lt-leb, ltb-true}
use Rattle.rules.specs.Limits.{most_held, most_digits}
use Rattle.rules.specs.Lists.{all, same, index_of, bytes}
use Rattle.rules.specs.Lines.{tab, field_end, first_field, after_field, fields_after, reads_as_number, failing, number, Numbers, and_read, wanted, Form, deposit_form, claim_form, transfer_form, withdraw_form, send_form, settle_form, grant_form, sign_form, trace_form, forms, formed, read_as, read_whole, unread, read_line}
use Rattle.rules.proofs.Tests.{both, same_eq}
use Rattle.rules.proofs.ReadBack.{fields-first}
use Rattle.fields.proofs.FieldLaws.{end_within}
use Rattle.lines.proofs.LineLaws.{same_not, parts, line_long}

-- how many bytes a line of a form has at most in which every field reads: its word, and each number of 20 digits after its tab
abbrev longest : Form → ℕ
longest g = length g.word + (most_digits + 1) * g.count

-- ---- the first field of a line, and of its first m bytes
-- it is the same where it ends among them, and then the part after it is cut
cut : (m : ℕ) (s : List ℕ) → field_end s ≤ m → (first_field (take m s) ≡ first_field s) × (after_field (take m s) ≡ take (m - field_end s) (after_field s))
unfolding field_end index_of
cut m [] h = rw (take-nil m) (refl, sym (take-nil (m - 0)))
cut zero (b ∷ s) h = go (eqb tab b) refl h
  where
    go : (t : Bool) → eqb tab b ≡ t → cond t 0 (suc (field_end s)) ≤ 0 → ([] ≡ first_field (b ∷ s)) × ([] ≡ take (0 - field_end (b ∷ s)) (after_field (b ∷ s)))
    go true e l = rw e (refl, refl)
    go false e l = absurd (omega arith)
cut (suc m) (b ∷ s) h = go (eqb tab b) refl h (cut m s)
  where
    go : (t : Bool) → eqb tab b ≡ t → cond t 0 (suc (field_end s)) ≤ suc m
        → (field_end s ≤ m → (first_field (take m s) ≡ first_field s) × (after_field (take m s) ≡ take (m - field_end s) (after_field s)))
        → (first_field (b ∷ take m s) ≡ first_field (b ∷ s)) × (after_field (b ∷ take m s) ≡ take (suc m - field_end (b ∷ s)) (after_field (b ∷ s)))
    go true e l later =
        let all : suc m - 0 ≡ suc m = omega arith in
        rw (e, all) (refl, refl)
    go false e l later =
        let (first, after) = later (omega arith) in
        let less : suc m - suc (field_end s) ≡ m - field_end s = omega arith in
        rw (e, less) (ap (λ (f : List ℕ). b ∷ f) first, after)

-- where it is long, so is what is left of it
end_cut : (j m : ℕ) (s : List ℕ) → j ≤ m → j ≤ field_end s → j ≤ field_end (take m s)
unfolding field_end index_of
end_cut zero m s h g = omega arith
end_cut (suc j) zero s h g = absurd (omega arith)
end_cut (suc j) (suc m) [] h g = absurd (omega arith)
end_cut (suc j) (suc m) (b ∷ s) h g = go (eqb tab b) g (end_cut j m s (omega arith))
  where
    go : (t : Bool) → suc j ≤ cond t 0 (suc (field_end s)) → (j ≤ field_end s → j ≤ field_end (take m s)) → suc j ≤ cond t 0 (suc (field_end (take m s)))
    go true l later = absurd (omega arith)
    go false l later = omega (arith, later (omega arith))

length-first : (s : List ℕ) → length (first_field s) ≡ field_end s
length-first s = length-take-le (field_end s) s (end_within s)

-- ---- numbers
-- more than 20 bytes are no number
long_not : (k : ℕ) (f : List ℕ) → most_digits < length f → number k f ≡ failing k
unfolding number reads_as_number
long_not k f h = rw (lt-leb (length f) most_digits h, and-false)

fails : (k : ℕ) (f : List ℕ) (ns : Numbers) → most_digits < length f → and_read (number k f) ns ≡ Numbers.fails_at k
unfolding and_read
fails k f ns h = rw (long_not k f h)

-- that so many numbers are told by the first bytes of a part, if these are more than the numbers can take
abbrev Told : ℕ → ℕ → Type 0
Told k n = (m : ℕ) (s : List ℕ) → (most_digits + 1) * n < m → wanted k n (fields_after (take m s)) ≡ wanted k n (fields_after s)

none_told : (k : ℕ) → Told k zero
unfolding fields_after wanted
none_told k zero s h = absurd (omega arith)
none_told k (suc m) [] h = refl
none_told k (suc m) (t ∷ rest) h = rw (fields-first rest, fields-first (take m rest))

one_wanted : (k n t : ℕ) (s : List ℕ) → wanted k (suc n) (fields_after (t ∷ s)) ≡ and_read (number k (first_field s)) (wanted (k + 1) n (fields_after (after_field s)))
unfolding fields_after wanted
one_wanted k n t s = rw (fields-first s)

more-told : (k n : ℕ) → Told (k + 1) n → Told k (suc n)
more-told k n later zero s h = absurd (omega arith)
more-told k n later (suc m) [] h = refl
more-told k n later (suc m) (t ∷ rest) h = one_wanted k n t (take m rest) ∙ go (leb (field_end rest) most_digits) refl ∙ sym (one_wanted k n t rest)
  where
    go : (short : Bool) → leb (field_end rest) most_digits ≡ short
        → and_read (number k (first_field (take m rest))) (wanted (k + 1) n (fields_after (after_field (take m rest))))
        ≡ and_read (number k (first_field rest)) (wanted (k + 1) n (fields_after (after_field rest)))
    go true e =
        let l : field_end rest ≤ most_digits = leb-true (field_end rest) most_digits e in
        let (first, after) = cut m rest (omega arith) in
        rw (first, after, later (m - field_end rest) (after_field rest) (omega arith))
    go false e =
        let l : most_digits < field_end rest = leb-false (field_end rest) most_digits e in
        let long : most_digits < length (first_field rest) = omega (arith, length-first rest) in
        let long-cut : most_digits < length (first_field (take m rest)) = omega (arith, length-first (take m rest), end_cut (suc most_digits) m rest (omega arith) (omega arith)) in
        fails k (first_field (take m rest)) _ long-cut ∙ sym (fails k (first_field rest) _ long)

wanted-told : (k n : ℕ) → Told k n
wanted-told k zero = none_told k
wanted-told k (suc n) = more-told k n (wanted-told (k + 1) n)

-- ---- the line
-- whatever the forms are, if each is short
forms-cut : (gs : List Form) (m : ℕ) (s : List ℕ) → all (λ g. ltb (longest g) m) gs ≡ true
    → read_as gs (first_field (take m s)) (fields_after (after_field (take m s))) ≡ read_as gs (first_field s) (fields_after (after_field s))
unfolding read_as all
forms-cut [] m s h = refl
forms-cut (g ∷ gs) m s h =
    let (l, ls) = both (ltb (longest g) m) (all (λ x. ltb (longest x) m) gs) h in
    go (ltb-true (longest g) m l) (leb (field_end s) m) refl (same g.word (first_field s)) refl (forms-cut gs m s ls)
  where
    -- the first field is too long for the word, among the first bytes and in the whole line
    other : (x : List ℕ) → length g.word < field_end x → same g.word (first_field x) ≡ false
    other x n = same_not g.word (first_field x) (λ e. omega (arith, length-first x))

    go : longest g < m → (within : Bool) → leb (field_end s) m ≡ within → (named : Bool) → same g.word (first_field s) ≡ named
        → read_as gs (first_field (take m s)) (fields_after (after_field (take m s))) ≡ read_as gs (first_field s) (fields_after (after_field s))
        → read_as (g ∷ gs) (first_field (take m s)) (fields_after (after_field (take m s))) ≡ read_as (g ∷ gs) (first_field s) (fields_after (after_field s))
    go n true e true w rest =
        let (first, after) = cut m s (leb-true (field_end s) m e) in
        let word : length g.word ≡ field_end s = ap length (same_eq g.word (first_field s) w) ∙ length-first s in
        rw (first, w, after) (ap (formed g) (wanted-told 1 g.count (m - field_end s) (after_field s) (omega arith)))
    go n true e false w rest =
        let (first, after) = cut m s (leb-true (field_end s) m e) in
        rw (first, w) (rw first at rest)
    go n false e named w rest =
        let l : m < field_end s = leb-false (field_end s) m e in
        rw (other s (omega arith), other (take m s) (omega (arith, end_cut m m s (omega arith) (omega arith)))) rest

-- so many bytes are enough for the nine forms: this is the one number that another field would change
enough : all (λ g. ltb (longest g) most_held) forms ≡ true
unfolding all bytes forms deposit_form claim_form transfer_form withdraw_form send_form settle_form grant_form sign_form trace_form
enough = refl

-- what is held of a line tells what the whole line tells
pub whole-held : (s : List ℕ) → read_whole (take most_held s) ≡ read_whole s
whole-held s = parts (take most_held s) ∙ forms-cut forms most_held s enough ∙ sym (parts s)

pub line-held : (s : List ℕ) → read_line (take most_held s) ≡ read_line s
line-held s = go (leb (length s) most_held) refl
  where
    go : (t : Bool) → leb (length s) most_held ≡ t → read_line (take most_held s) ≡ read_line s
    go true e = ap read_line (take_all most_held s (leb-true (length s) most_held e))
    go false e =
        let l : most_held < length s = leb-false (length s) most_held e in
        line_long (take most_held s) (omega (arith, length-take-le most_held s (omega arith))) ∙ ap unread (whole-held s) ∙ sym (line_long s (omega arith))
