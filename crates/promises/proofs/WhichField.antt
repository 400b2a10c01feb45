-- Which field is told of a line that is no call: the first that does not read or, where all read, their count with the word.
use Rattle.std.specs.Prelude.{Ok}
use Prim.Native.Nat.{ℕ, zero, suc, ◌+◌, ◌≤◌, ◌<◌}
use mathlib.Core.Path.{◌≡◌, refl, sym, ap, ◌∙◌}
use mathlib.Core.Logic.{◌⊎◌, inl, inr}
use mathlib.Core.Bool.{Bool, true, false, not, ◌||◌, cond, false≢true, true≢false, or-true}
use mathlib.Core.List.{List, [], ◌∷◌, ◌++◌}
use native.Mathlib.Numerals.{add-one}
use native.Mathlib.Omega.{arith}
use lib.Dec.{leb, ltb, eqb}
use lib.ListN.{length, drop, drop_of_length-le}
use lib.Seq.{drop-cons}
use borrow.Author.Tests.{eqb-true, leb-true, leb-false, ltb-true, ltb-false, lt-ltb, le-ltb}
use Rattle.promises.specs.Types.{Call, FailsAt, Line}
use Rattle.rules.specs.Limits.{most_bytes}
use Rattle.rules.specs.Lists.{all, any, same, bytes}
use Rattle.rules.specs.Lines.{tab, fields_from, fields, number, reads_as_number, value_after, Numbers, and_read, wanted, Form, forms, formed, read_as, read_fields, read_whole, unread, read_line, numbers_of, deposit_form, claim_form, transfer_form, withdraw_form, send_form, settle_form, grant_form, sign_form, trace_form, failing}
use Rattle.rules.specs.Replies.{told_refusal, told}
use Rattle.rules.specs.Transcript.{InputLine, read_input, answer_line}
use Rattle.rules.proofs.Digits.{all_append}
use Rattle.rules.proofs.ReadBack.{untabbed, fields-first}
use Rattle.promises.specs.Demand1.{field_at, is_empty, is_word, wanted_by, count_of, FieldReads, FieldFails, over_long_or_unfinished}
use Rattle.promises.specs.Promises.{FirstFails, AllRead, WhichField}
use Rattle.promises.proofs.Reading.{not-malformed, fields_back, Faithful, all_faithful, wanted-count, never_call}

-- ---- no field both reads and does not
clash : (fs : List (List ℕ)) (k : ℕ) → FieldReads fs k → FieldFails fs k → ⊥
clash fs k (FieldReads.word z w) (FieldFails.unknown_word z' u) = false≢true (sym u ∙ w)
clash fs k (FieldReads.word z w) (FieldFails.not_there o l m) = omega arith
clash fs k (FieldReads.word z w) (FieldFails.no_number o l m n) = omega arith
clash fs k (FieldReads.word z w) (FieldFails.one_too_many e m) = omega arith
clash fs k (FieldReads.number o l m n) (FieldFails.unknown_word z u) = omega arith
clash fs k (FieldReads.number o l m n) (FieldFails.not_there o' l' m') = omega arith
clash fs k (FieldReads.number o l m n) (FieldFails.no_number o' l' m' n') = false≢true (sym n' ∙ n)
clash fs k (FieldReads.number o l m n) (FieldFails.one_too_many e m') = omega arith

-- a field that reads is the word or one that it wants
reads-wanted : (fs : List (List ℕ)) (k : ℕ) → FieldReads fs k → k ≤ count_of fs
reads-wanted fs k (FieldReads.word z w) = omega arith
reads-wanted fs k (FieldReads.number o l m n) = l

-- where all read, the next field neither reads nor fails
all-last : (fs : List (List ℕ)) (k : ℕ) → AllRead fs k → FieldFails fs k → ⊥
all-last fs k a (FieldFails.unknown_word z u) = omega (arith, a.wanted)
all-last fs k a (FieldFails.not_there o l m) = omega (arith, a.wanted)
all-last fs k a (FieldFails.no_number o l m n) = omega (arith, a.wanted)
all-last fs k a (FieldFails.one_too_many e m) = omega (arith, a.count)

-- so the first that fails is one, and there is none where all read
first_once : (fs : List (List ℕ)) (j k : ℕ) → FirstFails fs j → FirstFails fs k → j ≡ k
first_once fs j k f g = go (ltb j k) refl (ltb k j) refl
  where
    go : (a : Bool) → ltb j k ≡ a → (b : Bool) → ltb k j ≡ b → j ≡ k
    go true p b q = absurd (clash fs j (g.before j (ltb-true j k p)) f.here)
    go false p true q = absurd (clash fs k (f.before k (ltb-true k j q)) g.here)
    go false p false q =
        let l : k ≤ j = ltb-false j k p in
        let m : j ≤ k = ltb-false k j q in
        omega arith

first-not-all : (fs : List (List ℕ)) (j k : ℕ) → FirstFails fs j → AllRead fs k → ⊥
first-not-all fs j k f a = go (ltb j k) refl (ltb k j) refl
  where
    go : (p : Bool) → ltb j k ≡ p → (q : Bool) → ltb k j ≡ q → ⊥
    go true p q e = clash fs j (a.each j (ltb-true j k p)) f.here
    go false p true e = omega (arith, reads-wanted fs k (f.before k (ltb-true k j e)), a.wanted)
    go false p false e =
        let l : k ≤ j = ltb-false j k p in
        let m : j ≤ k = ltb-false k j e in
        let same : k ≡ j = omega arith in
        all-last fs j (rw same at a) f.here

-- ---- so many numbers, from field k on
data Told (fs : List (List ℕ)) : Numbers → Type 0 where
  fails : {k : ℕ} → FirstFails fs k → Told fs (Numbers.fails_at k)
  reads : {ns : List ℕ} → AllRead fs (count_of fs + 1) → Told fs (Numbers.all_read ns)

one_more : (fs : List (List ℕ)) (v : ℕ) {rs : Numbers} → Told fs rs → Told fs (and_read (Ok v) rs)
unfolding and_read
one_more fs v (Told.fails f) = Told.fails f
one_more fs v (Told.reads a) = Told.reads a

number-reads : (k : ℕ) (f : List ℕ) → reads_as_number f ≡ true → number k f ≡ Ok (value_after 0 f)
unfolding number
number-reads k f h = rw h

number_fails : (k : ℕ) (f : List ℕ) → reads_as_number f ≡ false → number k f ≡ failing k
unfolding number
number_fails k f h = rw h

-- every field before the kth reads, and the kth does
also : (fs : List (List ℕ)) (k : ℕ) → ((i : ℕ) → i < k → FieldReads fs i) → FieldReads fs k → (i : ℕ) → i < k + 1 → FieldReads fs i
also fs k h r i l = go (ltb i k) refl
  where
    go : (t : Bool) → ltb i k ≡ t → FieldReads fs i
    go true e = h i (ltb-true i k e)
    go false e =
        let m : k ≤ i = ltb-false i k e in
        let same : k ≡ i = omega arith in
        rw same at r

told-from : (fs : List (List ℕ)) (n k : ℕ) → k + n ≡ count_of fs + 1 → 1 ≤ k → k ≤ length fs → ((i : ℕ) → i < k → FieldReads fs i) → Told fs (wanted k n (drop k fs))
unfolding wanted and_read
told-from fs zero k e o l h = go (leb (length fs) k) refl
  where
    go : (t : Bool) → leb (length fs) k ≡ t → Told fs (wanted k zero (drop k fs))
    go true q =
        let m : length fs ≤ k = leb-true (length fs) k q in
        rw (drop_of_length-le fs m) (Told.reads (record { each = λ i b. h i (omega arith); wanted = refl; count = omega arith }))
    go false q =
        let m : k < length fs = leb-false (length fs) k q in
        rw (drop-cons fs k [] m) (Told.fails (record { before = h; here = FieldFails.one_too_many (omega arith) m }))
told-from fs (suc n) k e o l h = go (leb (length fs) k) refl (reads_as_number (field_at fs k)) refl (λ g r. told-from fs n (k + 1) (omega arith) (omega arith) g (also fs k h r))
  where
    go : (t : Bool) → leb (length fs) k ≡ t → (d : Bool) → reads_as_number (field_at fs k) ≡ d → (k + 1 ≤ length fs → FieldReads fs k → Told fs (wanted (k + 1) n (drop (k + 1) fs))) → Told fs (wanted k (suc n) (drop k fs))
    go true q d p later =
        let m : length fs ≤ k = leb-true (length fs) k q in
        rw (drop_of_length-le fs m) (Told.fails (record { before = h; here = FieldFails.not_there o (omega arith) m }))
    go false q true p later =
        let m : k < length fs = leb-false (length fs) k q in
        rw (drop-cons fs k [] m, number-reads k (field_at fs k) p, ← add-one k) (one_more fs (value_after 0 (field_at fs k)) (later (omega arith) (FieldReads.number o (omega arith) m p)))
    go false q false p later =
        let m : k < length fs = leb-false (length fs) k q in
        rw (drop-cons fs k [] m, number_fails k (field_at fs k) p) (Told.fails (record { before = h; here = FieldFails.no_number o (omega arith) m p }))

-- ---- a line
data Verdict (fs : List (List ℕ)) : Line → Type 0 where
  fails : {k : ℕ} → FirstFails fs k → Verdict fs (failing k)
  reads : {c : Call} → AllRead fs (length (numbers_of c) + 1) → Verdict fs (Ok c)

-- of a form that wants as many numbers as the line's word
of_form : (fs : List (List ℕ)) (g : Form) → ((ns : List ℕ) → length ns ≡ g.count → numbers_of (g.call ns) ≡ ns) → g.count ≡ count_of fs
    → {rs : Numbers} → ((ns : List ℕ) → rs ≡ Numbers.all_read ns → length ns ≡ g.count) → Told fs rs → Verdict fs (formed g rs)
unfolding formed
of_form fs g m e counts (Told.fails f) = Verdict.fails f
of_form fs g m e counts (Told.reads {ns = ns} a) =
    let n : length ns ≡ g.count = counts ns refl in
    let l : count_of fs + 1 ≡ length (numbers_of (g.call ns)) + 1 = sym (ap (λ (x : List ℕ). length x + 1) (m ns n) ∙ ap (λ (x : ℕ). x + 1) (n ∙ e)) in
    Verdict.reads (rw l at a)

-- the word is that of one of these forms, or none of them has it
of_forms : {gs : List Form} → Faithful gs → (word : List ℕ) (fs : List (List ℕ)) → wanted_by gs word ≡ count_of (word ∷ fs) → any (λ g. same g.word word) gs ≡ is_word word
    → Verdict (word ∷ fs) (read_as gs word fs)
unfolding read_as wanted_by any
of_forms Faithful.last word fs e a = Verdict.fails {k = 0} (record { before = λ i l. absurd (omega (arith, l)); here = FieldFails.unknown_word refl (sym a) })
of_forms (Faithful.first {f = g} {fs = gs} w m later) word fs e a = go (same g.word word) refl (of_forms later word fs)
  where
    go : (t : Bool) → same g.word word ≡ t → (wanted_by gs word ≡ count_of (word ∷ fs) → any (λ x. same x.word word) gs ≡ is_word word → Verdict (word ∷ fs) (read_as gs word fs)) → Verdict (word ∷ fs) (read_as (g ∷ gs) word fs)
    go true q rest =
        let n : g.count ≡ count_of (word ∷ fs) = rw q at e in
        let known : is_word word ≡ true = sym a ∙ rw q in
        rw q (of_form (word ∷ fs) g m n (wanted-count 1 g.count fs) (told-from (word ∷ fs) g.count 1 (omega arith) (omega arith) (omega arith) (λ i l. FieldReads.word (omega arith) known)))
    go false q rest = rw q (rest (rw q at e) (rw q at a))

verdict : (s : List ℕ) → Verdict (fields s) (read_whole s)
unfolding read_fields is_word
verdict s = rw (fields-first s) (of_forms all_faithful _ _ refl refl)

-- what an input line is read as: a line that is over-long or unfinished is never read
cut-or-whole : (l : InputLine) → read_input l ≡ cond (over_long_or_unfinished l) (unread (read_whole l.text)) (read_whole l.text)
unfolding read_input read_line
cut-or-whole l = go l.finished (leb (length l.text) most_bytes) refl
  where
    go : (f t : Bool) → leb (length l.text) most_bytes ≡ t
        → cond f (cond (leb (length l.text) most_bytes) (read_whole l.text) (unread (read_whole l.text))) (unread (read_whole l.text))
        ≡ cond (ltb most_bytes (length l.text) || not f) (unread (read_whole l.text)) (read_whole l.text)
    go true true e = rw (e, le-ltb most_bytes (length l.text) (leb-true (length l.text) most_bytes e))
    go true false e = rw (e, lt-ltb most_bytes (length l.text) (leb-false (length l.text) most_bytes e))
    go false t e = rw (or-true (ltb most_bytes (length l.text)))

-- ---- exactly
abbrev at_field : ℕ → FailsAt
at_field k = record { 0 = k }

-- two that are told the same are one field
same_field : {j k : ℕ} → failing {A = Call} j ≡ failing k → j ≡ k
same_field {j = j} {k = k} e =
    let same : at_field j ≡ at_field k = cc in
    ap (λ (f : FailsAt). f.0) same

module _ (fs : List (List ℕ)) (k : ℕ) where
  there : (t : Bool) {x : Line} → Verdict fs x → cond t (unread x) x ≡ failing k → FirstFails fs k ⊎ (AllRead fs k × (t ≡ true))
  unfolding unread
  there true (Verdict.fails f) e = inl (rw (same_field e) at f)
  there false (Verdict.fails f) e = inl (rw (same_field e) at f)
  there true (Verdict.reads a) e = inr (rw (same_field e) at a, refl)
  there false (Verdict.reads {c = c} a) e = absurd (not-malformed c (sym e))

  back : (t : Bool) {x : Line} → Verdict fs x → FirstFails fs k ⊎ (AllRead fs k × (t ≡ true)) → cond t (unread x) x ≡ failing k
  unfolding unread
  back true (Verdict.fails {k = j} f) (inl g) = ap failing (first_once fs j k f g)
  back false (Verdict.fails {k = j} f) (inl g) = ap failing (first_once fs j k f g)
  back t (Verdict.fails {k = j} f) (inr a) = absurd (first-not-all fs j k f a.0)
  back t (Verdict.reads {c = c} a) (inl g) = absurd (first-not-all fs k (length (numbers_of c) + 1) g a)
  back true (Verdict.reads a) (inr b) = ap failing (a.count ∙ sym b.0.count)
  back false (Verdict.reads a) (inr b) = absurd (false≢true b.1)

exactly_there : (l : InputLine) (k : ℕ) → read_input l ≡ failing k → FirstFails (fields l.text) k ⊎ (AllRead (fields l.text) k × (over_long_or_unfinished l ≡ true))
exactly_there l k e = there (fields l.text) k (over_long_or_unfinished l) (verdict l.text) (sym (cut-or-whole l) ∙ e)

exactly_back : (l : InputLine) (k : ℕ) → FirstFails (fields l.text) k ⊎ (AllRead (fields l.text) k × (over_long_or_unfinished l ≡ true)) → read_input l ≡ failing k
exactly_back l k h = cut-or-whole l ∙ back (fields l.text) k (over_long_or_unfinished l) (verdict l.text) h

-- ---- empty fields
-- an empty field is neither a word nor a number
empty_is : (f : List ℕ) → is_empty f ≡ true → [] ≡ f
empty_is [] h = refl
empty_is (b ∷ f) h = absurd (omega (arith, eqb-true (length (b ∷ f)) 0 h))

no_word : (f : List ℕ) → is_empty f ≡ true → is_word f ≡ false
unfolding is_word any same bytes forms deposit_form claim_form transfer_form withdraw_form send_form settle_form grant_form sign_form trace_form
no_word f h = rw (← empty_is f h)

no_number : (f : List ℕ) → is_empty f ≡ true → reads_as_number f ≡ false
unfolding reads_as_number
no_number f h = rw (← empty_is f h)

empty_fails : (fs : List (List ℕ)) (k : ℕ) → k < length fs → is_empty (field_at fs k) ≡ true → ((i : ℕ) → i < k → FieldReads fs i) → FieldFails fs k
empty_fails fs zero l e h = FieldFails.unknown_word refl (no_word (field_at fs 0) e)
empty_fails fs (suc k) l e h = go (leb (suc k) (count_of fs)) refl (ltb (count_of fs + 1) (suc k)) refl
  where
    go : (t : Bool) → leb (suc k) (count_of fs) ≡ t → (u : Bool) → ltb (count_of fs + 1) (suc k) ≡ u → FieldFails fs (suc k)
    go true p u q = FieldFails.no_number (omega arith) (leb-true (suc k) (count_of fs) p) l (no_number (field_at fs (suc k)) e)
    go false p true q = absurd (omega (arith, reads-wanted fs (count_of fs + 1) (h (count_of fs + 1) (ltb-true (count_of fs + 1) (suc k) q))))
    go false p false q =
        let m : count_of fs < suc k = leb-false (suc k) (count_of fs) p in
        let n : suc k ≤ count_of fs + 1 = ltb-false (count_of fs + 1) (suc k) q in
        FieldFails.one_too_many (omega arith) l

empty_field_lem : (l : InputLine) (k : ℕ) → k < length (fields l.text) → is_empty (field_at (fields l.text) k) ≡ true → ((i : ℕ) → i < k → FieldReads (fields l.text) i) → read_input l ≡ failing k
empty_field_lem l k m e h = exactly_back l k (inl (record { before = h; here = empty_fails (fields l.text) k m e h }))

-- a field that reads is not empty
not_empty : (fs : List (List ℕ)) (k : ℕ) → FieldReads fs k → is_empty (field_at fs k) ≡ true → ⊥
not_empty fs k (FieldReads.word z w) e = false≢true (sym (no_word (field_at fs 0) (rw z at e)) ∙ w)
not_empty fs k (FieldReads.number o l m n) e = false≢true (sym (no_number (field_at fs k) e) ∙ n)

-- so where all read, none is
none_empty : (gs : List (List ℕ)) → ((i : ℕ) → i < length gs → is_empty (field_at gs i) ≡ true → ⊥) → any is_empty gs ≡ false
unfolding any
none_empty [] h = refl
none_empty (g ∷ gs) h = go (is_empty g) refl (none_empty gs (λ i l. h (suc i) (omega arith)))
  where
    go : (t : Bool) → is_empty g ≡ t → any is_empty gs ≡ false → t || any is_empty gs ≡ false
    go true e r = absurd (h 0 (omega arith) e)
    go false e r = r

read_full : (fs : List (List ℕ)) {x : Line} → Verdict fs x → (c : Call) → x ≡ Ok c → any is_empty fs ≡ false
read_full fs (Verdict.fails f) c e = absurd (not-malformed c e)
read_full fs (Verdict.reads a) c e = none_empty fs (λ i l. not_empty fs i (a.each i (omega (arith, a.count))))

no_call : (l : InputLine) → any is_empty (fields l.text) ≡ true → (c : Call) → read_input l ≡ Ok c → ⊥
no_call l h c e = go (over_long_or_unfinished l) (sym (cut-or-whole l) ∙ e)
  where
    go : (t : Bool) → cond t (unread (read_whole l.text)) (read_whole l.text) ≡ Ok c → ⊥
    go true q = never_call (read_whole l.text) c q
    go false q = true≢false (sym h ∙ read_full (fields l.text) (verdict l.text) c q)

-- ---- the fields are the line, parted at its tabs
no_tabs_lem : (before s : List ℕ) → untabbed before ≡ true → all untabbed (fields_from before s) ≡ true
unfolding all fields_from
no_tabs_lem before [] h = rw h
no_tabs_lem before (b ∷ s) h = go (eqb b tab) refl (no_tabs_lem [] s refl) (no_tabs_lem (before ++ (b ∷ [])) s)
  where
    go : (t : Bool) → eqb b tab ≡ t → all untabbed (fields_from [] s) ≡ true → (untabbed (before ++ (b ∷ [])) ≡ true → all untabbed (fields_from (before ++ (b ∷ [])) s) ≡ true)
        → all untabbed (cond t (before ∷ fields_from [] s) (fields_from (before ++ (b ∷ [])) s)) ≡ true
    go true e first later = rw h first
    go false e first later = later (rw (all_append (λ x. not (eqb x tab)) before (b ∷ []), h, e))

-- all that is promised of the field that is told
pub which_field_lem : WhichField
unfolding all fields answer_line told told_refusal
which_field_lem =
    record {
      parted = fields_back [];
      no_tabs = λ s. no_tabs_lem [] s refl;
      exactly = λ l k. (exactly_there l k, exactly_back l k);
      told = λ b k. refl;
      empty_field = empty_field_lem;
      no_call = no_call;
    }
