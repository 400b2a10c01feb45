-- A line reads as a call exactly if it is that call written out.
use Rattle.std.specs.Prelude.{Ok, Err}
use Prim.Native.Nat.{ℕ, zero, suc, ◌+◌, ◌≤◌}
use mathlib.Core.Path.{◌≡◌, refl, sym, ap, ◌∙◌}
use mathlib.Core.Bool.{Bool, true, false, cond}
use mathlib.Core.List.{List, [], ◌∷◌, ◌++◌}
use native.Mathlib.Omega.{arith}
use lib.Dec.{leb, eqb}
use lib.ListN.{length, drop}
use lib.Seq.{append_snoc}
use Rattle.std.proofs.lemmas.List.{nil_from_length}
use borrow.Author.Tests.{eqb-true, leb-true}
use Rattle.promises.specs.Types.{Call, Line, Field}
use Rattle.rules.specs.Limits.{most_bytes}
use Rattle.rules.specs.Lists.{all, same, joined}
use Rattle.rules.specs.Lines.{tab, Numbers, and_read, number, wanted, Form, at, fields_from, fields, forms, formed, read_as, read_fields, read_whole, unread, read_line, tabbed, form_of, numbers_of, write_line, deposit_form, claim_form, transfer_form, withdraw_form, send_form, settle_form, grant_form, sign_form, trace_form, failing}
use Rattle.rules.specs.Transcript.{read_input}
use Rattle.rules.proofs.Tests.{same_eq}
use Rattle.rules.proofs.ReadBack.{fitting, read_back}
use Rattle.promises.specs.Promises.{IsWritten, Reading}
use Rattle.promises.proofs.Spelled.{number_spelled}

-- a Malformed line reads as no call
pub not-malformed : {k : ℕ} (c : Call) → failing k ≡ Ok c → ⊥
not-malformed c h =
    let z : ◌≡◌ {A = ℕ} 0 1 = cc in
    omega arith

-- ---- fields, put together again
-- each after a tab
abbrev pub after_tabs : List (List ℕ) → List ℕ
after_tabs fs = joined (λ f. tab ∷ f) fs

-- the fields of a line, each after a tab, are a tab and the line
pub fields_back : (before s : List ℕ) → after_tabs (fields_from before s) ≡ tab ∷ (before ++ s)
unfolding joined fields_from
fields_back before [] = refl
fields_back before (b ∷ s) = go (eqb b tab) refl (fields_back [] s) (fields_back (before ++ (b ∷ [])) s)
  where
    go : (t : Bool) → eqb b tab ≡ t → after_tabs (fields_from [] s) ≡ tab ∷ s → after_tabs (fields_from (before ++ (b ∷ [])) s) ≡ tab ∷ (before ++ (b ∷ []) ++ s)
        → after_tabs (cond t (before ∷ fields_from [] s) (fields_from (before ++ (b ∷ [])) s)) ≡ tab ∷ (before ++ (b ∷ s))
    go true e p q = rw (p, eqb-true b tab e)
    go false e p q = rw q (ap (λ (r : List ℕ). tab ∷ r) (append_snoc before b s))

-- fields that are these numbers written, each one that a field can hold, and so many
record Fields (n : ℕ) (fs : List (List ℕ)) (ns : List ℕ) : Type 0 where
  written : after_tabs fs ≡ tabbed ns
  fit : fitting ns ≡ true
  count : length ns ≡ n

one_more : (k n : ℕ) (f : List ℕ) (fs : List (List ℕ)) (v : ℕ) (ns : List ℕ) → number k f ≡ Ok v → Fields n fs ns → Fields (suc n) (f ∷ fs) (v ∷ ns)
unfolding joined tabbed all
one_more k n f fs v ns h r =
    let (e, m) = number_spelled k f v h in
    record { written = rw (e, r.written); fit = rw m r.fit; count = ap suc r.count }

none_fails : {k : ℕ} {ns : List ℕ} → Numbers.fails_at k ≡ Numbers.all_read ns → ⊥
none_fails h =
    let z : ◌≡◌ {A = ℕ} 0 1 = cc in
    omega arith

-- fields that are all read as numbers are, and they are as many as were wanted
numbers_back : (k n : ℕ) (fs : List (List ℕ)) (ns : List ℕ) → wanted k n fs ≡ Numbers.all_read ns → Fields n fs ns
unfolding wanted and_read
numbers_back k zero [] ns h =
    let e : [] ≡ ns = cc in
    rw (← e) (unfold joined tabbed all in record { written = refl; fit = refl; count = refl })
numbers_back k zero (f ∷ fs) ns h = absurd (none_fails h)
numbers_back k (suc n) [] ns h = absurd (none_fails h)
numbers_back k (suc n) (f ∷ fs) ns h = go (number k f) (wanted (k + 1) n fs) refl h (numbers_back (k + 1) n fs)
  where
    go : (x : Field) (rs : Numbers) → number k f ≡ x → and_read x rs ≡ Numbers.all_read ns → ((ms : List ℕ) → rs ≡ Numbers.all_read ms → Fields n fs ms) → Fields (suc n) (f ∷ fs) ns
    go (Ok v) (Numbers.all_read ms) e r ih =
        let s : v ∷ ms ≡ ns = cc in
        rw (← s) (one_more k n f fs v ms e (ih ms refl))
    go (Ok v) (Numbers.fails_at j) e r ih = absurd (none_fails r)
    go (Err j) rs e r ih = absurd (none_fails r)

pub wanted-count : (k n : ℕ) (fs : List (List ℕ)) (ns : List ℕ) → wanted k n fs ≡ Numbers.all_read ns → length ns ≡ n
wanted-count k n fs ns h = (numbers_back k n fs ns h).count

-- ---- so many numbers are the first, the second, and so on
none : (ns : List ℕ) → length ns ≡ 0 → [] ≡ ns
none ns h = sym (nil_from_length ns h)

one : (ns : List ℕ) → length ns ≡ 1 → at ns 0 ∷ [] ≡ ns
one [] h = absurd (omega arith)
one (a ∷ ns) h = ap (λ (r : List ℕ). a ∷ r) (none ns (omega arith))

two : (ns : List ℕ) → length ns ≡ 2 → at ns 0 ∷ at ns 1 ∷ [] ≡ ns
two [] h = absurd (omega arith)
two (a ∷ ns) h = ap (λ (r : List ℕ). a ∷ r) (one ns (omega arith))

three : (ns : List ℕ) → length ns ≡ 3 → at ns 0 ∷ at ns 1 ∷ at ns 2 ∷ [] ≡ ns
three [] h = absurd (omega arith)
three (a ∷ ns) h = ap (λ (r : List ℕ). a ∷ r) (two ns (omega arith))

four : (ns : List ℕ) → length ns ≡ 4 → at ns 0 ∷ at ns 1 ∷ at ns 2 ∷ at ns 3 ∷ [] ≡ ns
four [] h = absurd (omega arith)
four (a ∷ ns) h = ap (λ (r : List ℕ). a ∷ r) (three ns (omega arith))

-- ---- forms whose calls are written with the form's own word, and with the numbers that they are made of
pub data Faithful : List Form → Type 0 where
  last : Faithful []
  first : {f : Form} {fs : List Form} → ((ns : List ℕ) → form_of (f.call ns) ≡ f) → ((ns : List ℕ) → length ns ≡ f.count → numbers_of (f.call ns) ≡ ns) → Faithful fs → Faithful (f ∷ fs)

-- the nine forms' are
pub all_faithful : Faithful forms
unfolding forms deposit_form claim_form transfer_form withdraw_form send_form settle_form grant_form sign_form trace_form form_of numbers_of
all_faithful =
    Faithful.first (λ ns. refl) four
    (Faithful.first (λ ns. refl) four
    (Faithful.first (λ ns. refl) four
    (Faithful.first (λ ns. refl) four
    (Faithful.first (λ ns. refl) none
    (Faithful.first (λ ns. refl) one (Faithful.first (λ ns. refl) three (Faithful.first (λ ns. refl) two (Faithful.first (λ ns. refl) one Faithful.last))))))))

-- so a call that some form reads is written with the word and the fields that were read
form_back : {gs : List Form} → Faithful gs → (word : List ℕ) (fs : List (List ℕ)) (c : Call) → read_as gs word fs ≡ Ok c → (word ++ after_tabs fs ≡ write_line c) × (fitting (numbers_of c) ≡ true)
unfolding read_as formed write_line
form_back Faithful.last word fs c h = absurd (not-malformed c h)
form_back (Faithful.first {f = g} {fs = gs} w m later) word fs c h = go (same g.word word) refl (wanted 1 g.count fs) refl h (form_back later word fs c)
  where
    go : (t : Bool) → same g.word word ≡ t → (rs : Numbers) → wanted 1 g.count fs ≡ rs → cond t (formed g rs) (read_as gs word fs) ≡ Ok c
        → (read_as gs word fs ≡ Ok c → (word ++ after_tabs fs ≡ write_line c) × (fitting (numbers_of c) ≡ true)) → (word ++ after_tabs fs ≡ write_line c) × (fitting (numbers_of c) ≡ true)
    go true e (Numbers.all_read ns) q k ih =
        let p : g.call ns ≡ c = cc in
        let r : Fields g.count fs ns = numbers_back 1 g.count fs ns q in
        let same_word : (form_of c).word ≡ word = rw (← p) (ap (λ (x : Form). x.word) (w ns) ∙ same_eq g.word word e) in
        let same_numbers : numbers_of c ≡ ns = rw (← p) (m ns r.count) in
        (rw (same_word, same_numbers, r.written), rw same_numbers r.fit)
    go true e (Numbers.fails_at j) q k ih = absurd (not-malformed c k)
    go false e rs q k ih = ih k

-- ---- a line that is read
line_back : (gs : List (List ℕ)) (s : List ℕ) (c : Call) → after_tabs gs ≡ tab ∷ s → read_fields gs ≡ Ok c → (s ≡ write_line c) × (fitting (numbers_of c) ≡ true)
unfolding read_fields joined
line_back [] s c e h = absurd (not-malformed c h)
line_back (word ∷ fs) s c e h =
    let (w, n) = form_back all_faithful word fs c h in
    (sym (ap (drop 1) e) ∙ w, n)

-- what is never read is no call
pub never_call : (l : Line) (c : Call) → unread l ≡ Ok c → ⊥
unfolding unread
never_call (Ok d) c h = not-malformed c h
never_call (Err e) c h = not-malformed c h

-- a call that is read is one of a line that is not too long
pub read_short : (s : List ℕ) (c : Call) → read_line s ≡ Ok c → (length s ≤ most_bytes) × (read_whole s ≡ Ok c)
unfolding read_line
read_short s c h = go (leb (length s) most_bytes) refl h
  where
    go : (t : Bool) → leb (length s) most_bytes ≡ t → cond t (read_whole s) (unread (read_whole s)) ≡ Ok c → (length s ≤ most_bytes) × (read_whole s ≡ Ok c)
    go true e k = (leb-true (length s) most_bytes e, k)
    go false e k = absurd (never_call (read_whole s) c k)

reads-written : (s : List ℕ) (c : Call) → read_line s ≡ Ok c → IsWritten s c
reads-written s c h =
    let (short, whole) = read_short s c h in
    let (w, n) = line_back (fields s) s c (unfold fields in fields_back [] s) whole in
    record { text = w; short = short; numbers = n }

-- all that is promised of reading
pub reading : Reading
unfolding read_input
reading =
    record {
      finished = λ s. refl;
      unfinished = λ s. never_call (read_whole s);
      exactly = λ s c. (reads-written s c, λ w. rw w.text (read_back c w.numbers (rw w.text at w.short)));
    }
