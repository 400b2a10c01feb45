-- Reading a line that the writer wrote gives the call back, for every call whose fields fit in a line that is not too long.
use Rattle.std.specs.Prelude.{Ok}
use Prim.Native.Nat.{ℕ, ◌+◌, ◌*◌, ◌≤◌}
use mathlib.Core.Path.{◌≡◌, refl, sym, ap, ◌∙◌}
use mathlib.Core.Bool.{Bool, true, false, not, and-eq-true_iff}
use mathlib.Core.List.{List, [], ◌∷◌, ◌++◌, map, append-nil, append_assoc}
use native.Mathlib.Omega.{arith}
use lib.Dec.{leb, eqb}
use lib.ListN.{length, length-append}
use borrow.Author.Tests.{leb-true, le-leb, ne_eqb, eqb-true, eqb-false, not-true}
use Rattle.rules.specs.Types.{Call}
use Rattle.rules.specs.Limits.{highest_field, most_bytes}
use Rattle.rules.specs.Lists.{all, same, index_of, joined, bytes}
use Rattle.rules.specs.Lines.{tab, fields_from, fields, field_end, first_field, after_field, fields_after, is_digit, Numbers, and_read, wanted, Form, deposit_form, claim_form, transfer_form, withdraw_form, send_form, settle_form, grant_form, sign_form, trace_form, forms, formed, read_as, read_fields, read_line, decimal, tabbed, form_of, numbers_of, write_line}
use Rattle.rules.proofs.Digits.{all_imply, decimal_spells, number-decimal}

-- no byte of the piece is a tab
abbrev pub untabbed : List ℕ → Bool
untabbed f = all (λ b. not (eqb b tab)) f

-- every number is one that a field can hold
abbrev pub fitting : List ℕ → Bool
fitting ns = all (λ n. leb n highest_field) ns

-- ---- fields
-- a piece without a tab belongs to the field that was begun
fields-before : (before f r : List ℕ) → untabbed f ≡ true → fields_from before (f ++ r) ≡ fields_from (before ++ f) r
unfolding all fields_from
fields-before before [] r h = rw append-nil
fields-before before (b ∷ f) r h =
    let (a, t) = (and-eq-true_iff (not (eqb b tab)) (untabbed f)).0 h in
    rw (not-true (eqb b tab) a, fields-before (before ++ (b ∷ [])) f r t, append_assoc)

-- a piece without a tab, and then a tab: the piece is the first field
pub fields-piece : (f rest : List ℕ) → untabbed f ≡ true → fields (f ++ (tab ∷ rest)) ≡ f ∷ fields rest
unfolding fields fields_from
fields-piece f rest h = fields-before [] f (tab ∷ rest) h

-- a piece without a tab is one field
pub fields-last : (f : List ℕ) → untabbed f ≡ true → fields f ≡ f ∷ []
unfolding fields fields_from
fields-last f h = rw append-nil at (fields-before [] f [] h)

-- no digit is a tab
decimal_untabbed : (n : ℕ) → n ≤ highest_field → untabbed (decimal n) ≡ true
decimal_untabbed n h = all_imply is_digit (λ b. not (eqb b tab)) no_tab (decimal n) (decimal_spells n h).digits
  where
    no_tab : (b : ℕ) → is_digit b ≡ true → not (eqb b tab) ≡ true
    no_tab b d =
        let low : 48 ≤ b = leb-true 48 b ((and-eq-true_iff (leb 48 b) (leb b 57)).0 d).0 in
        rw (ne_eqb b tab (λ e. omega arith))

-- ---- numbers
-- of numbers that fit the first fits, and so do the others
first_fits : (n : ℕ) (ns : List ℕ) → fitting (n ∷ ns) ≡ true → (n ≤ highest_field) × (fitting ns ≡ true)
unfolding all
first_fits n ns h =
    let (a, t) = (and-eq-true_iff (leb n highest_field) (fitting ns)).0 h in
    (leb-true n highest_field a, t)

-- a word and its numbers, each after a tab, are parted again
pub fields-tabbed : (w ns : List ℕ) → untabbed w ≡ true → fitting ns ≡ true → fields (w ++ tabbed ns) ≡ w ∷ map decimal ns
unfolding tabbed joined
fields-tabbed w [] u h = rw append-nil (fields-last w u)
fields-tabbed w (n ∷ ns) u h =
    let (a, t) = first_fits n ns h in
    fields-piece w (decimal n ++ tabbed ns) u ∙ ap (λ (fs : List (List ℕ)). w ∷ fs) (fields-tabbed (decimal n) ns (decimal_untabbed n a) t)

-- the numbers' fields are read as the numbers, where as many are wanted
pub numbers-decimal : (k : ℕ) (ns : List ℕ) → fitting ns ≡ true → wanted k (length ns) (map decimal ns) ≡ Numbers.all_read ns
unfolding wanted and_read
numbers-decimal k [] h = refl
numbers-decimal k (n ∷ ns) h =
    let (a, t) = first_fits n ns h in
    rw (number-decimal k n a, numbers-decimal (k + 1) ns t)

-- each number takes at most 21 bytes, with its tab
pub length-tabbed : (ns : List ℕ) → fitting ns ≡ true → length (tabbed ns) ≤ 21 * length ns
unfolding tabbed joined
length-tabbed [] h = omega arith
length-tabbed (n ∷ ns) h =
    let (a, t) = first_fits n ns h in
    rw length-append (omega (arith, (decimal_spells n a).short, length-tabbed ns t))

-- ---- a line
-- a form whose word no other form has
abbrev pub Alone : Form → Type 0
Alone g = (fs : List (List ℕ)) → read_as forms g.word fs ≡ formed g (wanted 1 g.count fs)

-- each of the nine words is one form's
pub alone : (c : Call) → Alone (form_of c)
unfolding bytes same forms read_as form_of deposit_form claim_form transfer_form withdraw_form send_form settle_form grant_form sign_form trace_form
alone (Call.Deposit d) fs = refl
alone (Call.Claim c) fs = refl
alone (Call.Transfer t) fs = refl
alone (Call.Withdraw w) fs = refl
alone Call.Send fs = refl
alone (Call.Settle n) fs = refl
alone (Call.Grant g) fs = refl
alone (Call.Sign g) fs = refl
alone (Call.Trace n) fs = refl

-- a form's word without a tab, and as many numbers that fit as it wants, in a line that is not too long: read, it is the form's call
read_written : (g : Form) → Alone g → untabbed g.word ≡ true → (ns : List ℕ) → length ns ≡ g.count → fitting ns ≡ true → length (g.word ++ tabbed ns) ≤ most_bytes
    → read_line (g.word ++ tabbed ns) ≡ Ok (g.call ns)
unfolding read_line read_fields formed
read_written g a u ns n f short =
    rw (le-leb (length (g.word ++ tabbed ns)) most_bytes short, fields-tabbed g.word ns u f) (a (map decimal ns) ∙ rw (← n, numbers-decimal 1 ns f))

-- so every call that is written is read back
pub read_back : (c : Call) → fitting (numbers_of c) ≡ true → length (write_line c) ≤ most_bytes → read_line (write_line c) ≡ Ok c
unfolding all bytes form_of numbers_of write_line deposit_form claim_form transfer_form withdraw_form send_form settle_form grant_form sign_form trace_form
read_back (Call.Deposit d) = read_written deposit_form (alone (Call.Deposit d)) refl (numbers_of (Call.Deposit d)) refl
read_back (Call.Claim c) = read_written claim_form (alone (Call.Claim c)) refl (numbers_of (Call.Claim c)) refl
read_back (Call.Transfer t) = read_written transfer_form (alone (Call.Transfer t)) refl (numbers_of (Call.Transfer t)) refl
read_back (Call.Withdraw w) = read_written withdraw_form (alone (Call.Withdraw w)) refl (numbers_of (Call.Withdraw w)) refl
read_back Call.Send = read_written send_form (alone Call.Send) refl (numbers_of Call.Send) refl
read_back (Call.Settle n) = read_written settle_form (alone (Call.Settle n)) refl (numbers_of (Call.Settle n)) refl
read_back (Call.Grant g) = read_written grant_form (alone (Call.Grant g)) refl (numbers_of (Call.Grant g)) refl
read_back (Call.Sign g) = read_written sign_form (alone (Call.Sign g)) refl (numbers_of (Call.Sign g)) refl
read_back (Call.Trace n) = read_written trace_form (alone (Call.Trace n)) refl (numbers_of (Call.Trace n)) refl

-- ---- one field at a time, as the field reader takes them
fields-from : (before s : List ℕ) → fields_from before s ≡ (before ++ first_field s) ∷ fields_after (after_field s)
unfolding fields_from field_end index_of fields_after fields
fields-from before [] = rw append-nil
fields-from before (b ∷ s) = go (eqb tab b) refl (fields-from (before ++ (b ∷ [])) s)
  where
    go : (t : Bool) → eqb tab b ≡ t
        → fields_from (before ++ (b ∷ [])) s ≡ (before ++ (b ∷ []) ++ first_field s) ∷ fields_after (after_field s)
        → fields_from before (b ∷ s) ≡ (before ++ first_field (b ∷ s)) ∷ fields_after (after_field (b ∷ s))
    go true e ih =
        let q : b ≡ tab = sym (eqb-true tab b e) in
        rw (q, append-nil)
    go false e ih =
        let q : eqb b tab ≡ false = ne_eqb b tab (λ p. eqb-false tab b e (sym p)) in
        rw (e, q, ih, append_assoc)

-- the first field, and then the fields of the part that is handed back
pub fields-first : (s : List ℕ) → fields s ≡ first_field s ∷ fields_after (after_field s)
unfolding fields
fields-first s = fields-from [] s
