-- What follows from the promises, said as people ask for it.
use Rattle.std.specs.Prelude.{Ok}
use Prim.Native.Nat.{ℕ, ◌≤◌}
use mathlib.Core.Path.{◌≡◌, refl, ap, ◌∙◌}
use mathlib.Core.Logic.{◌≢◌}
use mathlib.Core.Bool.{Bool, true, false, cond, or-true}
use mathlib.Core.List.{List, [], ◌∷◌, ◌++◌, map}
use native.Mathlib.Omega.{arith}
use lib.Dec.{leb, eqb}
use lib.ListN.{length, drop, length-append}
use borrow.Author.Tests.{leb-true}
use Rattle.promises.specs.Types.{Call}
use Rattle.rules.specs.Limits.{most_bytes, highest_field}
use Rattle.rules.specs.Lists.{all, any, bytes}
use Rattle.rules.specs.State.{Book, Empty}
use Rattle.rules.specs.Runs.{run}
use Rattle.rules.specs.Lines.{tab, fields_from, fields, Numbers, wanted, read_line, decimal, tabbed, form_of, numbers_of, write_line, deposit_form, claim_form, transfer_form, withdraw_form, send_form, settle_form, grant_form, sign_form, trace_form}
use Rattle.rules.specs.Transcript.{InputLine, read_input}
use Rattle.rules.proofs.ReadBack.{untabbed, fields-tabbed, numbers-decimal, length-tabbed}
use Rattle.promises.specs.Demand1.{is_empty}
use Rattle.promises.specs.Started.{Since}
use Rattle.promises.specs.Promises.{IsWritten}
use Rattle.promises.proofs.Promises.{promises}

-- ---- one list of calls after another
-- calls can start from every book that calls led to from an empty one
pub since_then : (b : Book) (cs more : List Call) → Empty b → Since (run b cs) more
since_then b cs more e = promises.since (run b cs) more (promises.since b cs (promises.starts b e)).started

-- ---- empty fields
-- what stands in front of a tab leaves the fields after it as they are, so an empty one among them stays
tab-before : (after : List ℕ) → any is_empty (fields after) ≡ true → (before s : List ℕ) → any is_empty (fields_from before (s ++ (tab ∷ after))) ≡ true
unfolding any fields fields_from
tab-before after h before [] = rw (h, or-true)
tab-before after h before (b ∷ s) = go (eqb b tab) (tab-before after h [] s) (tab-before after h (before ++ (b ∷ [])) s)
  where
    go : (t : Bool) → any is_empty (fields_from [] (s ++ (tab ∷ after))) ≡ true → any is_empty (fields_from (before ++ (b ∷ [])) (s ++ (tab ∷ after))) ≡ true
        → any is_empty (cond t (before ∷ fields_from [] (s ++ (tab ∷ after))) (fields_from (before ++ (b ∷ [])) (s ++ (tab ∷ after)))) ≡ true
    go true p q = rw (p, or-true)
    go false p q = q

-- a tab first: the first field is empty
tab-first : (after : List ℕ) → any is_empty (fields (tab ∷ after)) ≡ true
unfolding any fields fields_from
tab-first after = refl

abbrev finished : List ℕ → InputLine
finished s = record { text = s; finished = true }

-- so a line with two tabs together is no call, nor is one with a tab first or last, whatever stands around them
pub two_tabs : (before after : List ℕ) (c : Call) → read_input (finished (before ++ (tab ∷ tab ∷ after))) ≢ Ok c
two_tabs before after = promises.demand1.which_field.no_call (finished (before ++ (tab ∷ tab ∷ after))) (unfold fields in tab-before (tab ∷ after) (tab-first after) [] before)

pub first-tab : (after : List ℕ) (c : Call) → read_input (finished (tab ∷ after)) ≢ Ok c
first-tab after = promises.demand1.which_field.no_call (finished (tab ∷ after)) (tab-first after)

pub last-tab : (before : List ℕ) (c : Call) → read_input (finished (before ++ (tab ∷ []))) ≢ Ok c
last-tab before = promises.demand1.which_field.no_call (finished (before ++ (tab ∷ []))) (unfold fields fields_from any in tab-before [] refl [] before)

-- ---- calls and lines
-- the word of a call has no tab, and with four numbers that fit it is a short line
word_untabbed : (c : Call) → untabbed (form_of c).word ≡ true
unfolding all bytes form_of deposit_form claim_form transfer_form withdraw_form send_form settle_form grant_form sign_form trace_form
word_untabbed (Call.Deposit d) = refl
word_untabbed (Call.Claim c) = refl
word_untabbed (Call.Transfer t) = refl
word_untabbed (Call.Withdraw w) = refl
word_untabbed Call.Send = refl
word_untabbed (Call.Settle n) = refl
word_untabbed (Call.Grant g) = refl
word_untabbed (Call.Sign g) = refl
word_untabbed (Call.Trace n) = refl

word-short : (c : Call) → leb (length (form_of c).word) 8 ≡ true
unfolding bytes form_of deposit_form claim_form transfer_form withdraw_form send_form settle_form grant_form sign_form trace_form
word-short (Call.Deposit d) = refl
word-short (Call.Claim c) = refl
word-short (Call.Transfer t) = refl
word-short (Call.Withdraw w) = refl
word-short Call.Send = refl
word-short (Call.Settle n) = refl
word-short (Call.Grant g) = refl
word-short (Call.Sign g) = refl
word-short (Call.Trace n) = refl

few-numbers : (c : Call) → leb (length (numbers_of c)) 4 ≡ true
unfolding numbers_of
few-numbers (Call.Deposit d) = refl
few-numbers (Call.Claim c) = refl
few-numbers (Call.Transfer t) = refl
few-numbers (Call.Withdraw w) = refl
few-numbers Call.Send = refl
few-numbers (Call.Settle n) = refl
few-numbers (Call.Grant g) = refl
few-numbers (Call.Sign g) = refl
few-numbers (Call.Trace n) = refl

-- so a call whose numbers fit is written in at most 120 bytes, and is read as that call
pub written_read : (c : Call) → all (λ n. leb n highest_field) (numbers_of c) ≡ true → read_line (write_line c) ≡ Ok c
written_read c f = (promises.demand1.reading.exactly (write_line c) c).1 (record { text = refl; short = short; numbers = f })
  where
    short : length (write_line c) ≤ most_bytes
    short =
        unfold write_line in
        rw (length-append (form_of c).word (tabbed (numbers_of c)))
        (omega (arith, leb-true (length (form_of c).word) 8 (word-short c), leb-true (length (numbers_of c)) 4 (few-numbers c), length-tabbed (numbers_of c) f))

-- the numbers of a call that is read are those of the fields after the word, as many and in the same order
pub none_missing : (s : List ℕ) (c : Call) → read_line s ≡ Ok c → wanted 1 (length (numbers_of c)) (drop 1 (fields s)) ≡ Numbers.all_read (numbers_of c)
none_missing s c h =
    let w : IsWritten s c = (promises.demand1.reading.exactly s c).0 h in
    let parted : fields s ≡ (form_of c).word ∷ map decimal (numbers_of c) = rw w.text (unfold write_line in fields-tabbed (form_of c).word (numbers_of c) (word_untabbed c) w.numbers) in
    ap (λ (fs : List (List ℕ)). wanted 1 (length (numbers_of c)) (drop 1 fs)) parted ∙ numbers-decimal 1 (numbers_of c) w.numbers
