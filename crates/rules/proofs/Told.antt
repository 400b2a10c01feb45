-- What is told of an answer determines it, so a contract that fixes the reply fixes the answer; and two results that a call's contract allows are the same.
use Prim.Native.Nat.{ℕ, ◌≤◌}
use mathlib.Core.Path.{◌≡◌, refl, sym, ap, ◌∙◌}
use mathlib.Core.Bool.{false, cond}
use mathlib.Core.List.{List, [], ◌∷◌}
use lib.Dec.{eqb, lit≤}
use lib.ListN.{get_or}
use native.Mathlib.Omega.{arith}
use borrow.Author.Tests.{ne_eqb}
use Rattle.std.specs.Prelude.{Result, Ok, Err}
use Rattle.rules.specs.Types.{Refusal, Done, Answer}
use Rattle.rules.specs.State.{Book}
use Rattle.rules.specs.Replies.{Reply, plain, told_refusal, number_of, told, answered, plainly, told_origin}
use Rattle.rules.specs.Answer.{Outcome, outcome_of}

-- ---- the refusal of a reply
refusals : ℕ → List Refusal
refusals k =
    Refusal.Malformed k
    ∷ Refusal.Malformed k
    ∷ Refusal.BadBook
    ∷ Refusal.BadMember
    ∷ Refusal.BadAsset
    ∷ Refusal.BadDomain
    ∷ Refusal.BadAmount
    ∷ Refusal.BadPayee
    ∷ Refusal.SameMember
    ∷ Refusal.Old
    ∷ Refusal.Gap
    ∷ Refusal.Ceiling
    ∷ Refusal.InboxFull
    ∷ Refusal.NoSuchDeposit
    ∷ Refusal.Short
    ∷ Refusal.NotHolder
    ∷ Refusal.OutboxFull
    ∷ Refusal.HistoryFull
    ∷ Refusal.NothingWaiting
    ∷ Refusal.NotNext
    ∷ Refusal.TableSmall
    ∷ Refusal.NoSuchPayment
    ∷ []

refusal_of : Reply → Refusal
refusal_of r = get_or (refusals (get_or r.values 0 0)) r.number (Refusal.Malformed 0)

refusal_back : (r : Refusal) → refusal_of (told_refusal r) ≡ r
unfolding refusal_of refusals told_refusal
refusal_back (Refusal.Malformed k) = refl
refusal_back Refusal.BadBook = refl
refusal_back Refusal.BadMember = refl
refusal_back Refusal.BadAsset = refl
refusal_back Refusal.BadDomain = refl
refusal_back Refusal.BadAmount = refl
refusal_back Refusal.BadPayee = refl
refusal_back Refusal.SameMember = refl
refusal_back Refusal.Old = refl
refusal_back Refusal.Gap = refl
refusal_back Refusal.Ceiling = refl
refusal_back Refusal.InboxFull = refl
refusal_back Refusal.NoSuchDeposit = refl
refusal_back Refusal.Short = refl
refusal_back Refusal.NotHolder = refl
refusal_back Refusal.OutboxFull = refl
refusal_back Refusal.HistoryFull = refl
refusal_back Refusal.NothingWaiting = refl
refusal_back Refusal.NotNext = refl
refusal_back Refusal.TableSmall = refl
refusal_back Refusal.NoSuchPayment = refl

-- a refusal's number is never 0
pub refusal_number : (r : Refusal) → 1 ≤ number_of r
unfolding told_refusal
refusal_number (Refusal.Malformed k) = lit≤ tt
refusal_number Refusal.BadBook = lit≤ tt
refusal_number Refusal.BadMember = lit≤ tt
refusal_number Refusal.BadAsset = lit≤ tt
refusal_number Refusal.BadDomain = lit≤ tt
refusal_number Refusal.BadAmount = lit≤ tt
refusal_number Refusal.BadPayee = lit≤ tt
refusal_number Refusal.SameMember = lit≤ tt
refusal_number Refusal.Old = lit≤ tt
refusal_number Refusal.Gap = lit≤ tt
refusal_number Refusal.Ceiling = lit≤ tt
refusal_number Refusal.InboxFull = lit≤ tt
refusal_number Refusal.NoSuchDeposit = lit≤ tt
refusal_number Refusal.Short = lit≤ tt
refusal_number Refusal.NotHolder = lit≤ tt
refusal_number Refusal.OutboxFull = lit≤ tt
refusal_number Refusal.HistoryFull = lit≤ tt
refusal_number Refusal.NothingWaiting = lit≤ tt
refusal_number Refusal.NotNext = lit≤ tt
refusal_number Refusal.TableSmall = lit≤ tt
refusal_number Refusal.NoSuchPayment = lit≤ tt

-- a refusal is Malformed, which tells its field, or it tells its number alone
pub data Telling : Refusal → Type 0 where
  field : (k : ℕ) → Telling (Refusal.Malformed k)
  alone : {r : Refusal} → told_refusal r ≡ plain (number_of r) → Telling r

pub telling : (r : Refusal) → Telling r
unfolding told_refusal
telling (Refusal.Malformed k) = Telling.field k
telling Refusal.BadBook = Telling.alone refl
telling Refusal.BadMember = Telling.alone refl
telling Refusal.BadAsset = Telling.alone refl
telling Refusal.BadDomain = Telling.alone refl
telling Refusal.BadAmount = Telling.alone refl
telling Refusal.BadPayee = Telling.alone refl
telling Refusal.SameMember = Telling.alone refl
telling Refusal.Old = Telling.alone refl
telling Refusal.Gap = Telling.alone refl
telling Refusal.Ceiling = Telling.alone refl
telling Refusal.InboxFull = Telling.alone refl
telling Refusal.NoSuchDeposit = Telling.alone refl
telling Refusal.Short = Telling.alone refl
telling Refusal.NotHolder = Telling.alone refl
telling Refusal.OutboxFull = Telling.alone refl
telling Refusal.HistoryFull = Telling.alone refl
telling Refusal.NothingWaiting = Telling.alone refl
telling Refusal.NotNext = Telling.alone refl
telling Refusal.TableSmall = Telling.alone refl
telling Refusal.NoSuchPayment = Telling.alone refl

-- ---- the answer of a reply
untold_done : List ℕ → Answer
untold_done [] = (Ok Done.Plain)
untold_done (n ∷ []) = Ok (Done.Traced n)
untold_done (n ∷ a ∷ vs) = Ok (Done.Sent (record { asset = a; amount = get_or vs 0 0; payee = get_or vs 1 0; nonce = record { 0 = n } }))

untold : Reply → Answer
untold r = cond (eqb r.number 0) (untold_done r.values) (Err (refusal_of r))

not-nought : (n : ℕ) → 1 ≤ n → eqb n 0 ≡ false
not-nought n h = ne_eqb n 0 (λ e. omega arith)

untold_told : (a : Answer) → untold (told a) ≡ a
unfolding untold untold_done told
untold_told (Ok Done.Plain) = refl
untold_told (Ok (Done.Sent p)) = refl
untold_told (Ok (Done.Traced n)) = refl
untold_told (Err r) = rw (not-nought (number_of r) (refusal_number r), refusal_back r)

pub told_once : (a b : Answer) → told a ≡ told b → a ≡ b
told_once a b e = sym (untold_told a) ∙ ap untold e ∙ untold_told b

-- the same of the question for a provenance
untold_origin : Reply → Result ℕ Refusal
untold_origin r = cond (eqb r.number 0) (Ok (get_or r.values 0 0)) (Err (refusal_of r))

untold_origin_lem : (o : Result ℕ Refusal) → untold_origin (told_origin o) ≡ o
unfolding untold_origin told_origin
untold_origin_lem (Ok n) = refl
untold_origin_lem (Err r) = rw (not-nought (number_of r) (refusal_number r), refusal_back r)

pub origin_once : (a b : Result ℕ Refusal) → told_origin a ≡ told_origin b → a ≡ b
origin_once a b e = sym (untold_origin_lem a) ∙ ap untold_origin e ∙ untold_origin_lem b

-- ---- any two results that a call's contract allows coincide: the answer, the desk and every number of the tables
pub outcome_once : (o : Outcome) {a a' : Answer} {b b' : Book} → outcome_of a b ≡ o → outcome_of a' b' ≡ o → (a ≡ a') × (b ≡ b')
outcome_once o {a} {a'} {b} {b'} p q =
    let e : outcome_of a b ≡ outcome_of a' b' = p ∙ sym q in (
      told_once a a' (ap (λ (x : Outcome). x.reply) e),
      ap (λ (x : Outcome). x.book) e,
    )

-- what a call of the library answers determines what it gives
taken_from : {A : Type 0} → A → (Done → A) → Answer → Result A Refusal
taken_from x f (Ok d) = Ok (f d)
taken_from x f (Err r) = Err r

taken_back : {A : Type 0} (x : A) (gives : A → Done) (f : Done → A) → ((y : A) → f (gives y) ≡ y) → (r : Result A Refusal) → taken_from x f (answered gives r) ≡ r
unfolding taken_from
taken_back x gives f h (Ok y) = ap Ok (h y)
taken_back x gives f h (Err r) = refl

pub answered_once : {A : Type 0} (x : A) (gives : A → Done) (f : Done → A) → ((y : A) → f (gives y) ≡ y) → {r r' : Result A Refusal} → answered gives r ≡ answered gives r' → r ≡ r'
answered_once x gives f h {r} {r'} e = sym (taken_back x gives f h r) ∙ ap (taken_from x f) e ∙ taken_back x gives f h r'

pub plainly_once : {r r' : Result (Unit {0}) Refusal} → plainly r ≡ plainly r' → r ≡ r'
plainly_once e = answered_once tt (λ u. Done.Plain) (λ d. tt) (λ u. refl) e

-- of a function whose contract is an equation for its result
pub once : {A : Type 0} (x : A) {r r' : A} → r ≡ x → r' ≡ x → r ≡ r'
once x p q = p ∙ sym q
