-- Document 01, "Reply numbers", and document 02, "Say which field": the table, what each answer is told as, and which of several refusals is given.
use Rattle.std.specs.Prelude.{ℕ, zero, suc, min, Bool, cond, List, [], ◌∷◌, Result, Ok, Err}
use Rattle.rules.specs.Types.{Refusal, Done, Answer}

-- a reply: its number, and the values that come after it
pub record Reply : Type 0 where
  pub number : ℕ
  pub values : List ℕ

-- a reply that is a number alone
abbrev pub plain : ℕ → Reply
plain n = record { number = n; values = [] }

-- the table: "a refusal returns its number alone", but "the runner adds the field number after reply 1"
unfoldable pub told_refusal : Refusal → Reply
told_refusal (Refusal.Malformed k) = record { number = 1; values = k ∷ [] }
told_refusal Refusal.BadBook = plain 2
told_refusal Refusal.BadMember = plain 3
told_refusal Refusal.BadAsset = plain 4
told_refusal Refusal.BadDomain = plain 5
told_refusal Refusal.BadAmount = plain 6
told_refusal Refusal.BadPayee = plain 7
told_refusal Refusal.SameMember = plain 8
told_refusal Refusal.Old = plain 9
told_refusal Refusal.Gap = plain 10
told_refusal Refusal.Ceiling = plain 11
told_refusal Refusal.InboxFull = plain 12
told_refusal Refusal.NoSuchDeposit = plain 13
told_refusal Refusal.Short = plain 14
told_refusal Refusal.NotHolder = plain 15
told_refusal Refusal.OutboxFull = plain 16
told_refusal Refusal.HistoryFull = plain 17
told_refusal Refusal.NothingWaiting = plain 18
told_refusal Refusal.NotNext = plain 19
told_refusal Refusal.TableSmall = plain 20
told_refusal Refusal.NoSuchPayment = plain 21

abbrev pub number_of : Refusal → ℕ
number_of r = (told_refusal r).number

-- every answer's number and values: a send gives nonce, asset, amount, payee; a trace gives the piece count (its pieces lie in the table lent for them)
unfoldable pub told : Answer → Reply
told (Ok Done.Plain) = plain 0
told (Ok (Done.Sent p)) = record { number = 0; values = p.nonce.0 ∷ p.asset ∷ p.amount ∷ p.payee ∷ [] }
told (Ok (Done.Traced n)) = record { number = 0; values = n ∷ [] }
told (Err r) = told_refusal r

-- what a call of the library answers: a send gives a payment, a trace a count, the others nothing beside the number
abbrev pub answered : {A : Type 0} → (A → Done) → Result A Refusal → Answer
answered gives (Ok x) = Ok (gives x)
answered gives (Err r) = Err r

abbrev pub plainly : Result (Unit {0}) Refusal → Answer
plainly = answered (λ x. Done.Plain)

-- and those of the question for a provenance
unfoldable pub told_origin : Result ℕ Refusal → Reply
told_origin (Ok n) = record { number = 0; values = n ∷ [] }
told_origin (Err r) = told_refusal r

-- an entry of a call's table of refusals: the number, and whether it applies
abbrev pub refuse : Refusal → Bool → ℕ × Bool
refuse r applies = (number_of r, applies)

-- the smaller of two reply numbers, where 0 says that nothing applies
abbrev pub smaller : ℕ → ℕ → ℕ
smaller n zero = n
smaller n (suc m) = min n (suc m)

-- "Where several of a call's refusals apply, the smallest number is given": the least number whose test holds, or 0
unfoldable pub smallest : List (ℕ × Bool) → ℕ
smallest [] = 0
smallest (r ∷ rs) = cond r.1 (smaller r.0 (smallest rs)) (smallest rs)

-- this where the reply is Done, that where it is a refusal
abbrev pub if_done : {A : Type 0} → ℕ → A → A → A
if_done zero this that = this
if_done (suc n) this that = that
