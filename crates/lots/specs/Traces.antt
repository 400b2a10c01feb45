-- Words for what is promised of lots and traces: one line by itself, the withdrawal of a payment, and what comes before it.
use Rattle.std.specs.Prelude.{ℕ, ◌-◌, ◌≡◌, Bool, true, ◌&&◌, cond, List, [], ◌∷◌, ◌++◌, leb, ltb, eqb, get_or, replicate}
use Rattle.rules.specs.declared.rows.Record.{Record}
use Rattle.rules.specs.declared.rows.Lot.{Lot}
use Rattle.rules.specs.Lists.{all, any, those, sum_of, joined}
use Rattle.rules.specs.Tables.{no_record}
use Rattle.rules.specs.History.{is_withdrawal, withdrawals, Standing, standing_after}
use Rattle.rules.specs.Lots.{in_line, of_amount, line}

-- ---- one line
-- a member and an asset name the same line as another member and asset
abbrev pub same_line : ℕ → ℕ → ℕ → ℕ → Bool
same_line m a n b = eqb m n && eqb a b

-- taking x from the front of one line: the pieces, in the order taken
unfoldable pub taken_line : ℕ → List Lot → List Lot
taken_line x [] = []
taken_line x (l ∷ ls) =
    let whole = l ∷ taken_line (x - l.amount) ls in
    let split = of_amount x l ∷ [] in
    cond (eqb x 0) [] (cond (leb l.amount x) whole split)

-- and what is left of that line
unfoldable pub left_line : ℕ → List Lot → List Lot
left_line x [] = []
left_line x (l ∷ ls) =
    let whole = left_line (x - l.amount) ls in
    let split = of_amount (l.amount - x) l ∷ ls in
    cond (eqb x 0) (l ∷ ls) (cond (leb l.amount x) whole split)

-- what lots are worth together
abbrev pub worth : List Lot → ℕ
worth ls = sum_of (λ l. l.amount) ls

-- what a member's line for an asset is worth
abbrev pub line_worth : ℕ → ℕ → List Lot → ℕ
line_worth m a ls = worth (line m a ls)

-- lots as single coins, each with the number of the deposit that it came from: a lot of amount 3 of deposit 7 is the coins 7, 7, 7
abbrev pub coins : List Lot → List ℕ
coins ls = joined (λ l. replicate l.amount l.number.0) ls

-- a lot, or a piece of one, of a positive amount
abbrev pub is_positive : Lot → Bool
is_positive l = ltb 0 l.amount

-- ---- the replay
-- the balances and holders after all of a history, as the test of a history carries them
unfoldable pub standing_through : Standing → List Record → Standing
standing_through s [] = s
standing_through s (r ∷ rs) = standing_through (standing_after s r) rs

-- ---- payments
-- the record of payment n: of the history's withdrawals, the one with n before it
abbrev pub nth_withdrawal : ℕ → List Record → Record
nth_withdrawal n h = get_or (those is_withdrawal h) n no_record

-- the records before it, and those after it
unfoldable pub before_payment : ℕ → List Record → List Record
before_payment n [] = []
before_payment n (r ∷ rs) =
    let this = cond (eqb n 0) [] (r ∷ before_payment (n - 1) rs) in
    let later = r ∷ before_payment n rs in
    cond (is_withdrawal r) this later

unfoldable pub after_payment : ℕ → List Record → List Record
after_payment n [] = []
after_payment n (r ∷ rs) =
    let this = cond (eqb n 0) rs (after_payment (n - 1) rs) in
    let later = after_payment n rs in
    cond (is_withdrawal r) this later

-- the history is the records before, that withdrawal, and the records after; n withdrawals stand before it
pub record PaymentAt (n : ℕ) (h : List Record) : Type 0 where
  pub whole : h ≡ before_payment n h ++ (nth_withdrawal n h ∷ after_payment n h)
  pub paid : is_withdrawal (nth_withdrawal n h) ≡ true
  pub earlier : withdrawals (before_payment n h) ≡ n

-- ---- pieces
-- a claim of this asset that names this deposit number
abbrev pub claims_deposit : ℕ → ℕ → Record → Bool
claims_deposit a k r = eqb r.kind 1 && (eqb r.asset a && eqb r.second k)

-- some claim among these records names the lot's deposit number, in the lot's asset
abbrev pub is_named : List Record → Lot → Bool
is_named h l = any (claims_deposit l.asset l.number.0) h

-- what the pieces of a withdrawal are to be, after these records: together the amount withdrawn, each of the payer and the asset, none of them nothing, and each named by a claim before
pub record Traced (before : List Record) (w : Record) (ps : List Lot) : Type 0 where
  pub amount : worth ps ≡ w.amount
  pub owned : all (in_line w.first w.asset) ps ≡ true
  pub positive : all is_positive ps ≡ true
  pub named : all (is_named before) ps ≡ true
