-- The trace of a payment, coin by coin, is the front of the payer's line: what lots say and what coins say is one.
use Rattle.std.specs.Prelude.{Ok, Err}
use Prim.Native.Nat.{ℕ, ◌<◌}
use mathlib.Core.Path.{◌≡◌, refl, ap, ◌∙◌}
use mathlib.Core.Bool.{true}
use mathlib.Core.List.{List, [], ◌∷◌}
use lib.ListN.{take}
use Rattle.promises.specs.Types.{Nonce, Record, Lot, Kind}
use Rattle.rules.specs.Lists.{those, joined}
use Rattle.rules.specs.Kinds.{AnyKind}
use Rattle.rules.specs.History.{kind_of, withdrawals, Standing, standing_from, standing_after, fits_as, fits, replays, passes_from}
use Rattle.rules.specs.Lots.{line, lots_as, lots_after, replay, pieces}
use Rattle.rules.proofs.Tests.{both}
use Rattle.lots.specs.Traces.{coins, nth_withdrawal, before_payment}
use Rattle.lots.proofs.Fits.{transfer-fits}
use Rattle.lots.proofs.TraceLaws.{payment_covered}
use Rattle.lots.proofs.Coins.{claim-coins, transfer-coins, withdrawal-coins, trace-coins}
use Rattle.promises.specs.Demand2.{CoinLines, coins_as, coins_after, coins_in}

-- these lots are these coins, line by line
abbrev InCoins : List Lot → CoinLines → Type 0
InCoins ls lines = (m a : ℕ) → coins (line m a ls) ≡ lines m a

-- a record that fits does the same to both
same_record : (k : AnyKind) (s : Standing) (r : Record) (ls : List Lot) (lines : CoinLines) → fits_as k s r ≡ true → InCoins ls lines → InCoins (lots_as k ls r) (coins_as k r lines)
unfolding coins_as
same_record (Ok Kind.Claim) s r ls lines f e m a = claim-coins m a ls r ∙ rw (e m a)
same_record (Ok Kind.Transfer) s r ls lines f e m a = transfer-coins m a ls r (transfer-fits s r f).apart ∙ rw (e m a, e r.first r.asset)
same_record (Ok Kind.Withdrawal) s r ls lines f e m a = withdrawal-coins m a ls r ∙ rw (e m a)
same_record (Ok Kind.Grant) s r ls lines f e m a = unfold lots_as in e m a
same_record (Err k) s r ls lines f e m a = unfold lots_as in e m a

-- and so do all records of a history that the test passes
same_lines : (h : List Record) (s : Standing) (ls : List Lot) (lines : CoinLines) → replays s h ≡ true → InCoins ls lines → InCoins (replay ls h) (coins_after lines h)
unfolding replays replay coins_after
same_lines [] s ls lines f e = e
same_lines (r ∷ h) s ls lines f e =
    let (p, q) = both (fits s r) (replays (standing_after s r) h) f in
    same_lines h (standing_after s r) (lots_after ls r) (coins_as (kind_of r) r lines) q (same_record (kind_of r) s r ls lines p e)

-- so the pieces of payment n are the first coins of the payer's line
pub oldest-first : (holders : List ℕ) (h : List Record) (n : Nonce) → passes_from holders h ≡ true → n.0 < withdrawals h
    → coins (pieces h n) ≡ take (nth_withdrawal n.0 h).amount (coins_in (before_payment n.0 h) (nth_withdrawal n.0 h).first (nth_withdrawal n.0 h).asset)
oldest-first holders h n f i =
    let w : Record = nth_withdrawal n.0 h in
    trace-coins h n i
    ∙ ap (take w.amount) (same_lines (before_payment n.0 h) (standing_from holders) [] (λ m a. []) (payment_covered holders n.0 h f i).framed (unfold line those joined in λ m a. refl) w.first w.asset)
