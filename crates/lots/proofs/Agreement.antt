-- In a history in frame the lots agree with the balances and with provenance, record after record: what a line is worth is the member's balance, and so every payment finds enough in its line.
use Rattle.std.specs.Prelude.{Ok, Err}
use Prim.Native.Nat.{ℕ, zero, suc, ◌*◌, ◌≤◌}
use mathlib.Core.Path.{◌≡◌, refl, sym, ap, ◌∙◌}
use mathlib.Core.Bool.{Bool, true, false, ◌&&◌, cond, or-true, and-eq-true_iff}
use mathlib.Core.List.{List, [], ◌∷◌, ◌++◌, append-nil}
use lib.ListN.{length, get_or, replicate}
use lib.Seq.{append_snoc}
use borrow.Author.Tests.{lt-ltb, eq-eqb}
use Rattle.rules.specs.declared.rows.Record.{Record}
use Rattle.rules.specs.declared.rows.Lot.{Lot}
use Rattle.rules.specs.Limits.{member_count, asset_count, is_member, is_asset}
use Rattle.rules.specs.Lists.{all, any, those, sum_of}
use Rattle.rules.specs.State.{empty_state}
use Rattle.rules.specs.Effects.{balance, cell}
use Rattle.rules.specs.declared.rows.Kind.{Kind}
use Rattle.rules.specs.Kinds.{AnyKind}
use Rattle.rules.specs.History.{kind_of, counted_as, provenance, provenance_of, Standing, standing_from, standing_as, standing_after, fits_as, replays, passes_from}
use Rattle.rules.specs.Lots.{line, lot_of, lots_as, lots_after, replay}
use Rattle.rules.proofs.Digits.{all_imply}
use Rattle.lots.specs.Traces.{line_worth, is_positive, is_named, claims_deposit, standing_through}
use Rattle.lots.proofs.ListLaws.{any_append}
use Rattle.lots.proofs.Fits.{Pays, claim-fits, transfer-fits, withdrawal-fits, claim_kind}
use Rattle.lots.proofs.LotTests.{lots-all}
use Rattle.lots.proofs.LotWorth.{claim-worth, transfer-worth, withdrawal-worth}
use Rattle.lots.proofs.BalanceLaws.{standing_sized, balance-counted}
use Rattle.lots.proofs.ProvenanceLaws.{provenance-last}

-- after these records, with these balances and these lots: every line is worth the balance, which is the provenance; every lot is positive; and a claim before names its deposit
pub record Agrees (h : List Record) (s : Standing) (ls : List Lot) : Type 0 where
  pub sized : length s.balances ≡ member_count * asset_count
  pub balances : (n b : ℕ) → line_worth n b ls ≡ balance s.balances n b
  pub provenances : (n b : ℕ) → line_worth n b ls ≡ provenance_of n b h
  pub positive : all is_positive ls ≡ true
  pub named : all (is_named h) ls ≡ true

-- ---- one record more
module _ (h : List Record) (s : Standing) (ls : List Lot) (g : Agrees h s ls) (r : Record) where
  -- the first member's line has what the balance has
  in_line_lem : Pays s r → r.amount ≤ line_worth r.first r.asset ls
  in_line_lem p = rw (g.balances r.first r.asset) p.covered

  -- every line's worth changes as provenance counts the record
  worth-counted : (k : AnyKind) → fits_as k s r ≡ true → (n b : ℕ) → line_worth n b (lots_as k ls r) ≡ counted_as k n b r (line_worth n b ls)
  unfolding lots_as counted_as fits_as
  worth-counted (Ok Kind.Claim) f n b = claim-worth n b ls r
  worth-counted (Ok Kind.Transfer) f n b =
      let p = transfer-fits s r f in
      transfer-worth n b ls r p.apart (in_line_lem p.pays)
  worth-counted (Ok Kind.Withdrawal) f n b = withdrawal-worth n b ls r (in_line_lem (withdrawal-fits s r f))
  worth-counted (Ok Kind.Grant) f n b = refl
  worth-counted (Err e) f n b = refl

  -- a claim that names a lot's deposit is still there
  named_still : all (is_named (h ++ (r ∷ []))) ls ≡ true
  named_still = all_imply (is_named h) (is_named (h ++ (r ∷ []))) (λ l c. rw (any_append (claims_deposit l.asset l.number.0) h (r ∷ []), c)) ls g.named

  -- and a claim names the deposit of its own lot
  named_new : kind_of r ≡ Ok Kind.Claim → is_named (h ++ (r ∷ [])) (lot_of r) ≡ true
  unfolding any
  named_new c =
      rw (
        any_append (claims_deposit r.asset r.second) h (r ∷ []),
        claim_kind r c,
        eq-eqb r.asset r.asset refl,
        eq-eqb r.second r.second refl,
      )
      (or-true (any (claims_deposit r.asset r.second) h))

  -- all of it holds after the record
  agrees_after : (k : AnyKind) → kind_of r ≡ k → fits_as k s r ≡ true → Agrees (h ++ (r ∷ [])) (standing_as k s r) (lots_as k ls r)
  agrees_after k e f =
      record {
        sized = standing_sized k s r ∙ g.sized;
        balances = λ n b. worth-counted k f n b ∙ ap (counted_as k n b r) (g.balances n b) ∙ sym (balance-counted k s r n b g.sized f);
        provenances = λ n b. worth-counted k f n b ∙ ap (counted_as k n b r) (g.provenances n b) ∙ rw (provenance-last n b h r, e);
        positive = lots-all is_positive (λ l x p c. lt-ltb 0 x p) (λ l m c. c) k ls r g.positive (λ c. lt-ltb 0 r.amount (claim-fits s r (rw c at f)).amount);
        named = lots-all (is_named (h ++ (r ∷ []))) (λ l x p c. c) (λ l m c. c) k ls r named_still (λ c. named_new (e ∙ c));
      }

-- and after any more records that the test passes
agrees_through : (rest h : List Record) (s : Standing) (ls : List Lot) → Agrees h s ls → replays s rest ≡ true → Agrees (h ++ rest) (standing_through s rest) (replay ls rest)
unfolding replays standing_through replay
agrees_through [] h s ls g f = rw append-nil g
agrees_through (r ∷ rest) h s ls g f =
    let (u, v) = (and-eq-true_iff (fits_as (kind_of r) s r) (replays (standing_after s r) rest)).0 f in
    rw (← append_snoc h r rest) (agrees_through rest (h ++ (r ∷ [])) (standing_after s r) (lots_after ls r) (agrees_after h s ls g r (kind_of r) refl u) v)

-- ---- from an empty book on
-- a cell of zeros is 0, and so is a balance
pub zeros : (k i : ℕ) → ◌≡◌ {A = ℕ} (get_or (replicate k 0) i 0) 0
zeros zero i = refl
zeros (suc k) zero = refl
zeros (suc k) (suc i) = zeros k i

pub zero-balance : (k n b : ℕ) → balance (replicate k 0) n b ≡ 0
unfolding balance
zero-balance k n b = go (is_member n && is_asset b)
  where
    go : (t : Bool) → ◌≡◌ {A = ℕ} (cond t (get_or (replicate k 0) (cell n b) 0) 0) 0
    go true = zeros k (cell n b)
    go false = refl

-- before any record there is nothing, everywhere
agrees_empty : (holders : List ℕ) → Agrees [] (standing_from holders) []
unfolding standing_from empty_state all those sum_of line provenance
agrees_empty holders =
    record {
      sized = refl;
      balances = λ n b. sym (zero-balance 128 n b);
      provenances = λ n b. refl;
      positive = refl;
      named = refl;
    }

-- so the lots agree with the balances after every history that passes its test, whoever held the domains at first
module _ (holders : List ℕ) (h : List Record) (f : passes_from holders h ≡ true) where
  pub in_frame_agrees : Agrees h (standing_through (standing_from holders) h) (replay [] h)
  in_frame_agrees = agrees_through h [] (standing_from holders) [] (agrees_empty holders) f

  -- ---- what is asked of it
  -- a line is worth the balance that the replay has, and that is the provenance
  pub balance-provenance : (m a : ℕ) → balance (standing_through (standing_from holders) h).balances m a ≡ provenance_of m a h
  balance-provenance m a = sym (in_frame_agrees.balances m a) ∙ in_frame_agrees.provenances m a
