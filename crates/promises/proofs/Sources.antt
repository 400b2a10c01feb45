-- Where claimed money comes from: the claims of the history are those that were there and then the accepted claims, and each of these met a deposit that was there or was accepted.
use mathlib.Core.Path.{◌≡◌, refl, sym, ap, ◌∙◌}
use mathlib.Core.Bool.{Bool, true, ◌&&◌, ◌||◌, or-true}
use mathlib.Core.List.{List, [], ◌∷◌, ◌++◌, map, map-append, append-nil, append_assoc}
use lib.Dec.{eqb}
use Rattle.promises.specs.Types.{Deposit, Record, Lot, ClaimFields, Call}
use Rattle.rules.specs.Lists.{all, any, those, index_of}
use Rattle.rules.specs.Tables.{edited}
use Rattle.rules.specs.State.{State, Book, view}
use Rattle.rules.specs.Effects.{effect, matches, inbox_edit, claim_record, records_of}
use Rattle.rules.specs.Runs.{run, depositing, deposits}
use Rattle.rules.proofs.Digits.{all_append, all_imply}
use Rattle.rules.specs.Facts.{Accepted, ClaimFit}
use Rattle.rules.proofs.Tests.{both}
use Rattle.rules.proofs.Accepts.{fit}
use Rattle.lots.specs.Traces.{claims_deposit, is_named}
use Rattle.lots.proofs.ListLaws.{any_append, those-append}
use Rattle.promises.specs.Demand2.{claiming, claims, claims_lot}
use Rattle.promises.proofs.Lists.{either, any-those, any_without, any-all, any-map}
use Rattle.promises.specs.Started.{Started}
use Rattle.promises.proofs.Reached.{started_keeps}

-- ---- the invariant
abbrev is_claim : Record → Bool
is_claim r = eqb r.kind 1

-- of what was there, and of the deposits and claims so far: the history's claims are those that were there and then those claims; whatever some row of the inbox passes, some deposit passes; and each claim met a deposit
record Sourced (h₀ : List Record) (ds₀ ds : List Deposit) (ks : List ClaimFields) (s : State) : Type 0 where
  claims : those is_claim s.history ≡ those is_claim h₀ ++ map claim_record ks
  inbox : (p : Deposit → Bool) → any p s.inbox ≡ true → any p (ds₀ ++ ds) ≡ true
  met : all (λ c. any (matches c) (ds₀ ++ ds)) ks ≡ true

module _ (h₀ : List Record) (ds₀ : List Deposit) where
  -- a call that neither deposits nor claims
  carried : (ds : List Deposit) (ks : List ClaimFields) (s : State) (rs : List Record) → those is_claim rs ≡ [] → (t : State) → t.inbox ≡ s.inbox → t.history ≡ s.history ++ rs
      → Sourced h₀ ds₀ ds ks s → Sourced h₀ ds₀ (ds ++ []) (ks ++ []) t
  carried ds ks s rs e t i j h =
      rw (append-nil ds, append-nil ks)
      record {
        claims = rw j (those-append is_claim s.history rs ∙ rw (e, append-nil (those is_claim s.history)) h.claims);
        inbox = rw i h.inbox;
        met = h.met;
      }

  -- a deposit
  sources_deposit : (ds : List Deposit) (ks : List ClaimFields) (s : State) (d : Deposit) → Sourced h₀ ds₀ ds ks s → Sourced h₀ ds₀ (ds ++ (d ∷ [])) (ks ++ []) (effect (Call.Deposit d) s)
  unfolding effect inbox_edit edited records_of
  sources_deposit ds ks s d h =
      rw (append-nil ks)
      record {
        claims = rw (append-nil s.history) h.claims;
        inbox = λ p e.
            rw (← append_assoc ds₀ ds (d ∷ []), any_append p (ds₀ ++ ds) (d ∷ []))
            (either (any p s.inbox) (any p (d ∷ [])) (rw (any_append p s.inbox (d ∷ [])) at e) (any p (ds₀ ++ ds) || any p (d ∷ [])) (λ f. rw (h.inbox p f)) (λ f. rw f (or-true (any p (ds₀ ++ ds)))));
        met = rw (← append_assoc ds₀ ds (d ∷ [])) (all_imply (λ c. any (matches c) (ds₀ ++ ds)) (λ c. any (matches c) (ds₀ ++ ds ++ (d ∷ []))) (λ c f. rw (any_append (matches c) (ds₀ ++ ds) (d ∷ []), f)) ks h.met);
      }

  -- a claim, of a row of the inbox
  sources_claim : (ds : List Deposit) (ks : List ClaimFields) (s : State) (c : ClaimFields) → any (matches c) s.inbox ≡ true → Sourced h₀ ds₀ ds ks s
      → Sourced h₀ ds₀ (ds ++ []) (ks ++ (c ∷ [])) (effect (Call.Claim c) s)
  unfolding effect inbox_edit edited records_of
  sources_claim ds ks s c found h =
      rw (append-nil ds)
      record {
        claims =
            those-append is_claim s.history (claim_record c ∷ [])
            ∙ rw h.claims (unfold those in (append_assoc (those is_claim h₀) (map claim_record ks) (claim_record c ∷ []) ∙ ap (λ (rs : List Record). those is_claim h₀ ++ rs) (sym (map-append claim_record ks (c ∷ [])))));
        inbox = λ p e. h.inbox p (any_without p s.inbox (index_of (matches c) s.inbox) e);
        met = rw (all_append (λ k. any (matches k) (ds₀ ++ ds)) ks (c ∷ []), h.met) (unfold all in rw (h.inbox (matches c) found));
      }

  -- every accepted call keeps it
  sources_kept : (ds : List Deposit) (ks : List ClaimFields) (b : Book) (c : Call) → Accepted b c → Started b → Sourced h₀ ds₀ ds ks (view b)
      → Sourced h₀ ds₀ (ds ++ depositing b c) (ks ++ claiming b c) (effect c (view b))
  unfolding depositing claiming effect inbox_edit edited records_of those
  sources_kept ds ks b (Call.Deposit d) a r h = sources_deposit ds ks (view b) d h
  sources_kept ds ks b (Call.Claim c) a r h =
      let k : ClaimFit (view b) c = fit b (Call.Claim c) a in
      sources_claim ds ks (view b) c k.found h
  sources_kept ds ks b (Call.Transfer t) a r h = carried ds ks (view b) (records_of (Call.Transfer t)) refl (effect (Call.Transfer t) (view b)) refl refl h
  sources_kept ds ks b (Call.Withdraw w) a r h = carried ds ks (view b) (records_of (Call.Withdraw w)) refl (effect (Call.Withdraw w) (view b)) refl refl h
  sources_kept ds ks b Call.Send a r h = carried ds ks (view b) [] refl (effect Call.Send (view b)) refl refl h
  sources_kept ds ks b (Call.Settle n) a r h = carried ds ks (view b) [] refl (effect (Call.Settle n) (view b)) refl refl h
  sources_kept ds ks b (Call.Grant g) a r h = carried ds ks (view b) (records_of (Call.Grant g)) refl (effect (Call.Grant g) (view b)) refl refl h
  sources_kept ds ks b (Call.Sign g) a r h = carried ds ks (view b) [] refl (effect (Call.Sign g) (view b)) refl refl h
  sources_kept ds ks b (Call.Trace n) a r h = carried ds ks (view b) [] refl (effect (Call.Trace n) (view b)) refl refl h

-- after any calls
sources_run : (b : Book) (cs : List Call) → Started b → Sourced (view b).history (view b).inbox (deposits b cs) (claims b cs) (view (run b cs))
sources_run b cs r = started_keeps depositing claiming (Sourced (view b).history (view b).inbox) (sources_kept (view b).history (view b).inbox) b cs r start
  where
    start : Sourced (view b).history (view b).inbox [] [] (view b)
    start = record { claims = sym (append-nil (those is_claim (view b).history)); inbox = λ p h. rw (append-nil (view b).inbox) h; met = unfold all in refl }

-- ---- what is asked of it
-- a lot that a claim of the history names was named by a claim that was there; or claimed by an accepted call, of a deposit that was there or was accepted
pub claimed_lot : (b : Book) (cs : List Call) → Started b → (l : Lot) → is_named (view (run b cs)).history l ≡ true
    → is_named (view b).history l || any (claims_lot ((view b).inbox ++ deposits b cs) l) (claims b cs) ≡ true
claimed_lot b cs r l h = either (is_named (view b).history l) (any q (claims b cs)) named (is_named (view b).history l || any (claims_lot known l) (claims b cs)) (λ f. rw f) later
  where
    known : List Deposit
    known = (view b).inbox ++ deposits b cs

    s : Sourced (view b).history (view b).inbox (deposits b cs) (claims b cs) (view (run b cs))
    s = sources_run b cs r

    p : Record → Bool
    p = claims_deposit l.asset l.number.0

    q : ClaimFields → Bool
    q c = p (claim_record c)

    chosen : (hs : List Record) → any p hs ≡ any p (those is_claim hs)
    chosen hs = any-those is_claim p (λ r f. (both (is_claim r) (eqb r.asset l.asset && eqb r.second l.number.0) f).0) hs

    named : any p (view b).history || any q (claims b cs) ≡ true
    named =
        ap (λ (t : Bool). t || any q (claims b cs)) (chosen (view b).history)
        ∙ ap (λ (t : Bool). any p (those is_claim (view b).history) || t) (sym (any-map p claim_record (claims b cs)))
        ∙ sym (any_append p (those is_claim (view b).history) (map claim_record (claims b cs)))
        ∙ ap (any p) (sym s.claims)
        ∙ sym (chosen (view (run b cs)).history)
        ∙ h

    together : (c : ClaimFields) → q c ≡ true → any (matches c) known ≡ true → claims_lot known l c ≡ true
    together c f g =
        let (u, v) = both (eqb c.asset l.asset) (eqb c.number.0 l.number.0) f in
        rw (u, v, g)

    later : any q (claims b cs) ≡ true → is_named (view b).history l || any (claims_lot known l) (claims b cs) ≡ true
    later f = rw (any-all q (λ c. any (matches c) known) (claims_lot known l) together (claims b cs) f s.met) (or-true (is_named (view b).history l))
