-- Unwinding for one member: what is seen of a call is the call itself where it names the member, and nothing where it does not.
use Prim.Native.Nat.{ℕ}
use mathlib.Core.Path.{◌≡◌, refl, sym, ◌∙◌}
use mathlib.Core.Bool.{Bool, true, false, cond}
use mathlib.Core.List.{List, [], ◌∷◌, foldl}
use Rattle.promises.specs.Types.{Call}
use Rattle.rules.specs.Lists.{those}
use Rattle.rules.specs.State.{State, Book, view}
use Rattle.rules.specs.Effects.{effect}
use Rattle.rules.specs.Runs.{run, accepted}
use Rattle.rules.specs.Views.{names_member, seen_by}
use Rattle.rules.specs.Facts.{Accepted}
use Rattle.promises.proofs.Demand3Unwinding.{those_joined, shown_by, unwound}

-- where each thing shows nothing, a list of them shows nothing
silent : {W : Type 0} (moved : W → Call → W) (v : W) (xs : List Call) → ◌≡◌ {A = List Call} [] (shown_by moved (λ w c. []) v xs)
unfolding shown_by
silent moved v [] = refl
silent moved v (x ∷ xs) = silent moved (moved v x) xs

module _ {W : Type 0} (m : ℕ) (look : State → W) (moved : W → Call → W)
    (named : (b : Book) (c : Call) → Accepted b c → names_member m c ≡ true → look (effect c (view b)) ≡ moved (look (view b)) c)
    (others : (b : Book) (c : Call) → Accepted b c → names_member m c ≡ false → look (effect c (view b)) ≡ look (view b)) where
  -- an accepted call moves the member's view as what the member sees of it does
  moves_seen : (b : Book) (c : Call) → Accepted b c → look (effect c (view b)) ≡ foldl moved (look (view b)) (those (names_member m) (c ∷ []))
  unfolding those
  moves_seen b c a = go (names_member m c) refl
    where
      go : (t : Bool) → names_member m c ≡ t → look (effect c (view b)) ≡ foldl moved (look (view b)) (cond t (c ∷ []) [])
      go true e = named b c a e
      go false e = others b c a e

  -- two runs from books that look the same, in which the member sees the same, leave the same view
  pub member_unwound : (b b' : Book) → look (view b) ≡ look (view b') → (cs cs' : List Call) → seen_by m b cs ≡ seen_by m b' cs'
      → look (view (run b cs)) ≡ look (view (run b' cs'))
  unfolding seen_by
  member_unwound b b' start cs cs' alike =
      (unwound (λ c. those (names_member m) (c ∷ [])) look (λ c d. []) moved (λ w c. []) moves_seen (λ c d a. silent moved (look (view c)) (those (names_member m) (d ∷ []))) b b' cs cs'
      start
      (sym (those_joined (names_member m) (accepted b cs)) ∙ alike ∙ those_joined (names_member m) (accepted b' cs'))
      ).0
