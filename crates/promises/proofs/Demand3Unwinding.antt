-- Unwinding, once for the outside and for every member: if what accepted calls do to a view, and what they leave behind, is a function of what is seen of them, then equal lists of what is seen give equal views and equal traces.
use mathlib.Core.Path.{◌≡◌, refl, sym, ap, ap₂, ◌∙◌}
use mathlib.Core.Bool.{Bool, true, false, cond}
use mathlib.Core.List.{List, [], ◌∷◌, ◌++◌, append-nil, append_assoc, foldl, foldl-append}
use Rattle.promises.specs.Types.{Call}
use Rattle.rules.specs.Lists.{those, joined}
use Rattle.rules.specs.State.{State, Book, view}
use Rattle.rules.specs.Effects.{effect}
use Rattle.rules.specs.Runs.{run, gather, itself, accepted}
use Rattle.rules.proofs.Laying.{joined_append}
use Rattle.rules.specs.Facts.{Accepted}
use Rattle.promises.proofs.Base.{run_keeps}

-- ---- lists of what is seen
-- those that pass a test are what each shows of itself, one after the other
pub those_joined : {A : Type 0} (p : A → Bool) (xs : List A) → those p xs ≡ joined (λ x. those p (x ∷ [])) xs
unfolding those joined
those_joined p [] = refl
those_joined p (x ∷ xs) = go (p x) (those_joined p xs)
  where
    go : (t : Bool) → those p xs ≡ joined (λ y. those p (y ∷ [])) xs → cond t (x ∷ those p xs) (those p xs) ≡ cond t (x ∷ []) [] ++ joined (λ y. those p (y ∷ [])) xs
    go true ih = ap (λ r. x ∷ r) ih
    go false ih = ih

-- ---- a machine: each thing seen moves the view, and shows something on the way
module _ {S W A : Type 0} (moved : W → S → W) (shown : W → S → List A) where
  -- all that a list of things shows
  unfoldable pub shown_by : W → List S → List A
  shown_by v [] = []
  shown_by v (x ∷ xs) = shown v x ++ shown_by (moved v x) xs

  -- more things show more, from the view that those before them lead to
  shown_append : (v : W) (xs ys : List S) → shown_by v (xs ++ ys) ≡ shown_by v xs ++ shown_by (foldl moved v xs) ys
  unfolding shown_by
  shown_append v [] ys = refl
  shown_append v (x ∷ xs) ys = rw (shown_append (moved v x) xs ys, append_assoc)

-- ---- a run that follows a machine
module _ {S W A : Type 0} (see : Call → List S) (look : State → W) (out : Book → Call → List A) (moved : W → S → W) (shown : W → S → List A)
    (moves : (b : Book) (c : Call) → Accepted b c → look (effect c (view b)) ≡ foldl moved (look (view b)) (see c))
    (shows : (b : Book) (c : Call) → Accepted b c → out b c ≡ shown_by moved shown (look (view b)) (see c)) where
  -- after these accepted calls, which left this behind, the state stands where the machine does
  record Follows (v : W) (xs : List Call) (ys : List A) (s : State) : Type 0 where
    stands : look s ≡ foldl moved v (joined see xs)
    left : ys ≡ shown_by moved shown v (joined see xs)

  -- one accepted call more
  follows_on : (v : W) (xs : List Call) (ys : List A) (b : Book) (c : Call) → Accepted b c → Follows v xs ys (view b)
      → Follows v (xs ++ (c ∷ [])) (ys ++ out b c) (effect c (view b))
  unfolding joined
  follows_on v xs ys b c a f =
      let more : joined see (xs ++ (c ∷ [])) ≡ joined see xs ++ see c = joined_append see xs (c ∷ []) ∙ ap (λ (r : List S). joined see xs ++ r) (append-nil (see c)) in
      record {
        stands = rw (more, foldl-append moved v (joined see xs) (see c), moves b c a, f.stands);
        left = rw (more, shown_append moved shown v (joined see xs) (see c), shows b c a, f.stands, f.left);
      }

  -- every run does
  follows : (b : Book) (cs : List Call) → Follows (look (view b)) (accepted b cs) (gather out b cs) (view (run b cs))
  unfolding joined shown_by
  follows b cs = run_keeps itself out (Follows (look (view b))) (follows_on (look (view b))) b cs (record { stands = refl; left = refl })

  -- two runs that start alike and show alike end alike, and leave alike behind
  pub unwound : (b b' : Book) (cs cs' : List Call) → look (view b) ≡ look (view b') → joined see (accepted b cs) ≡ joined see (accepted b' cs')
      → (look (view (run b cs)) ≡ look (view (run b' cs'))) × (gather out b cs ≡ gather out b' cs')
  unwound b b' cs cs' start alike =
      let f = follows b cs in
      let f' = follows b' cs' in
      (f.stands ∙ ap₂ (foldl moved) start alike ∙ sym f'.stands, f.left ∙ ap₂ (shown_by moved shown) start alike ∙ sym f'.left)
