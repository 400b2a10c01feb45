-- A list in parts of eight, as the library's `chunks_exact` hands them out.
use Prim.Native.Nat.{ℕ, zero, suc, ◌*◌}
use mathlib.Core.Path.{◌≡◌, refl, sym, subst, ap, ◌∙◌}
use mathlib.Core.Bool.{Bool, ◌&&◌}
use mathlib.Core.List.{List, [], ◌∷◌, ◌++◌}
use native.Mathlib.Omega.{arith}
use denote.Ref.{Bor}
use lib.ListN.{length, take, drop, length-append, length-drop, take-append-drop}
use lib.Seq.{take-append_seam, drop-append_seam}
use Rattle.std.specs.List.{list_all}
use Rattle.std.specs.Iterator.{AlwaysYields}
use Rattle.std.proofs.lemmas.Iterator.{YieldsList}
use Rattle.std.specs.Slice.Iter.{chunks_exact_rest, chunks_exact_size, chunks_exact_steps}
use Rattle.std.specs.declared.slice.ChunksExact.{ChunksExact}
use Rattle.rules.specs.Lists.{all}
use Rattle.rules.proofs.Digits.{all_append}

-- the first k parts
unfoldable pub eights : ℕ → List ℕ → List (List ℕ)
eights zero xs = []
eights (suc k) xs = take 8 xs ∷ eights k (drop 8 xs)

-- a list of so many parts, tested part by part
pub all_eights : (p : ℕ → Bool) (k : ℕ) (xs : List ℕ) → length xs ≡ k * 8 → list_all (all p) (eights k xs) ≡ all p xs
unfolding eights all
all_eights p zero [] e = refl
all_eights p zero (x ∷ xs) e = absurd (omega arith)
all_eights p (suc k) xs e =
    ap (λ (b : Bool). all p (take 8 xs) && b) (all_eights p k (drop 8 xs) (omega (arith, length-drop 8 xs)))
    ∙ sym (all_append p (take 8 xs) (drop 8 xs)) ∙ ap (all p) (take-append-drop 8 xs)

-- from a state on the iterator hands out the parts of what is left to it
eights_yield : (k : ℕ) (s : ChunksExact ℕ) → chunks_exact_size s ≡ 8 → length (chunks_exact_rest s) ≡ k * 8
    → AlwaysYields chunks_exact_steps (λ x. x.now) s (eights k (chunks_exact_rest s))
unfolding eights
eights_yield zero s e l = λ x j step. omega (arith, e, l, step.1.1, ap length step.1.0, length-append x.now (chunks_exact_rest j))
eights_yield (suc k) s e l = (
  λ j step. omega (arith, e, l, step.1.0),
  λ x j step. (
    front s x j step.1.0 (step.1.1 ∙ e),
    rw (back s x j step.1.0 (step.1.1 ∙ e)) (eights_yield k j (step.0 ∙ e) (omega (arith, e, l, step.1.1, ap length step.1.0, length-append x.now (chunks_exact_rest j)))),
  ),
)
  where
    front : (s : ChunksExact ℕ) (x : Bor (List ℕ)) (j : ChunksExact ℕ) → chunks_exact_rest s ≡ x.now ++ chunks_exact_rest j → length x.now ≡ 8 → x.now ≡ take 8 (chunks_exact_rest s)
    front s x j p q = rw (p, ← q) (sym (take-append_seam x.now (chunks_exact_rest j)))

    back : (s : ChunksExact ℕ) (x : Bor (List ℕ)) (j : ChunksExact ℕ) → chunks_exact_rest s ≡ x.now ++ chunks_exact_rest j → length x.now ≡ 8 → drop 8 (chunks_exact_rest s) ≡ chunks_exact_rest j
    back s x j p q = rw (p, ← q) (drop-append_seam x.now (chunks_exact_rest j))

pub YieldsList-from_eights : {s : ChunksExact ℕ} (k : ℕ) (xs : List ℕ) → chunks_exact_rest s ≡ xs → chunks_exact_size s ≡ 8 → length xs ≡ k * 8
    → YieldsList chunks_exact_steps (λ x. x.now) s (eights k xs)
YieldsList-from_eights {s} k xs e f l = record { runs = subst (λ (ys : List ℕ). AlwaysYields chunks_exact_steps (λ x. x.now) s (eights k ys)) e (eights_yield k s f (ap length e ∙ l)) }
