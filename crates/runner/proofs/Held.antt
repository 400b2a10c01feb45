-- What is held of a line that comes in parts: its first 121 bytes. A line read where it lies is the line that would have been held.
use Prim.Native.Nat.{ℕ, ◌+◌, ◌-◌, ◌≤◌, ◌<◌}
use mathlib.Core.Path.{◌≡◌, refl, sym, ap, ◌∙◌}
use mathlib.Core.Bool.{Bool, true, false, cond}
use mathlib.Core.List.{List, [], ◌∷◌, ◌++◌, append-nil, append_assoc}
use native.Mathlib.Omega.{arith}
use lib.Dec.{ltb, eqb}
use lib.ListN.{length, take, drop, replicate, length-append, length-drop}
use lib.Seq.{take_all, take_at, length-take-le, take-append-add, drop-drop}
use Rattle.std.proofs.lemmas.List.{take_min, drop-replicate}
use Rattle.std.proofs.lemmas.Slice.{take-put_mid, drop-put_mid}
use borrow.Rule.Slice.PartMut.{mid_of, put_mid, same_len_mid}
use Rattle.std.proofs.Common.{min}
use borrow.Author.Tests.{ltb-true, ltb-false, eqb-true}
use Rattle.rules.specs.Limits.{most_held}
use Rattle.rules.specs.Lines.{read_line}
use Rattle.lines.proofs.Held.{line-held}
use Rattle.runner.specs.Machine.{HeldIn, held_with, holds}

pub first_held : (before bs : List ℕ) → length before ≤ most_held → holds before bs ≡ take most_held (before ++ bs)
unfolding holds held_with
first_held before [] h = rw (append-nil before) (sym (take_all most_held before h))
first_held before (b ∷ bs) h = go (ltb (length before) most_held) refl (λ g. first_held (before ++ (b ∷ [])) bs g) (first_held before bs h)
  where
    longer : length (before ++ (b ∷ [])) ≡ length before + 1
    longer = length-append before (b ∷ [])

    go : (t : Bool) → ltb (length before) most_held ≡ t → (length (before ++ (b ∷ [])) ≤ most_held → holds (before ++ (b ∷ [])) bs ≡ take most_held ((before ++ (b ∷ [])) ++ bs)) → holds before bs ≡ take most_held (before ++ bs)
        → holds (cond t (before ++ (b ∷ [])) before) bs ≡ take most_held (before ++ (b ∷ bs))
    go true e more same =
        let l : length before < most_held = ltb-true (length before) most_held e in
        more (omega (arith, longer)) ∙ ap (take most_held) (append_assoc before (b ∷ []) bs)
    go false e more same =
        let l : length before ≡ most_held = let g : most_held ≤ length before = ltb-false (length before) most_held e in omega arith in
        same ∙ take_at before bs most_held l ∙ sym (take_at before (b ∷ bs) most_held l)

-- so a whole line that lies in a read is read there
pub read_there : (held s : List ℕ) → eqb (length held) 0 ≡ true → read_line s ≡ read_line (holds held s)
read_there [] s e = sym (ap read_line (first_held [] s (omega arith)) ∙ line-held s)
read_there (b ∷ held) s e = absurd (let n = eqb-true (length (b ∷ held)) 0 e in omega (arith, n))

-- ---- a part put behind what is held, as far as there is room for it
pub extended : (bytes part new : List ℕ) (len n : ℕ) → length bytes ≡ most_held → len ≤ most_held → n ≡ min (length part) (most_held - len) → new ≡ take n part
    → take (len + n) (put_mid len (len + n - len) bytes new) ≡ holds (take len bytes) part
extended bytes part new len n l h m e =
    let before : length (take len bytes) ≡ len = length-take-le len bytes (omega arith) in
    let few : length (take n part) ≡ n = length-take-le n part (omega arith) in
    let least : n ≡ min (most_held - len) (length part) = omega arith in
    let full : most_held ≡ length (take len bytes) + (most_held - len) = omega arith in
    take-put_mid len (len + n - len) bytes new (len + n) (rw e (omega arith)) (omega arith)
    ∙ ap (λ (t : List ℕ). take len bytes ++ t) (e ∙ ap (λ (k : ℕ). take k part) least ∙ take_min (most_held - len) part)
    ∙ sym (take-append-add (take len bytes) part (most_held - len))
    ∙ ap (λ (k : ℕ). take k (take len bytes ++ part)) (sym full)
    ∙ sym (first_held (take len bytes) part (omega arith))

-- and past them are zeros as before
pub extended_rest : (bytes part new : List ℕ) (len n : ℕ) → HeldIn bytes len → n ≡ min (length part) (most_held - len) → new ≡ take n part → HeldIn (put_mid len (len + n - len) bytes new) (len + n)
extended_rest bytes part new len n h m e =
    let few : length new ≡ n = rw e (length-take-le n part (omega arith)) in
    let fits : length new ≡ len + n - len = omega arith in
    let over : length (mid_of len (len + n - len) bytes) ≡ len + n - len = length-take-le (len + n - len) (drop len bytes) (omega (arith, length-drop len bytes, h.few, h.size, m)) in
    record {
      few = omega (arith, h.few, m);
      size = same_len_mid len (len + n - len) bytes new (fits ∙ sym over) ∙ h.size;
      rest =
          drop-put_mid len (len + n - len) bytes new (len + n) (omega arith) (omega (arith, h.few, h.size)) fits
          ∙ sym (drop-drop n len bytes)
          ∙ ap (drop n) h.rest
          ∙ drop-replicate n (most_held - len) 0
          ∙ ap (λ (k : ℕ). replicate k 0) (omega arith);
    }
