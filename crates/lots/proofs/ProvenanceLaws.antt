-- Provenance, a record at a time: one record more at the end counts once more.
use Prim.Native.Nat.{ℕ, zero, suc, ◌≤◌}
use mathlib.Core.Path.{◌≡◌, refl, ap, ap₂, ◌∙◌}
use mathlib.Core.List.{List, [], ◌∷◌, ◌++◌}
use native.Mathlib.Omega.{arith}
use lib.ListN.{length, length-append, get_or-append}
use lib.Seq.{get_or-append_seam}
use Rattle.rules.specs.declared.rows.Record.{Record}
use Rattle.rules.specs.Tables.{no_record}
use Rattle.rules.specs.History.{counted, provenance, provenance_of}

-- of the first records only those count
provenance_front : (m a k : ℕ) (h t : List Record) → k ≤ length h → provenance m a k (h ++ t) ≡ provenance m a k h
unfolding provenance
provenance_front m a zero h t l = refl
provenance_front m a (suc k) h t l =
    rw (get_or-append h t no_record k l, provenance_front m a k h t (omega arith))

-- the last record counts on what those before it gave
pub provenance-last : (m a : ℕ) (h : List Record) (r : Record) → provenance_of m a (h ++ (r ∷ [])) ≡ counted m a r (provenance_of m a h)
unfolding provenance
provenance-last m a h r =
    let e : length (h ++ (r ∷ [])) ≡ suc (length h) = length-append h (r ∷ []) ∙ omega arith in
    ap (λ (k : ℕ). provenance m a k (h ++ (r ∷ []))) e
    ∙ ap₂ (counted m a) (get_or-append_seam h r [] no_record) (provenance_front m a (length h) h (r ∷ []) (omega arith))
