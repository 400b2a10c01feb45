-- Taking from a line, as one relation: every law about the pieces and what is left goes through its five cases.
use Prim.Native.Nat.{ℕ, ◌+◌, ◌-◌, ◌≤◌, ◌<◌}
use mathlib.Core.Path.{◌≡◌, refl, sym, ap}
use mathlib.Core.Bool.{Bool, true, false, cond, and-eq-true_iff}
use mathlib.Core.List.{List, [], ◌∷◌}
use native.Mathlib.Omega.{arith}
use lib.Dec.{leb, eqb}
use lib.ListN.{length}
use borrow.Author.Tests.{leb-true, leb-false, le-leb, lt-leb, eqb-true, eqb-false, ne_eqb}
use Rattle.rules.specs.declared.rows.Lot.{Lot}
use Rattle.rules.specs.Lists.{all, those, sum_of}
use Rattle.rules.specs.Lots.{in_line, line, of_amount, taken, left}
use Rattle.lots.specs.Traces.{same_line, taken_line, left_line, worth, line_worth}

-- taking an amount from these lots gives these pieces and leaves those lots:
-- no lot is left to take from; the amount is met; the first lot is taken whole, or split, or is of another line
pub data Takes (m a : ℕ) : ℕ → List Lot → List Lot → List Lot → Type 0 where
  ended : {x : ℕ} → Takes m a x [] [] []
  met : {ls : List Lot} → Takes m a 0 ls [] ls
  whole : {x : ℕ} {l : Lot} {ls ps rest : List Lot} → in_line m a l ≡ true → l.amount ≤ x → 1 ≤ x → Takes m a (x - l.amount) ls ps rest → Takes m a x (l ∷ ls) (l ∷ ps) rest
  split : {x : ℕ} {l : Lot} {ls : List Lot} → in_line m a l ≡ true → x < l.amount → 1 ≤ x → Takes m a x (l ∷ ls) (of_amount x l ∷ []) (of_amount (l.amount - x) l ∷ ls)
  other : {x : ℕ} {l : Lot} {ls ps rest : List Lot} → in_line m a l ≡ false → 1 ≤ x → Takes m a x ls ps rest → Takes m a x (l ∷ ls) ps (l ∷ rest)

-- what is not 0 is at least 1
positive : (x : ℕ) → eqb x 0 ≡ false → 1 ≤ x
positive x e = omega (arith, eqb-false x 0 e)

-- what the rules define is such a taking
pub takes : (m a x : ℕ) (ls : List Lot) → Takes m a x ls (taken m a x ls) (left m a x ls)
unfolding taken left
takes m a x [] = Takes.ended
takes m a x (l ∷ ls) = go (eqb x 0) (in_line m a l) (leb l.amount x) refl refl refl (takes m a x ls) (takes m a (x - l.amount) ls)
  where
    go : (p q r : Bool) → eqb x 0 ≡ p → in_line m a l ≡ q → leb l.amount x ≡ r
        → Takes m a x ls (taken m a x ls) (left m a x ls) → Takes m a (x - l.amount) ls (taken m a (x - l.amount) ls) (left m a (x - l.amount) ls)
        → Takes m a x (l ∷ ls)
        (cond p [] (cond q (cond r (l ∷ taken m a (x - l.amount) ls) (of_amount x l ∷ [])) (taken m a x ls)))
        (cond p (l ∷ ls) (cond q (cond r (left m a (x - l.amount) ls) (of_amount (l.amount - x) l ∷ ls)) (l ∷ left m a x ls)))
    go true q r e f g i j = rw (eqb-true x 0 e) Takes.met
    go false true true e f g i j = Takes.whole f (leb-true l.amount x g) (positive x e) j
    go false true false e f g i j = Takes.split f (leb-false l.amount x g) (positive x e)
    go false false r e f g i j = Takes.other f (positive x e) i

-- ---- the line alone
-- of nothing asked, nothing is taken and all is left
taken_none : (ls : List Lot) → taken_line 0 ls ≡ []
unfolding taken_line
taken_none [] = refl
taken_none (l ∷ ls) = refl

left-none : (ls : List Lot) → left_line 0 ls ≡ ls
unfolding left_line
left-none [] = refl
left-none (l ∷ ls) = refl

-- a lot of one line is of another line exactly where the two lines are one
owner : (m a n b : ℕ) (l : Lot) → in_line m a l ≡ true → in_line n b l ≡ same_line m a n b
owner m a n b l f =
    let (p, q) = (and-eq-true_iff (eqb l.member m) (eqb l.asset a)).0 f in
    rw (eqb-true l.member m p, eqb-true l.asset a q)

module _ {m a : ℕ} where
  -- the pieces are those taken from the line by itself
  pub takes_pieces : {x : ℕ} {ls ps rest : List Lot} → Takes m a x ls ps rest → ps ≡ taken_line x (line m a ls)
  unfolding line those taken_line
  takes_pieces Takes.ended = refl
  takes_pieces (Takes.met {ls = ls}) = sym (taken_none (line m a ls))
  takes_pieces (Takes.whole {x = x} {l = l} f g p t) = rw (f, ne_eqb x 0 (λ e. omega arith), le-leb l.amount x g, takes_pieces t)
  takes_pieces (Takes.split {x = x} {l = l} f g p) = rw (f, ne_eqb x 0 (λ e. omega arith), lt-leb l.amount x g)
  takes_pieces (Takes.other f p t) = rw f (takes_pieces t)

  -- and the line of what is left is what is left of the line by itself
  pub takes_left : {x : ℕ} {ls ps rest : List Lot} → Takes m a x ls ps rest → line m a rest ≡ left_line x (line m a ls)
  unfolding line those left_line
  takes_left Takes.ended = refl
  takes_left (Takes.met {ls = ls}) = sym (left-none (line m a ls))
  takes_left (Takes.whole {x = x} {l = l} f g p t) = rw (f, ne_eqb x 0 (λ e. omega arith), le-leb l.amount x g) (takes_left t)
  takes_left (Takes.split {x = x} {l = l} f g p) = rw (f, ne_eqb x 0 (λ e. omega arith), lt-leb l.amount x g)
  takes_left (Takes.other {l = l} f p t) = rw f (takes_left t)

  -- every piece is of the line
  pub takes_owned : {x : ℕ} {ls ps rest : List Lot} → Takes m a x ls ps rest → all (in_line m a) ps ≡ true
  unfolding all
  takes_owned Takes.ended = refl
  takes_owned Takes.met = refl
  takes_owned (Takes.whole f g p t) = rw f (takes_owned t)
  takes_owned (Takes.split f g p) = rw f
  takes_owned (Takes.other f p t) = takes_owned t

  -- every other line is as it was
  pub takes_others : {x : ℕ} {ls ps rest : List Lot} (n b : ℕ) → same_line m a n b ≡ false → Takes m a x ls ps rest → line n b rest ≡ line n b ls
  unfolding line those
  takes_others n b d Takes.ended = refl
  takes_others n b d Takes.met = refl
  takes_others n b d (Takes.whole {l = l} f g p t) = rw (owner m a n b l f, d) (takes_others n b d t)
  takes_others n b d (Takes.split {l = l} f g p) = rw (owner m a n b l f, d)
  takes_others n b d (Takes.other {l = l} {ls = ls} {rest = rest} f p t) = ap (λ (r : List Lot). cond (in_line n b l) (l ∷ r) r) (takes_others n b d t)

  -- ---- amounts
  -- a weight that a split divides: pieces and what is left weigh together what the lots weighed
  pub takes_weigh : (w : Lot → ℕ) → ((l : Lot) (x : ℕ) → x ≤ l.amount → w (of_amount x l) + w (of_amount (l.amount - x) l) ≡ w l)
      → {x : ℕ} {ls ps rest : List Lot} → Takes m a x ls ps rest → sum_of w ps + sum_of w rest ≡ sum_of w ls
  unfolding sum_of
  takes_weigh w d Takes.ended = refl
  takes_weigh w d Takes.met = omega arith
  takes_weigh w d (Takes.whole f g p t) = omega (arith, takes_weigh w d t)
  takes_weigh w d (Takes.split {x = x} {l = l} f g p) = omega (arith, d l x (omega arith))
  takes_weigh w d (Takes.other f p t) = omega (arith, takes_weigh w d t)

  -- with enough in the line, the pieces are worth exactly the amount
  pub takes_enough : {x : ℕ} {ls ps rest : List Lot} → Takes m a x ls ps rest → x ≤ line_worth m a ls → worth ps ≡ x
  unfolding sum_of line those
  takes_enough Takes.ended h = omega arith
  takes_enough Takes.met h = refl
  takes_enough (Takes.whole {x = x} {l = l} {ls = ls} f g p t) h =
      let k : x ≤ l.amount + line_worth m a ls = rw f at h in
      omega (arith, takes_enough t (omega arith))
  takes_enough (Takes.split f g p) h = omega arith
  takes_enough (Takes.other f p t) h = takes_enough t (rw f at h)

  -- ---- how many
  -- a split makes one lot more, and nothing else does
  pub takes_count : {x : ℕ} {ls ps rest : List Lot} → Takes m a x ls ps rest → length ps + length rest ≤ length ls + 1
  takes_count Takes.ended = omega arith
  takes_count Takes.met = omega arith
  takes_count (Takes.whole f g p t) = omega (arith, takes_count t)
  takes_count (Takes.split f g p) = omega arith
  takes_count (Takes.other f p t) = omega (arith, takes_count t)

  -- there are no more pieces than lots in the line
  pub takes_few : {x : ℕ} {ls ps rest : List Lot} → Takes m a x ls ps rest → length ps ≤ length (line m a ls)
  unfolding line those
  takes_few Takes.ended = omega arith
  takes_few Takes.met = omega arith
  takes_few (Takes.whole f g p t) = rw f (omega (arith, takes_few t))
  takes_few (Takes.split f g p) = rw f (omega arith)
  takes_few (Takes.other f p t) = rw f (takes_few t)
