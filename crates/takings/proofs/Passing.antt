-- The loops over the lots do what the rules say: a taking takes what the rules take and leaves what they leave, the rows left close up, and what is handed out is what was held.
use Prim.Native.Nat.{ℕ, zero, suc, ◌+◌, ◌-◌, ◌≤◌, ◌<◌}
use mathlib.Core.Path.{◌≡◌, refl, sym, ap, ap₂, ◌∙◌}
use mathlib.Core.Bool.{Bool, true, false, not, cond}
use mathlib.Core.List.{List, [], ◌∷◌, ◌++◌, map, append_assoc, append-nil}
use native.Mathlib.Nat.{sub-zero}
use native.Mathlib.Numerals.{add-one}
use native.Mathlib.Omega.{arith}
use lib.Dec.{leb, eqb}
use lib.ListN.{length, get_or, take, drop, length-take, length-drop}
use lib.Seq.{drop-cons, take-suc, take-suc-set, take-add, drop-set-lt, length-take-le}
use borrow.Author.Tests.{eqb-true}
use mathlib.Core.Logic.{◌⊎◌, inl, inr}
use Rattle.std.proofs.Common.{Option, Some, None}
use Rattle.std.proofs.lemmas.List.Edits.{take-paste}
use Rattle.std.specs.List.{copy_within}
use Rattle.rules.specs.declared.rows.Lot.{Lot}
use Rattle.rules.specs.Lots.{no_lot, in_line, of_amount, of_member, taken, left}
use Rattle.rules.specs.Answer.{in_front}
use Rattle.rules.proofs.Tests.{both}
use Rattle.takings.specs.declared.work.Taking.{Taking}
use Rattle.takings.specs.declared.work.Cut.{Cut}
use Rattle.takings.specs.Working.{taking_of, cut_none, cut_whole, cut_in_two, cut_of, CanTake, TakesFrom, appended}
use Rattle.takings.proofs.Appending.{append-set, appended-all}

-- as many rows as can be taken of a table are there
pub in_rows : (n : ℕ) (rows : List Lot) → length (take n rows) ≡ n → n ≤ length rows
in_rows zero rows e = omega arith
in_rows (suc n) [] e = omega (arith, e)
in_rows (suc n) (l ∷ ls) e =
    let f : length (take n ls) ≡ n = omega (arith, e) in
    omega (arith, in_rows n ls f)

-- ---- one lot
-- a lot that has to be written goes into row n, and where there is none the rows stay
abbrev pub written : Option Lot → ℕ → List Lot → List Lot
written None n rows = rows
written (Some x) n rows = appended n (x ∷ []) rows

-- what was written into the held table, so many pieces being there: this piece after them, or nothing
data Held (n : ℕ) : Option Lot → ℕ → List Lot → Type 0 where
  one : (x : Lot) → Held n (Some x) (n + 1) (x ∷ [])
  none : Held n None n []

held_grows : {n k : ℕ} {o : Option Lot} {xs : List Lot} → Held n o k xs → (rows : List Lot) → n < length rows → take k (written o n rows) ≡ take n rows ++ xs
held_grows {n} (Held.one x) rows h = rw (append-set n rows x, add-one n) (take-suc-set rows n x h)
held_grows {n} Held.none rows h = sym (append-nil (take n rows))

-- what was written into the work table, so many lots standing closed up in front of row i: this lot after them, or nothing, as row i is the next or its lot is gone
data Kept (n i : ℕ) (l : Lot) : Option Lot → ℕ → List Lot → Type 0 where
  moved : (x : Lot) → Kept n i l (Some x) (n + 1) (x ∷ [])
  stayed : n ≡ i → Kept n i l None (n + 1) (l ∷ [])
  gone : Kept n i l None n []

kept_grows : {n i k : ℕ} {l : Lot} {o : Option Lot} {xs : List Lot} → Kept n i l o k xs → (rows : List Lot) → n < length rows → l ≡ get_or rows i no_lot → take k (written o n rows) ≡ take n rows ++ xs
kept_grows {n} (Kept.moved x) rows h e = rw (append-set n rows x, add-one n) (take-suc-set rows n x h)
kept_grows {n} {i} (Kept.stayed same) rows h e = rw (add-one n, e, sym same) (take-suc rows n no_lot h)
kept_grows {n} Kept.gone rows h e = sym (append-nil (take n rows))

-- either way the rows after row n, and how many there are, stay as they were
later_same : (o : Option Lot) (i n : ℕ) (rows : List Lot) → n < i → drop i (written o n rows) ≡ drop i rows
later_same None i n rows h = refl
later_same (Some x) i n rows h = rw (append-set n rows x) (drop-set-lt i rows n x h)

held_little : {n k : ℕ} {o : Option Lot} {xs : List Lot} → Held n o k xs → k ≤ n + 1
held_little (Held.one x) = omega arith
held_little Held.none = omega arith

kept-few : {n i k : ℕ} {l : Lot} {o : Option Lot} {xs : List Lot} → Kept n i l o k xs → k ≤ n + 1
kept-few (Kept.moved x) = omega arith
kept-few (Kept.stayed e) = omega arith
kept-few Kept.gone = omega arith

-- what is cut off a lot is what the rules take first, and what stays of it what they leave first
record CutLaw (m a i : ℕ) (l : Lot) (s : Taking) (c : Cut) : Type 0 where
  pieces : List Lot
  rests : List Lot
  held : Held s.taken c.piece c.next.taken pieces
  kept : Kept s.kept i l c.rest c.next.kept rests
  takes : (ls : List Lot) → taken m a s.due (l ∷ ls) ≡ pieces ++ taken m a c.next.due ls
  leaves : (ls : List Lot) → left m a s.due (l ∷ ls) ≡ rests ++ left m a c.next.due ls

-- of nothing asked, nothing is taken and all is left
taken_none : (m a : ℕ) (ls : List Lot) → taken m a 0 ls ≡ []
unfolding taken
taken_none m a [] = refl
taken_none m a (l ∷ ls) = refl

left-none : (m a : ℕ) (ls : List Lot) → left m a 0 ls ≡ ls
unfolding left
left-none m a [] = refl
left-none m a (l ∷ ls) = refl

cut_law : (m a i : ℕ) (l : Lot) (s : Taking) → eqb s.due 0 ≡ false → CutLaw m a i l s (cut_of m a i l s)
unfolding cut_of
cut_law m a i l s e = go (in_line m a l) (leb l.amount s.due) refl refl
  where
    stays : (p : Bool) → eqb s.kept i ≡ p → Kept s.kept i l (cond p None (Some l)) (s.kept + 1) (l ∷ [])
    stays true g = Kept.stayed (eqb-true s.kept i g)
    stays false g = Kept.moved l

    go : (q r : Bool) → in_line m a l ≡ q → leb l.amount s.due ≡ r → CutLaw m a i l s (cond (not q) (cut_none i l s) (cond r (cut_whole l s) (cut_in_two l s)))
    go false r f g =
        record {
          pieces = [];
          rests = l ∷ [];
          held = Held.none;
          kept = stays (eqb s.kept i) refl;
          takes = λ ls. unfold taken in rw (e, f);
          leaves = λ ls. unfold left in rw (e, f);
        }
    go true true f g =
        record {
          pieces = l ∷ [];
          rests = [];
          held = Held.one l;
          kept = Kept.gone;
          takes = λ ls. unfold taken in rw (e, f, g);
          leaves = λ ls. unfold left in rw (e, f, g);
        }
    go true false f g =
        record {
          pieces = of_amount s.due l ∷ [];
          rests = of_amount (l.amount - s.due) l ∷ [];
          held = Held.one (of_amount s.due l);
          kept = Kept.moved (of_amount (l.amount - s.due) l);
          takes = λ ls. rw (taken_none m a ls) (unfold taken in rw (e, f, g));
          leaves = λ ls. rw (left-none m a ls) (unfold left in rw (e, f, g));
        }

-- ---- rows that are still to be looked at
abbrev rows_left : ℕ → ℕ → List Lot → List Lot
rows_left used i work = take (used - i) (drop i work)

-- the row that is read is the first of them
next_row : (used i : ℕ) (work : List Lot) → i < used → used ≤ length work → rows_left used i work ≡ get_or work i no_lot ∷ rows_left used (i + 1) work
next_row used i work h w =
    let e : used - i ≡ suc (used - (i + 1)) = omega arith in
    rw (e, drop-cons work i no_lot (omega arith), add-one i)

none_left : (used i : ℕ) (work : List Lot) → used ≤ i → rows_left used i work ≡ []
none_left used i work h =
    let e : used - i ≡ 0 = omega arith in
    rw e

-- ---- a taking
-- how far it is at row i: with what the rules take from the rows left, and leave of them, both tables come to what they come to
pub record Going (m a x used : ℕ) (whole : List Lot) (i : ℕ) (s : Taking) (work held : List Lot) : Type 0 where
  pub upto : i ≤ used
  pub few : s.kept ≤ i
  pub little : s.taken ≤ i
  pub stay : take s.kept work ++ left m a s.due (rows_left used i work) ≡ left m a x whole
  pub wait : take s.taken held ++ taken m a s.due (rows_left used i work) ≡ taken m a x whole

module _ (m a x used : ℕ) (work₀ held₀ : List Lot) (can : CanTake used work₀ held₀) where
  abbrev whole : List Lot
  whole = take used work₀

  pub going_first : Going m a x used whole 0 (taking_of x 0 0) work₀ held₀
  going_first = record { upto = omega arith; few = omega arith; little = omega arith; stay = rw (sub-zero used); wait = rw (sub-zero used) }

  module _ (i : ℕ) (s : Taking) (work held : List Lot) (g : Going m a x used whole i s work held) (rows : length work ≡ length work₀) (scratch : length held ≡ length held₀) where
    -- one turn: the row read, asked and written
    pub going_on : i < used → eqb s.due 0 ≡ false → (l : Lot) → l ≡ get_or work i no_lot → (c : Cut) → c ≡ cut_of m a i l s
        → (held' work' : List Lot) → held' ≡ written c.piece s.taken held → work' ≡ written c.rest s.kept work
        → Going m a x used whole (i + 1) c.next work' held'
    going_on more due l e c f held' work' hs ws =
        let law : CutLaw m a i l s c = rw f (cut_law m a i l s due) in
        let rest : List Lot = rows_left used (i + 1) work in
        let first : rows_left used i work ≡ l ∷ rest = next_row used i work more (omega (arith, rows, can.room)) ∙ ap (λ (y : Lot). y ∷ rest) (sym e) in
        let later : drop (i + 1) work' ≡ drop (i + 1) work = ap (drop (i + 1)) ws ∙ later_same c.rest (i + 1) s.kept work (omega (arith, g.few)) in
        let stays : take c.next.kept work' ≡ take s.kept work ++ law.rests = ap (take c.next.kept) ws ∙ kept_grows law.kept work (omega (arith, g.few, rows, can.room)) e in
        let waits : take c.next.taken held' ≡ take s.taken held ++ law.pieces = ap (take c.next.taken) hs ∙ held_grows law.held held (omega (arith, g.little, scratch, can.scratch)) in
        record {
          upto = omega arith;
          few = omega (arith, g.few, kept-few law.kept);
          little = omega (arith, g.little, held_little law.held);
          stay =
              ap₂ (λ (y z : List Lot). y ++ left m a c.next.due (take (used - (i + 1)) z)) stays later
              ∙ append_assoc (take s.kept work) law.rests (left m a c.next.due rest)
              ∙ ap (λ (y : List Lot). take s.kept work ++ y) (sym (law.leaves rest) ∙ ap (left m a s.due) (sym first))
              ∙ g.stay;
          wait =
              ap₂ (λ (y z : List Lot). y ++ taken m a c.next.due (take (used - (i + 1)) z)) waits later
              ∙ append_assoc (take s.taken held) law.pieces (taken m a c.next.due rest)
              ∙ ap (λ (y : List Lot). take s.taken held ++ y) (sym (law.takes rest) ∙ ap (taken m a s.due) (sym first))
              ∙ g.wait;
        }

    -- so many rows stay and so many pieces wait, where the rows of each table begin with what the rules leave and take
    comes : (due n : ℕ) (after : List Lot) → length after ≡ length work → n ≤ used → take n after ≡ left m a x whole → take s.taken held ≡ taken m a x whole → TakesFrom m a x used work₀ (taking_of due n s.taken) after held
    comes due n after long most stays waits = record {
      stay = stays;
      wait = waits;
      kept = sym (length-take-le n after (omega (arith, long, rows, most, can.room))) ∙ ap length stays;
      taken = sym (length-take-le s.taken held (omega (arith, scratch, g.little, g.upto, can.scratch))) ∙ ap length waits;
    }

    -- the rows left move up behind those that stay, or stand there
    moved_up : (after : List Lot) → (after ≡ copy_within work i used s.kept) ⊎ ((s.kept ≡ i) × (after ≡ work)) → take (s.kept + (used - i)) after ≡ take s.kept work ++ rows_left used i work
    moved_up after (inl e) =
        ap (take (s.kept + (used - i))) e
        ∙ take-paste work s.kept (drop i work) (used - i) (omega (arith, g.few, g.upto, rows, can.room)) (rw (length-drop i work) (omega (arith, g.upto, rows, can.room)))
    moved_up after (inr e) = rw (e.0, e.1) (take-add i (used - i) work)

    -- nothing is due any more: nothing more is taken, and the rows left move up
    pub going_done : s.due ≡ 0 → (after : List Lot) → length after ≡ length work → (after ≡ copy_within work i used s.kept) ⊎ ((s.kept ≡ i) × (after ≡ work)) → TakesFrom m a x used work₀ (taking_of s.due (s.kept + (used - i)) s.taken) after held
    going_done over after long e =
        let stays : take (s.kept + (used - i)) after ≡ left m a x whole =
        moved_up after e ∙ ap (λ (y : List Lot). take s.kept work ++ y) (sym (rw over (left-none m a (rows_left used i work)))) ∙ g.stay in
        let waits : take s.taken held ≡ taken m a x whole =
        sym (append-nil (take s.taken held)) ∙ ap (λ (y : List Lot). take s.taken held ++ y) (sym (rw over (taken_none m a (rows_left used i work)))) ∙ g.wait in
        comes s.due (s.kept + (used - i)) after long (omega (arith, g.few, g.upto)) stays waits

    -- no row is left
    pub going_last : used ≤ i → TakesFrom m a x used work₀ s work held
    unfolding left taken
    going_last all =
        let stays : take s.kept work ≡ left m a x whole = sym (append-nil (take s.kept work)) ∙ ap (λ (y : List Lot). take s.kept work ++ y) (sym (rw (none_left used i work all))) ∙ g.stay in
        let waits : take s.taken held ≡ taken m a x whole = sym (append-nil (take s.taken held)) ∙ ap (λ (y : List Lot). take s.taken held ++ y) (sym (rw (none_left used i work all))) ∙ g.wait in
        comes s.due s.kept work refl (omega (arith, g.few, g.upto)) stays waits

-- ---- pieces that are handed out
-- what is taken from a line is its owner's, so it joins a table of the owner's pieces as it is
taken_own : (m a x : ℕ) (ls : List Lot) → map (of_member m) (taken m a x ls) ≡ taken m a x ls
unfolding taken
taken_own m a x [] = refl
taken_own m a x (l ∷ ls) = go (eqb x 0) (in_line m a l) (leb l.amount x) refl (taken_own m a x ls) (taken_own m a (x - l.amount) ls)
  where
    own : in_line m a l ≡ true → of_member m l ≡ l
    own f = rw (← eqb-true l.member m (both (eqb l.member m) (eqb l.asset a) f).0)

    go : (p q r : Bool) → in_line m a l ≡ q → map (of_member m) (taken m a x ls) ≡ taken m a x ls → map (of_member m) (taken m a (x - l.amount) ls) ≡ taken m a (x - l.amount) ls
        → map (of_member m) (cond p [] (cond q (cond r (l ∷ taken m a (x - l.amount) ls) (of_amount x l ∷ [])) (taken m a x ls)))
        ≡ cond p [] (cond q (cond r (l ∷ taken m a (x - l.amount) ls) (of_amount x l ∷ [])) (taken m a x ls))
    go true q r f later all = refl
    go false false r f later all = later
    go false true true f later all = ap₂ (λ (y : Lot) (ys : List Lot). y ∷ ys) (own f) all
    go false true false f later all = ap (λ (y : Lot). of_amount x y ∷ []) (own f)

-- pieces that join a table at its first row stand in front of it
pub pieces_in_front : (m a x : ℕ) (ls held out : List Lot) (n : ℕ) → take n held ≡ taken m a x ls → n ≤ length out → appended 0 (map (of_member m) (take n held)) out ≡ in_front (taken m a x ls) out
pieces_in_front m a x ls held out n e h =
    let all : length (taken m a x ls) ≤ n = rw (← e, length-take) (omega arith) in
    rw (e, taken_own m a x ls) (appended-all 0 out (taken m a x ls) (omega (arith, all)))
