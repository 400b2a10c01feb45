-- What is written on a page: text after text, the digits of a number, and that a text for which there is room stands there whole.
use Prim.Native.Nat.{ℕ, zero, suc, ◌+◌, ◌*◌, ◌/◌, ◌%◌, ◌^◌, ◌≤◌, ◌<◌, max}
use mathlib.Core.Path.{◌≡◌, refl, sym, ap, ◌∙◌}
use mathlib.Core.Bool.{cond}
use mathlib.Core.List.{List, [], ◌∷◌, ◌++◌, append_assoc, append-nil}
use native.Mathlib.Nat.{pow-suc, max-eq_left, max-eq_right}
use native.Mathlib.Numerals.{add-one}
use native.Mathlib.Omega.{arith}
use lib.Dec.{ltb}
use lib.ListN.{length, get_or, take, drop, set, length-set, length-append, take-append-drop}
use lib.Seq.{take-suc, take-suc-set, drop-set-lt, append_snoc}
use borrow.Author.Tests.{lt-ltb, le-ltb}
use Rattle.std.proofs.lemmas.Fmt.{AppendsLastDigit, decimal_from_appends, length-decimal-le}
use Rattle.std.specs.Fmt.{decimal as printed}
use Rattle.rules.specs.Limits.{highest_field}
use Rattle.rules.specs.Lists.{joined}
use Rattle.rules.specs.Lines.{spelled, decimal, tabbed}
use Rattle.rules.proofs.Laying.{joined_append}
use Rattle.pages.specs.Writing.{Page, page, put_byte, put}

-- ---- a byte, and text after text
pub put-nothing : (p : Page) → p ≡ put p []
unfolding put
put-nothing p = refl

put-append : (p : Page) (x y : List ℕ) → put p (x ++ y) ≡ put (put p x) y
unfolding put
put-append p [] y = refl
put-append p (b ∷ x) y = put-append (put_byte p b) x y

-- what is written in two steps is the two texts, one after the other
pub put_then : (p : Page) {q r : Page} (x y : List ℕ) → q ≡ put p x → r ≡ put q y → r ≡ put p (x ++ y)
put_then p x y e f = f ∙ rw e (sym (put-append p x y))

-- the first i bytes of a text, and one more
pub put_more : (p : Page) {q r : Page} (text : List ℕ) (i : ℕ) → i < length text → q ≡ put p (take i text) → r ≡ put q (get_or text i 0 ∷ []) → r ≡ put p (take (i + 1) text)
put_more p text i h e f = rw (add-one i, take-suc text i 0 h) (put_then p (take i text) (get_or text i 0 ∷ []) e f)

-- ---- values after tabs
pub tabbed-append : (xs ys : List ℕ) → tabbed (xs ++ ys) ≡ tabbed xs ++ tabbed ys
unfolding tabbed
tabbed-append xs ys = joined_append (λ n. 9 ∷ decimal n) xs ys

pub tabbed-one : (n : ℕ) → tabbed (n ∷ []) ≡ (9 ∷ []) ++ decimal n
unfolding tabbed joined
tabbed-one n = append-nil (9 ∷ decimal n)

-- values after values
pub put-values : (p : Page) {q r : Page} (xs ys : List ℕ) → q ≡ put p (tabbed xs) → r ≡ put q (tabbed ys) → r ≡ put p (tabbed (xs ++ ys))
put-values p xs ys e f = rw (tabbed-append xs ys) (put_then p (tabbed xs) (tabbed ys) e f)

-- a tab, and then a number's digits
pub put_tabbed : (p : Page) {q r : Page} (n : ℕ) → q ≡ put p (9 ∷ []) → r ≡ put q (decimal n) → r ≡ put p (tabbed (n ∷ []))
put_tabbed p n e f = rw (tabbed-one n) (put_then p (9 ∷ []) (decimal n) e f)

-- ---- a number's digits
-- both write a number's tenth's digits, and then its last one
spelled-appends : AppendsLastDigit spelled
unfolding spelled
spelled-appends =
    record {
      one = λ k n h. rw (lt-ltb n 10 h);
      more = λ k n h. rw (le-ltb n 10 h);
    }

pub put_digit : (p : Page) {q : Page} (n : ℕ) → n < 10 → q ≡ put p ((48 + n) ∷ []) → q ≡ put p (decimal n)
unfolding decimal
put_digit p n h e = rw (spelled-appends.one 19 n h) e

-- the digits that the library prints of a number are the ones that the document has
pub printed_is : (n : ℕ) → n ≤ highest_field → printed n ≡ decimal n
unfolding decimal
printed_is n h = sym (decimal_from_appends spelled spelled-appends 20 n (omega arith) (length-decimal-le 20 n (omega arith) (omega arith) (omega arith)))

pub put_printed : (p : Page) {q : Page} (n : ℕ) → n ≤ highest_field → q ≡ put p (printed n) → q ≡ put p (decimal n)
put_printed p n h e = rw (printed_is n h) at e

-- one more is no more: so many digits spell the number already
spelled-enough : (k n : ℕ) → n < 10 ^ suc k → spelled (suc k) n ≡ spelled (suc (suc k)) n
unfolding spelled
spelled-enough zero n h = rw (lt-ltb n 10 h)
spelled-enough (suc k) n h = ap (λ (r : List ℕ). cond (ltb n 10) ((48 + n) ∷ []) (r ++ ((48 + n % 10) ∷ []))) (spelled-enough k (n / 10) (omega (arith, pow-suc 10 (suc k))))

pub decimal-short : (n : ℕ) → n < 10 → decimal n ≡ (48 + n) ∷ []
unfolding decimal spelled
decimal-short n h = rw (lt-ltb n 10 h)

-- a number's tenth's digits, and then its last one
pub decimal_long : (n : ℕ) → 10 ≤ n → n ≤ highest_field → decimal n ≡ decimal (n / 10) ++ ((48 + n % 10) ∷ [])
unfolding decimal spelled
decimal_long n h l = rw (le-ltb n 10 h) (ap (λ (r : List ℕ). r ++ ((48 + n % 10) ∷ [])) (spelled-enough 18 (n / 10) (omega arith)))

pub length-short : (n : ℕ) → n < 10 → length (decimal n) ≡ 1
length-short n h = rw (decimal-short n h)

pub length_long : (n : ℕ) → 10 ≤ n → n ≤ highest_field → length (decimal n) ≡ length (decimal (n / 10)) + 1
length_long n h l = rw (decimal_long n h l, length-append)

-- from the power of ten that a number reaches
length_power : (k n : ℕ) → 10 ^ k ≤ n → n < 10 * 10 ^ k → n ≤ highest_field → length (decimal n) ≡ k + 1
length_power zero n h l m = length-short n (omega arith)
length_power (suc k) n h l m =
    let p : 10 ^ suc k ≡ 10 ^ k * 10 = pow-suc 10 k in
    let e : length (decimal n) ≡ length (decimal (n / 10)) + 1 = length_long n (omega arith) m in
    let f : length (decimal (n / 10)) ≡ k + 1 = length_power k (n / 10) (omega arith) (omega arith) (omega arith) in
    omega arith

-- nought has a digit too, as 1 has
pub length_places : (k n m : ℕ) → m ≡ max n 1 → 10 ^ k ≤ m → m < 10 * 10 ^ k → n ≤ highest_field → k + 1 ≡ length (decimal n)
length_places k zero m e h l t =
    let f : max 0 1 ≡ 1 = max-eq_right {n = 0} {m = 1} (omega arith) in
    let g : length (decimal m) ≡ length (decimal 0) = rw (e, f, length-short 1 (omega arith), length-short 0 (omega arith)) in
    sym (length_power k m h l (omega arith)) ∙ g
length_places k (suc n) m e h l t =
    let f : max (suc n) 1 ≡ suc n = max-eq_left {n = suc n} {m = 1} (omega arith) in
    let g : m ≡ suc n = e ∙ f in
    sym (rw g at (length_power k m h l (omega arith)))

-- ---- a text laid on a page
pub put-laid : (o : List ℕ) (at : ℕ) (text : List ℕ) → at + length text ≤ length o → page (take at o ++ text ++ drop (at + length text) o) (at + length text) ≡ put (page o at) text
unfolding put put_byte
put-laid o at [] h =
    let e : at + 0 ≡ at = omega arith in
    rw (e, append-nil (take at o), take-append-drop at o)
put-laid o at (b ∷ bs) h =
    let f : at < length o = omega arith in
    let s : length (set o at b) ≡ length o = length-set o at b in
    let e : at + suc (length bs) ≡ at + 1 + length bs = omega arith in
    rw (lt-ltb at (length o) f)
    (rw (e, ← drop-set-lt (at + 1 + length bs) o at b (omega arith), ← append_snoc (take at o) b bs, ← take-suc-set o at b f, ← add-one at) (put-laid (set o at b) (at + 1) bs (omega arith)))

-- the digits that the library writes on the page itself, so that they end at a place
pub put_direct : (o new : List ℕ) (at k r : ℕ) (n : ℕ) → n ≤ highest_field → k ≡ length (decimal n) → at + k ≤ length o → r + length (printed n) ≡ at + k
    → drop r new ≡ printed n ++ drop (at + k) o → take r new ≡ take r o → page new (at + k) ≡ put (page o at) (decimal n)
put_direct o new at k r n h e f g d t =
    let p : printed n ≡ decimal n = printed_is n h in
    let l : length (printed n) ≡ length (decimal n) = ap length p in
    let q : r ≡ at = omega arith in
    let s : new ≡ take at o ++ (decimal n ++ drop (at + length (decimal n)) o) = sym (take-append-drop r new) ∙ rw (t, d, q, p, e) in
    rw (s, e, ← append_assoc (take at o) (decimal n) (drop (at + length (decimal n)) o)) (put-laid o at (decimal n) (omega arith))

-- ---- a text for which there is room
abbrev pub upto : Page → ℕ
upto p = p.upto

abbrev pub bytes : Page → List ℕ
bytes p = p.bytes

pub put_whole : (o : List ℕ) (at : ℕ) (text : List ℕ) (o' : List ℕ) (r : ℕ) → page o' r ≡ put (page o at) text → at + length text ≤ length o
    → (r ≡ at + length text) × (take r o' ≡ take at o ++ text) × (length o' ≡ length o)
unfolding put put_byte
put_whole o at [] o' r e h =
    let p : r ≡ at = ap upto e in
    let q : o' ≡ o = ap bytes e in
    (omega arith, rw (p, q, append-nil), rw q)
put_whole o at (b ∷ bs) o' r e h =
    let f : at < length o = omega arith in
    let s : length (set o at b) ≡ length o = length-set o at b in
    let w = put_whole (set o at b) (at + 1) bs o' r (rw (lt-ltb at (length o) f) at e) (omega arith) in
    (omega arith, w.1 ∙ rw (add-one at, take-suc-set o at b f, append_assoc (take at o) (b ∷ []) bs), w.2 ∙ s)
