-- Line feeds in what is written: one in each reply, and one in the tally.
use Prim.Native.Nat.{ℕ, zero, suc, ◌+◌, ◌/◌, ◌%◌}
use mathlib.Core.Path.{◌≡◌, refl, ◌∙◌}
use mathlib.Core.Bool.{Bool, true, false, cond}
use mathlib.Core.List.{List, [], ◌∷◌, ◌++◌}
use native.Mathlib.Omega.{arith}
use lib.Dec.{ltb, eqb}
use lib.ListN.{length}
use borrow.Author.Tests.{ne_eqb}
use Rattle.promises.specs.Types.{Tally}
use Rattle.rules.specs.Lists.{those, joined, bytes}
use Rattle.rules.specs.Answer.{Outcome}
use Rattle.rules.specs.Lines.{tab, line_feed, spelled, decimal, tabbed}
use Rattle.rules.specs.Transcript.{piece_values, reply_text, end_text}
use Rattle.promises.specs.Demand1.{reply_texts, line_feeds}

-- ---- line feeds
-- those of two texts, one after the other
pub feeds-append : (xs ys : List ℕ) → line_feeds (xs ++ ys) ≡ line_feeds xs + line_feeds ys
unfolding line_feeds those
feeds-append [] ys = omega arith
feeds-append (x ∷ xs) ys = go (eqb line_feed x) (feeds-append xs ys)
  where
    go : (t : Bool) → line_feeds (xs ++ ys) ≡ line_feeds xs + line_feeds ys
        → length (cond t (x ∷ those (eqb line_feed) (xs ++ ys)) (those (eqb line_feed) (xs ++ ys)))
        ≡ length (cond t (x ∷ those (eqb line_feed) xs) (those (eqb line_feed) xs)) + line_feeds ys
    go true ih = omega arith
    go false ih = ih

-- a digit is none
digit_feeds : (n : ℕ) → line_feeds ((48 + n) ∷ []) ≡ 0
unfolding line_feeds those
digit_feeds n = rw (ne_eqb line_feed (48 + n) (λ e. omega arith))

-- so a number has none
spelled-feeds : (k n : ℕ) → line_feeds (spelled k n) ≡ 0
unfolding spelled
spelled-feeds zero n = unfold line_feeds those in refl
spelled-feeds (suc k) n = go (ltb n 10) (spelled-feeds k (n / 10))
  where
    go : (t : Bool) → line_feeds (spelled k (n / 10)) ≡ 0 → line_feeds (cond t ((48 + n) ∷ []) (spelled k (n / 10) ++ ((48 + n % 10) ∷ []))) ≡ 0
    go true ih = digit_feeds n
    go false ih = rw (feeds-append (spelled k (n / 10)) ((48 + n % 10) ∷ []), ih, digit_feeds (n % 10))

-- numbers after tabs hold none
tabbed-feeds : (ns : List ℕ) → line_feeds (tabbed ns) ≡ 0
unfolding tabbed joined
tabbed-feeds [] = unfold line_feeds those in refl
tabbed-feeds (n ∷ ns) = feeds-append (tab ∷ decimal n) (tabbed ns) ∙ rw (field n, tabbed-feeds ns)
  where
    field : (n : ℕ) → line_feeds (tab ∷ decimal n) ≡ 0
    field n = unfold line_feeds those decimal in spelled-feeds 20 n

-- a text without one, then numbers after tabs, then a line feed: one line
one-feed : (w ns : List ℕ) → line_feeds w ≡ 0 → line_feeds (w ++ tabbed ns ++ (line_feed ∷ [])) ≡ 1
one-feed w ns h =
    let e : line_feeds (line_feed ∷ []) ≡ 1 = unfold line_feeds those in refl in
    rw (feeds-append (w ++ tabbed ns) (line_feed ∷ []), feeds-append w (tabbed ns), h, tabbed-feeds ns, e)

-- so a reply is one line, and so is the tally
pub one_line : (n : ℕ) (o : Outcome) → line_feeds (reply_text n o) ≡ 1
unfolding reply_text decimal
one_line n o = one-feed (decimal n) (o.reply.number ∷ o.reply.values ++ joined piece_values o.pieces) (spelled-feeds 20 n)

pub end_line : (t : Tally) → line_feeds (end_text t) ≡ 1
unfolding end_text
end_line t = one-feed (bytes "end") (t.done ∷ t.other ∷ []) (unfold line_feeds those bytes in refl)

-- the replies are as many lines as there are outcomes
pub reply-lines : (n : ℕ) (os : List Outcome) → line_feeds (reply_texts n os) ≡ length os
unfolding reply_texts
reply-lines n [] = unfold line_feeds those in refl
reply-lines n (o ∷ os) = rw (feeds-append (reply_text n o) (reply_texts (n + 1) os), one_line n o, reply-lines (n + 1) os) (omega arith)
