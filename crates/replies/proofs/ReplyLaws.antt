-- What is written for a reply: its line's start, its pieces, and how much room they want.
use Prim.Native.Nat.{ℕ}
use mathlib.Core.Path.{◌≡◌, refl, ap}
use mathlib.Core.List.{List, [], ◌∷◌, ◌++◌, append_assoc, append-nil}
use Rattle.rules.specs.declared.rows.Lot.{Lot}
use Rattle.rules.specs.declared.answers.Refusal.{Refusal}
use Rattle.rules.specs.Lists.{joined}
use Rattle.rules.specs.Lines.{line_feed, decimal, tabbed}
use Rattle.rules.specs.Replies.{Reply, told_refusal}
use Rattle.rules.specs.Answer.{Outcome}
use Rattle.rules.specs.Transcript.{piece_values, reply_text}
use Rattle.rules.proofs.Laying.{joined_append}
use Rattle.rules.proofs.Told.{Telling, telling}
use Rattle.pages.specs.Writing.{Page, put}
use Rattle.pages.proofs.PageLaws.{put_then, put-values, tabbed-append}
use Rattle.replies.specs.Writing.{reply_start, reply_line}

-- ---- a value, and those after it
pub put_more_values : (p : Page) {q r : Page} (x : ℕ) (ys : List ℕ) → q ≡ put p (tabbed (x ∷ [])) → r ≡ put q (tabbed ys) → r ≡ put p (tabbed (x ∷ ys))
put_more_values p x ys e f = put-values p (x ∷ []) ys e f

-- ---- the line of a reply
start-values : (n : ℕ) (r : Reply) → reply_start n r ≡ decimal n ++ tabbed (r.number ∷ []) ++ tabbed r.values
unfolding reply_start
start-values n r = rw (tabbed-append (r.number ∷ []) r.values, ← append_assoc (decimal n) (tabbed (r.number ∷ [])) (tabbed r.values))

-- its number, and then its values
pub start_written : (p : Page) {q s : Page} (n m : ℕ) (r : Reply) → m ≡ r.number → q ≡ put p (decimal n ++ tabbed (m ∷ [])) → s ≡ put q (tabbed r.values) → s ≡ put p (reply_start n r)
start_written p n m r e h k = rw (start-values n r, ← e) (put_then p (decimal n ++ tabbed (m ∷ [])) (tabbed r.values) h k)

-- a reply's line is its start, its pieces and a line feed
pub reply-text : (n : ℕ) (o : Outcome) → reply_text n o ≡ reply_start n o.reply ++ tabbed (joined piece_values o.pieces) ++ (line_feed ∷ [])
unfolding reply_text reply_start
reply-text n o =
    rw (tabbed-append (o.reply.number ∷ o.reply.values) (joined piece_values o.pieces), append_assoc (decimal n) (tabbed (o.reply.number ∷ o.reply.values)) (tabbed (joined piece_values o.pieces)))

-- and without pieces it is the whole line that is written for an answer
pub reply-line : (n : ℕ) (o : Outcome) → o.pieces ≡ [] → reply_text n o ≡ reply_line n o.reply
unfolding reply_text reply_line reply_start joined
reply-line n o e = rw (e, append-nil o.reply.values)

-- one piece more
pub put-pieces : (p : Page) {q r : Page} (ls : List Lot) (l : Lot) → q ≡ put p (tabbed (joined piece_values ls)) → r ≡ put q (tabbed (piece_values l))
    → r ≡ put p (tabbed (joined piece_values (ls ++ (l ∷ []))))
unfolding joined
put-pieces p ls l e f = rw (joined_append piece_values ls (l ∷ [])) (put-values p (joined piece_values ls) (piece_values l) e f)

-- a refusal that is no Malformed tells its number alone
number_alone : {r : Refusal} → Telling r → ((k : ℕ) → r ≡ Refusal.Malformed k → ⊥) → (told_refusal r).values ≡ []
unfolding told_refusal
number_alone (Telling.field k) h = absurd (h k refl)
number_alone (Telling.alone q) h = ap (λ (x : Reply). x.values) q

pub no_field : (p : Page) (r : Refusal) → ((k : ℕ) → r ≡ Refusal.Malformed k → ⊥) → p ≡ put p (tabbed (told_refusal r).values)
unfolding tabbed joined put
no_field p r h = rw (number_alone (telling r) h)
