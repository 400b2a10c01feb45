-- The line of an answer, piece by piece, and the tally that it raises.
use Rattle.std.specs.Prelude.{Ok}
use Prim.Native.Nat.{ℕ, ◌+◌, ◌<◌, min}
use mathlib.Core.Path.{◌≡◌, sym, ap, ◌∙◌}
use mathlib.Core.List.{List, [], ◌∷◌, ◌++◌, append_assoc}
use mathlib.Core.Logic.{◌≢◌}
use lib.ListN.{length, get_or, take}
use lib.Seq.{take-suc}
use Rattle.std.proofs.lemmas.List.{take_min}
use Rattle.std.proofs.Math.Seq.{take-length}
use native.Mathlib.Numerals.{add-one}
use Rattle.rules.specs.declared.rows.Lot.{Lot}
use Rattle.rules.specs.Types.{Answer}
use Rattle.rules.specs.declared.answers.Tally.{Tally}
use Rattle.rules.specs.Lists.{joined}
use Rattle.rules.specs.Lots.{no_lot}
use Rattle.rules.specs.Lines.{line_feed, tabbed}
use Rattle.rules.specs.Replies.{told}
use Rattle.rules.specs.Transcript.{piece_values, tallied}
use Rattle.rules.proofs.Accepts.{not_done}
use Rattle.pages.specs.Writing.{Page, put}
use Rattle.replies.specs.Writing.{reply_start, reply_line}
use Rattle.pages.proofs.PageLaws.{put_then, put-nothing}
use Rattle.replies.proofs.ReplyLaws.{put-pieces}
use Rattle.rules.specs.declared.answers.Done.{Done}
use Rattle.steps.specs.Step.{handed, answer_text}

-- ---- the pieces, one after the other
abbrev pub pieces_text : List Lot → List ℕ
pieces_text ps = tabbed (joined piece_values ps)

pub no_pieces : (p : Page) → p ≡ put p (pieces_text [])
unfolding joined tabbed
no_pieces p = put-nothing p

pub more_pieces : (p : Page) {q r : Page} (t : List Lot) (i : ℕ) → i < length t → q ≡ put p (pieces_text (take i t)) → r ≡ put q (tabbed (piece_values (get_or t i no_lot))) → r ≡ put p (pieces_text (take (i + 1) t))
more_pieces p t i h e f = rw (add-one i, take-suc t i no_lot h) (put-pieces p (take i t) (get_or t i no_lot) e f)

-- all of those that are handed out, and the table has no more than these
pub all_pieces : (p : Page) {q : Page} (t : List Lot) (n : ℕ) → q ≡ put p (pieces_text (take (length (take (min n (length t)) t)) (take (min n (length t)) t))) → q ≡ put p (pieces_text (take n t))
all_pieces p t n e = e ∙ ap (λ (ls : List Lot). put p (pieces_text ls)) (take-length (take (min n (length t)) t) ∙ take_min n t)

-- ---- the whole line
-- of an answer that hands out no pieces
pub answer_alone : (n : ℕ) (a : Answer) (t : List Lot) → handed a t ≡ [] → reply_line n (told a) ≡ answer_text n a t
unfolding answer_text reply_line joined tabbed
answer_alone n a t h = rw h (sym (append_assoc (reply_start n (told a)) [] (line_feed ∷ [])))

pub answer_line : (p : Page) {q r s : Page} (n k : ℕ) (t : List Lot) → q ≡ put p (reply_start n (told (Ok (Done.Traced k)))) → r ≡ put q (pieces_text (take k t)) → s ≡ put r (line_feed ∷ [])
    → s ≡ put p (answer_text n (Ok (Done.Traced k)) t)
unfolding answer_text handed
answer_line p n k t e f g =
    put_then p (reply_start n (told (Ok (Done.Traced k))) ++ pieces_text (take k t)) (line_feed ∷ [])
    (put_then p (reply_start n (told (Ok (Done.Traced k)))) (pieces_text (take k t)) e f) g

-- ---- the tally
pub raised_done : (t : Tally) (n : ℕ) → n ≡ 0 → record { done = t.done + 1; other = t.other } ≡ tallied t n
unfolding tallied
raised_done t n e = rw e

pub raised_other : (t : Tally) (n : ℕ) → n ≢ 0 → record { done = t.done; other = t.other + 1 } ≡ tallied t n
unfolding tallied
raised_other t n e = rw (not_done {A = Tally} n (record { done = t.done + 1; other = t.other }) (record { done = t.done; other = t.other + 1 }) e)
