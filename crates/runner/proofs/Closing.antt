-- The end of the input: what is held of a last line is Malformed, and the tally comes last.
use Rattle.std.proofs.Common.{Err}
use Prim.Native.Nat.{ℕ, ◌+◌, ◌≤◌}
use mathlib.Core.Path.{◌≡◌, refl, ap, ◌∙◌}
use mathlib.Core.Bool.{Bool, true, false, cond}
use mathlib.Core.List.{List, [], ◌∷◌}
use native.Mathlib.Omega.{arith}
use lib.Dec.{eqb}
use lib.ListN.{length}
use borrow.Author.Tests.{eqb-true, eqb-false}
use Rattle.rules.specs.declared.calls.FailsAt.{FailsAt}
use Rattle.rules.specs.declared.answers.Refusal.{Refusal}
use Rattle.rules.specs.declared.answers.Tally.{Tally}
use Rattle.rules.specs.Lines.{unread, read_whole}
use Rattle.rules.specs.Replies.{told}
use Rattle.rules.specs.Transcript.{tallied, end_text}
use Rattle.pages.specs.Writing.{Page, put}
use Rattle.pages.proofs.PageLaws.{put_then, put-nothing, put_whole}
use Rattle.replies.specs.Writing.{reply_line}
use Rattle.runner.specs.Machine.{Machine, stopped, unfinished, unfinished_text, at_end, closing}
use Rattle.runner.specs.Kept.{Ended, Closed}
use Rattle.runner.proofs.Answering.{malformed_text, malformed_counted}
use Rattle.runner.proofs.Room.{closing-fits}

either : {A : Type 0} (t : Bool) {x : A} → x ≡ cond t x x
either true = refl
either false = refl

module _ (m : Machine) (p : Page) where
  pub ended_stopped : stopped m ≡ true → Ended m p m.tally p
  unfolding at_end
  ended_stopped s = record { tally = rw s refl; page = rw s (put-nothing p) }

  pub ended_whole : eqb (length m.held) 0 ≡ true → Ended m p m.tally p
  unfolding at_end unfinished unfinished_text
  ended_whole z = go m.held (eqb-true (length m.held) 0 z)
    where
      go : (held : List ℕ) → length held ≡ 0 → Ended (record { book = m.book; tally = m.tally; line = m.line; held = held }) p m.tally p
      go [] e = record { tally = ap (λ (x : Machine). x.tally) (either (stopped m) {x = record { book = m.book; tally = m.tally; line = m.line; held = [] }}); page = put-nothing p ∙ ap (put p) (either (stopped m) {x = []}) }
      go (b ∷ held) e = absurd (omega (arith, e))

  pub ended_unfinished : (e : FailsAt) (t : Tally) (q : Page) → stopped m ≡ false → eqb (length m.held) 0 ≡ false → Err e ≡ unread (read_whole m.held) → q ≡ put p (reply_line m.line (told (Err (Refusal.Malformed e.0))))
      → t ≡ tallied m.tally 1 → Ended m p t q
  unfolding at_end unfinished unfinished_text
  ended_unfinished e t q s z r f g = go m.held (λ h. eqb-false (length m.held) 0 z h) r
    where
      go : (held : List ℕ) → (length held ≡ 0 → ⊥) → Err e ≡ unread (read_whole held) → Ended (record { book = m.book; tally = m.tally; line = m.line; held = held }) p t q
      go [] h k = absurd (h refl)
      go (b ∷ held) h k =
          record {
            tally = rw (s, ← k, malformed_counted m.book e) g;
            page = rw (s, ← k, malformed_text m.book m.line e) f;
          }

  -- behind it comes the end
  pub closed : (t : Tally) (q r : Page) → p.upto + 45000 ≤ length p.bytes → Ended m p t q → r ≡ put q (end_text t) → Closed m p r
  unfolding closing
  closed t q r h e f =
      let g : r ≡ put p (closing m) = put_then p (cond (stopped m) [] (unfinished_text m.held m)) (end_text (at_end m).tally) e.page (rw (← e.tally) f) in
      let c = closing-fits m in
      let (at, text, long) = put_whole p.bytes p.upto (closing m) r.bytes r.upto g (omega arith) in
      record { page = g; text = text; within = omega (arith, at, long, h, c) }
