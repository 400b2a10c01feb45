-- What carries the demands to the code, proved.
use Prim.Native.Nat.{ℕ}
use mathlib.Core.Path.{◌≡◌, refl, sym, ap, ◌∙◌}
use mathlib.Core.List.{List, [], ◌∷◌}
use Rattle.promises.specs.Types.{Call}
use Rattle.rules.specs.State.{Book, empty_book}
use Rattle.rules.specs.Effects.{changes_nothing}
use Rattle.rules.specs.Answer.{Outcome, answer}
use Rattle.rules.specs.Runs.{run}
use Rattle.rules.proofs.Books.{nothing_changed}
use Rattle.runner.proofs.Cuts.{machine-transcript, however_cut}
use Rattle.promises.specs.Promises.{EveryByte, Alike, TheCode}
use Rattle.promises.specs.Carried.{calls_in, Steps}
use Rattle.promises.proofs.Base.{blank_empty}
use Rattle.promises.proofs.Demand2.{demand2}
use Rattle.promises.proofs.OutsideMachine.{outside_told, outside-agreed}
use Rattle.promises.proofs.MemberReplies.{member-told, member-answered}
use Rattle.promises.proofs.CarriedBytes.{run-append, held-book, held-replies, outcomes-after, written-begins}
use Rattle.promises.proofs.CarriedReads.{reached}

every_byte : (input : List ℕ) → EveryByte input
every_byte input =
    record {
      book = held-book input;
      demand2 = demand2 empty_book (calls_in input) blank_empty;
      replies = held-replies input;
      beginning = written-begins input;
      whole = machine-transcript input;
    }

alike : (input input' : List ℕ) → Alike input input'
alike input input' =
    record {
      outside = outside_told empty_book empty_book blank_empty blank_empty (calls_in input) (calls_in input');
      agreed = λ e. rw (held-book input, held-book input') (outside-agreed empty_book empty_book blank_empty blank_empty (calls_in input) (calls_in input') e);
      member = λ m e. rw (held-book input, held-book input') (member-told m empty_book empty_book blank_empty blank_empty (calls_in input) (calls_in input') e);
      next = λ m e. rw (held-book input, held-book input') (member-answered m empty_book empty_book blank_empty blank_empty (calls_in input) (calls_in input') e);
    }

-- each call leaves the book of its answer, and a trace the book as it was
steps : {b left : Book} {cs : List Call} → Steps b cs left → left ≡ run b cs
unfolding run
steps Steps.none = refl
steps (Steps.call {b = b} {cs = cs} c a s e) =
    ap (λ (o : Outcome). o.book) e ∙ ap (λ (x : Book). (answer x c).book) (steps s) ∙ sym (run-append b cs (c ∷ []))
steps (Steps.trace {b = b} {cs = cs} n work pieces workLeft piecesLeft a s e) =
    steps s ∙ sym (nothing_changed (run b cs) (Call.Trace n) (unfold changes_nothing in refl)) ∙ sym (run-append b cs (Call.Trace n ∷ []))

-- the whole of it
pub the_code : TheCode
the_code = record { every_byte = every_byte; cut = however_cut; each = outcomes-after empty_book; alike = alike; chain = reached; steps = λ b left cs s. steps s }
