-- What an accepted call leaves, on every book.
use mathlib.Core.Path.{◌≡◌, ap, ◌∙◌}
use Rattle.promises.specs.Types.{Call}
use Rattle.rules.specs.State.{Book, laid}
use Rattle.rules.specs.Answer.{done, answer}
use Rattle.rules.specs.Facts.{Accepted}
use Rattle.rules.proofs.Accepts.{book-accepted, state-accepted}
use Rattle.rules.proofs.Books.{inbox-left, outbox-left, history-left}
use Rattle.promises.specs.Promises.{Leaves}

pub leaves : (b : Book) (c : Call) → Accepted b c → Leaves b c
unfolding laid
leaves b c a =
    let e : (answer b c).book ≡ done c b = book-accepted b c a in
    record {
      state = state-accepted b c a;
      desk = ap (λ (x : Book). x.desk) e;
      inbox = ap (λ (x : Book). x.inbox) e ∙ inbox-left b c a;
      outbox = ap (λ (x : Book). x.outbox) e ∙ outbox-left b c a;
      history = ap (λ (x : Book). x.history) e ∙ history-left b c a;
    }
