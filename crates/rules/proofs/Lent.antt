-- Whoever still holds what was lent: two books that do hold the same desk and tables.
use mathlib.Core.Path.{sym, ◌∙◌}
use Rattle.rules.specs.declared.book.Book.{Book as LentBook}
use Rattle.rules.specs.Lent.{SameTables}

pub same_tables : {lent b c : LentBook} → SameTables lent b → SameTables lent c → SameTables b c
same_tables p q = record { desk = q.desk ∙ sym p.desk; inbox = q.inbox ∙ sym p.inbox; outbox = q.outbox ∙ sym p.outbox; history = q.history ∙ sym p.history }

-- lent on, and on again
pub kept_tables : {first b c : LentBook} → SameTables first b → SameTables b c → SameTables first c
kept_tables p q = record { desk = q.desk ∙ p.desk; inbox = q.inbox ∙ p.inbox; outbox = q.outbox ∙ p.outbox; history = q.history ∙ p.history }
