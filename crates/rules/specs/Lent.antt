-- What a book that is lent holds, and that it is still the same desk and tables.
use Rattle.std.specs.Prelude.{◌≡◌}
use Rattle.rules.specs.declared.book.Book.{Book as LentBook}
use Rattle.rules.specs.State.{Book}

abbrev pub lent_book : LentBook → Book
lent_book b = record { desk = b.desk.now; inbox = b.inbox.now; outbox = b.outbox.now; history = b.history.now }

-- the desk and the tables are still those that were lent
pub record SameTables (old new : LentBook) : Type 0 where
  pub desk : new.desk.ghost_name ≡ old.desk.ghost_name
  pub inbox : new.inbox.ghost_name ≡ old.inbox.ghost_name
  pub outbox : new.outbox.ghost_name ≡ old.outbox.ghost_name
  pub history : new.history.ghost_name ≡ old.history.ghost_name

-- two books in one desk and one set of tables, that hold the same
abbrev pub SameBook : LentBook → LentBook → Type 0
SameBook b c = (lent_book b ≡ lent_book c) × SameTables b c
