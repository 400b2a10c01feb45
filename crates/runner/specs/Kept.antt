-- What the program keeps from one call of the code to the next, and the contracts of `run_some` and `close`.
use Rattle.std.specs.Prelude.{ℕ, ◌≤◌, ◌≡◌, cond, List, [], ◌++◌, length, take}
use Rattle.rules.specs.declared.answers.Tally.{Tally}
use Rattle.rules.specs.declared.book.Book.{Book as LentBook}
use Rattle.rules.specs.State.{Book}
use Rattle.rules.specs.Lent.{lent_book}
use Rattle.pages.specs.declared.Page.{Page as LentPage}
use Rattle.pages.specs.Writing.{Page, put}
use Rattle.pages.specs.Lent.{page_of}
use Rattle.runner.specs.Machine.{Machine, Progress, machine_with, stopped, feeds, writes, unfinished_text, at_end, closing}
use Rattle.runner.specs.Feeding.{Moves}

-- the session, as the machine that it stands for, and the page of output
pub record Kept : Type 0 where
  pub machine : Machine
  pub page : Page

abbrev pub kept : Machine → Page → Kept
kept m p = record { machine = m; page = p }

-- the same, of a session and what is lent with it
abbrev pub kept_of : Progress → LentBook → LentPage → Kept
kept_of s b p = kept (machine_with s (lent_book b)) (page_of p)

-- the book that lies in the desk and the tables
abbrev pub book_in : Kept → Book
book_in k = k.machine.book

-- what stands written on a page
abbrev pub text_of : Page → List ℕ
text_of p = take p.upto p.bytes

abbrev pub on_page : Kept → List ℕ
on_page k = text_of k.page

-- one call of `run_some` with some bytes, of which it took the first `next`: its contract, of all that it was lent and handed back
pub record RunSome (before : Kept) (chunk : List ℕ) (next : ℕ) (left : Kept) : Type 0 where
  pub machine : left.machine ≡ feeds before.machine (take next chunk)
  pub page : left.page ≡ put before.page (writes before.machine (take next chunk))
  pub text : on_page left ≡ on_page before ++ writes before.machine (take next chunk)
  pub within : left.page.upto ≤ length left.page.bytes
  pub moves : Moves before.page next chunk

-- the end of the input, but for the line `end`: the reply to an unfinished last line is written and counted, if there is one
pub record Ended (m : Machine) (before : Page) (t : Tally) (left : Page) : Type 0 where
  pub tally : t ≡ (at_end m).tally
  pub page : left ≡ put before (cond (stopped m) [] (unfinished_text m.held m))

-- the call of `close`, which leaves this page: its contract
pub record Closed (m : Machine) (before left : Page) : Type 0 where
  pub page : left ≡ put before (closing m)
  pub text : text_of left ≡ text_of before ++ closing m
  pub within : left.upto ≤ length left.bytes
