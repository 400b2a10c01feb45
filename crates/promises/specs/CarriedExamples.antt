-- What carries the demands to the code is not empty: an input in reads that end in the middle of a line, and what the code keeps between them. What they come to is computed in proofs/CarriedExamples.
use Rattle.std.specs.Prelude.{ℕ, ◌-◌, List, ◌++◌, length, replicate}
use Rattle.rules.specs.Lists.{bytes}
use Rattle.pages.specs.Writing.{page}
use Rattle.runner.specs.Machine.{Machine}
use Rattle.runner.specs.Kept.{Kept}

-- a deposit, a send that is refused, and a line whose line feed never comes
abbrev pub first_read : List ℕ
first_read = bytes "depo"

abbrev pub second_read : List ℕ
second_read = bytes "sit\t1\t3\t500\t2\nsend\ncl"

abbrev pub last_read : List ℕ
last_read = bytes "aim"

-- what the code keeps where it stands for this machine: the session, its book, and a page of 100 bytes that begins with this text. The code itself takes a line only with 45,000 bytes free; the contract leaves open how far it comes, so this page is small for the sake of computing
unfoldable pub kept_as : Machine → List ℕ → Kept
kept_as m text = record { machine = m; page = page (text ++ replicate (100 - length text) 0) (length text) }
