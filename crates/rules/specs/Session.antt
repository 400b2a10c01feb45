-- Document 01's one session whole, with the field that document 02 adds after reply 1: the lines that are read, and the lines that are written.
use Rattle.std.specs.Prelude.{ℕ, List, [], ◌∷◌}
use Rattle.rules.specs.Lists.{joined, bytes}

-- the thirteen lines
unfoldable pub session : List ℕ
session =
    joined bytes
    ("deposit\t1\t3\t500\t2\n"
    ∷ "deposit\t2\t3\t300\t4\n"
    ∷ "claim\t2\t1\t3\t500\n"
    ∷ "transfer\t2\t4\t3\t200\n"
    ∷ "claim\t4\t2\t3\t300\n"
    ∷ "withdraw\t4\t3\t350\t77\n"
    ∷ "withdraw\t2\t3\t301\t77\n"
    ∷ "send\n"
    ∷ "settle\t1\n"
    ∷ "settle\t0\n"
    ∷ "trace\t0\n"
    ∷ "deposit\t4\t3\t10\t2\n"
    ∷ "deposit\t3\t3\t\t2\n"
    ∷ [])

-- the fourteen lines
unfoldable pub session_output : List ℕ
session_output =
    joined bytes
    ("1\t0\n"
    ∷ "2\t0\n"
    ∷ "3\t0\n"
    ∷ "4\t0\n"
    ∷ "5\t0\n"
    ∷ "6\t0\n"
    ∷ "7\t14\n"
    ∷ "8\t0\t0\t3\t350\t77\n"
    ∷ "9\t19\n"
    ∷ "10\t0\n"
    ∷ "11\t0\t2\t1\t200\t2\t150\n"
    ∷ "12\t10\n"
    ∷ "13\t1\t3\n"
    ∷ "end\t9\t4\n"
    ∷ [])
