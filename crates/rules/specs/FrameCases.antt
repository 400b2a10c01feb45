-- Document 01, "Out of frame": for each clause books that break it and nothing else. The book that they are made of is in frame.
use Rattle.std.specs.Prelude.{ℕ, ◌+◌, ◌-◌, ◌*◌, cond, List, [], ◌∷◌, ◌++◌, eqb, length, take, set}
use Rattle.rules.specs.Types.{Call, Desk}
use Rattle.rules.specs.Limits.{ceiling}
use Rattle.rules.specs.Tables.{Shape, deposit_shape, payment_shape, record_shape}
use Rattle.rules.specs.State.{Book, empty_book}
use Rattle.rules.specs.Runs.{run}
use Rattle.rules.specs.Cases.{deposit, claim, transfer, withdraw, grant}

-- inbox: deposits 2 and 3; outbox: nonces 0 (in flight) and 1; history: a claim, a transfer, two withdrawals, a grant, and a claim of which nothing is spent
unfoldable pub sample : Book
sample =
    run empty_book
    (deposit 1 3 500 2
    ∷ deposit 2 3 300 4
    ∷ deposit 3 3 20 2
    ∷ deposit 4 3 40 6
    ∷ claim 2 1 3 500
    ∷ transfer 2 5 3 50
    ∷ withdraw 2 3 100 7
    ∷ withdraw 2 3 50 8
    ∷ grant 1 2 5
    ∷ claim 6 4 3 40
    ∷ Call.Send
    ∷ [])

-- the sample with one of its parts made anew
abbrev pub inbox_as : (List ℕ → List ℕ) → Book
inbox_as f = record { desk = sample.desk; inbox = f sample.inbox; outbox = sample.outbox; history = sample.history }

abbrev pub outbox_as : (List ℕ → List ℕ) → Book
outbox_as f = record { desk = sample.desk; inbox = sample.inbox; outbox = f sample.outbox; history = sample.history }

abbrev pub history_as : (List ℕ → List ℕ) → Book
history_as f = record { desk = sample.desk; inbox = sample.inbox; outbox = sample.outbox; history = f sample.history }

abbrev pub desk_as : (Desk → Desk) → Book
desk_as f = record { desk = f sample.desk; inbox = sample.inbox; outbox = sample.outbox; history = sample.history }

-- a desk with its lists, and its counters and counts, made anew, each by its place among them
abbrev pub parts_as : (ℕ → List ℕ → List ℕ) → (ℕ → ℕ → ℕ) → Desk → Desk
parts_as list count d =
    record {
      balances = list 0 d.balances;
      holders = list 1 d.holders;
      lifetime = list 2 d.lifetime;
      settled = list 3 d.settled;
      counts =
          record {
            last = record { 0 = count 0 d.counts.last.0 };
            next = record { 0 = count 1 d.counts.next.0 };
            unclaimed = count 2 d.counts.unclaimed;
            payments = count 3 d.counts.payments;
            inflight = count 4 d.counts.inflight;
            records = count 5 d.counts.records;
          };
    }

-- one list, or one count, and all else as it is
abbrev pub list_as : ℕ → (List ℕ → List ℕ) → Desk → Desk
list_as k f = parts_as (λ i l. cond (eqb i k) (f l) l) (λ i n. n)

abbrev pub count_as : ℕ → ℕ → Desk → Desk
count_as k n = parts_as (λ i l. l) (λ i m. cond (eqb i k) n m)

-- each by its name
abbrev pub balances_as : (List ℕ → List ℕ) → Desk → Desk
balances_as f = list_as 0 f

abbrev pub holders_as : (List ℕ → List ℕ) → Desk → Desk
holders_as f = list_as 1 f

abbrev pub lifetime_as : (List ℕ → List ℕ) → Desk → Desk
lifetime_as f = list_as 2 f

abbrev pub settled_as : (List ℕ → List ℕ) → Desk → Desk
settled_as f = list_as 3 f

abbrev pub last_as : ℕ → Desk → Desk
last_as n = count_as 0 n

abbrev pub next_as : ℕ → Desk → Desk
next_as n = count_as 1 n

abbrev pub unclaimed_as : ℕ → Desk → Desk
unclaimed_as n = count_as 2 n

abbrev pub payments_as : ℕ → Desk → Desk
payments_as n = count_as 3 n

abbrev pub inflight_as : ℕ → Desk → Desk
inflight_as n = count_as 4 n

abbrev pub records_as : ℕ → Desk → Desk
records_as n = count_as 5 n

-- another number at a place
abbrev pub with : ℕ → ℕ → List ℕ → List ℕ
with i v l = set l i v

-- another number at a place of a row
abbrev pub row_with : {A : Type 0} → Shape A → ℕ → ℕ → ℕ → List ℕ → List ℕ
row_with shape row i v t = set t (row * shape.width + i) v

abbrev pub deposit_with : ℕ → ℕ → ℕ → Book
deposit_with row i v = inbox_as (row_with deposit_shape row i v)

abbrev pub payment_with : ℕ → ℕ → ℕ → Book
payment_with row i v = outbox_as (row_with payment_shape row i v)

abbrev pub record_with : ℕ → ℕ → ℕ → Book
record_with row i v = history_as (row_with record_shape row i v)

-- a table one number short
abbrev pub short : List ℕ → List ℕ
short t = take (length t - 1) t

unfoldable pub out_of_frame : List Book
out_of_frame =
    -- a lent table of the wrong size: one number short, one too long
    inbox_as short
    ∷ inbox_as (λ t. t ++ (0 ∷ []))
    ∷ outbox_as short
    ∷ outbox_as (λ t. t ++ (0 ∷ []))
    ∷ history_as short
    ∷ history_as (λ t. t ++ (0 ∷ []))
    -- a count above its rows: only the history's can break nothing else, as its rows are not read
    ∷ desk_as (records_as 1025)
    -- more in flight than in the outbox
    ∷ desk_as (inflight_as 3)
    -- a balance, lifetime total or settled total above the ceiling
    ∷ desk_as (balances_as (with 127 (ceiling + 1)))
    ∷ desk_as (lifetime_as (with 0 (ceiling + 1)))
    ∷ desk_as (settled_as (with 7 (ceiling + 1)))
    -- a member, asset or amount in a used inbox row outside its limit
    ∷ deposit_with 1 3 0
    ∷ deposit_with 1 3 17
    ∷ deposit_with 1 1 0
    ∷ deposit_with 1 1 9
    ∷ deposit_with 1 2 0
    ∷ deposit_with 1 2 (ceiling + 1)
    -- an asset, amount or payee in a used outbox row outside its limit
    ∷ payment_with 1 0 0
    ∷ payment_with 1 0 9
    ∷ payment_with 1 1 0
    ∷ payment_with 1 1 (ceiling + 1)
    ∷ payment_with 1 2 0
    ∷ payment_with 1 2 65536
    -- inbox deposit numbers not strictly rising, below 1 or above the last accepted
    ∷ deposit_with 1 0 2
    ∷ deposit_with 1 0 1
    ∷ deposit_with 0 0 0
    ∷ deposit_with 1 0 5
    -- outbox nonces not rising by 1 up to the next nonce less 1
    ∷ payment_with 1 3 0
    ∷ payment_with 1 3 2
    ∷ outbox_as (λ t. row_with payment_shape 0 3 1 (row_with payment_shape 1 3 2 t))
    ∷ desk_as (next_as 3)
    ∷ desk_as (next_as 1)
    -- next nonce above 1,024, with an empty outbox
    ∷ desk_as (λ d. next_as 1025 (payments_as 0 (inflight_as 0 d)))
    -- last deposit number above 4,294,967,295
    ∷ desk_as (last_as 4294967296)
    -- a holder outside 1 to 16
    ∷ desk_as (holders_as (with 0 0))
    ∷ desk_as (holders_as (with 7 17))
    ∷ []

-- a count of the inbox or the outbox above its rows: the rows past the table's end break other clauses too
unfoldable pub too_many_rows : List Book
too_many_rows = desk_as (unclaimed_as 65) ∷ desk_as (payments_as 33) ∷ []

-- "For provenance and trace also": histories that break one clause, in books whose other clauses all hold. The whole used history is tested: the last record too.
unfoldable pub bad_histories : List Book
bad_histories =
    -- a bad kind
    record_with 0 0 0
    ∷ record_with 4 0 5
    -- a claim: asset, amount, member, deposit number from 1
    ∷ record_with 5 1 9
    ∷ record_with 5 2 (ceiling + 1)
    ∷ record_with 5 3 17
    ∷ record_with 5 4 0
    ∷ record_with 5 4 4294967296
    -- a transfer: asset, amount, members, equal members, a sender with less than the amount
    ∷ record_with 1 1 0
    ∷ record_with 1 2 0
    ∷ record_with 1 3 0
    ∷ record_with 1 4 17
    ∷ record_with 1 4 2
    ∷ record_with 1 2 501
    ∷ record_with 1 3 6
    -- a withdrawal: asset, amount, member, payee, less than the amount
    ∷ record_with 2 1 4
    ∷ record_with 2 2 0
    ∷ record_with 2 3 0
    ∷ record_with 2 4 0
    ∷ record_with 2 4 65536
    ∷ record_with 2 2 451
    -- a grant: domain, amount 1, members, equal members, a domain that is another's
    ∷ record_with 4 1 0
    ∷ record_with 4 2 2
    ∷ record_with 4 3 0
    ∷ record_with 4 4 17
    ∷ record_with 4 4 1
    ∷ record_with 4 3 3
    ∷ []
