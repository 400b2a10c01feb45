-- The state of a book, without counts: the desk's numbers with three lists of rows. The outbox is two lists, the payments in flight and those that wait.
use Rattle.std.specs.Prelude.{ℕ, ◌*◌, ◌≡◌, List, [], ◌++◌, length, take, drop, replicate}
use Rattle.rules.specs.Types.{DepositNumber, Nonce, Deposit, Payment, Record, Desk}
use Rattle.rules.specs.Limits.{inbox_rows, outbox_rows, history_rows, member_count, asset_count, domain_count}
use Rattle.rules.specs.Tables.{Shape, rows_of, lay, deposit_shape, payment_shape, record_shape}

-- what the outside has a part in: deposits on the chain, payments to it, and their totals
pub record Outside : Type 0 where
  pub lifetime : List ℕ
  pub settled : List ℕ
  pub last : DepositNumber
  pub next : Nonce
  pub inflight : List Payment
  pub waiting : List Payment

pub record State : Type 0 where
  pub balances : List ℕ
  pub holders : List ℕ
  pub inbox : List Deposit
  pub outside : Outside
  pub history : List Record

-- a book as it is handed to a call: the desk, and the three lent tables, flat
pub record Book : Type 0 where
  pub desk : Desk
  pub inbox : List ℕ
  pub outbox : List ℕ
  pub history : List ℕ

-- the used rows of a book's tables
abbrev pub inbox_of : Book → List Deposit
inbox_of b = rows_of deposit_shape b.desk.counts.unclaimed b.inbox

abbrev pub outbox_of : Book → List Payment
outbox_of b = rows_of payment_shape b.desk.counts.payments b.outbox

abbrev pub history_of : Book → List Record
history_of b = rows_of record_shape b.desk.counts.records b.history

-- the state that a book holds: of the outbox's rows the first are in flight
unfoldable pub view : Book → State
view b =
    record {
      balances = b.desk.balances;
      holders = b.desk.holders;
      inbox = inbox_of b;
      outside =
          record {
            lifetime = b.desk.lifetime;
            settled = b.desk.settled;
            last = b.desk.counts.last;
            next = b.desk.counts.next;
            inflight = take b.desk.counts.inflight (outbox_of b);
            waiting = drop b.desk.counts.inflight (outbox_of b);
          };
      history = history_of b;
    }

-- the payments of the outbox: those in flight, then those that wait
abbrev pub payments : Outside → List Payment
payments o = o.inflight ++ o.waiting

-- the desk of a state: its numbers, and its lists' lengths as the counts
unfoldable pub desk_of : State → Desk
desk_of s =
    record {
      balances = s.balances;
      holders = s.holders;
      lifetime = s.outside.lifetime;
      settled = s.outside.settled;
      counts =
          record {
            last = s.outside.last;
            next = s.outside.next;
            unclaimed = length s.inbox;
            payments = length (payments s.outside);
            inflight = length s.outside.inflight;
            records = length s.history;
          };
    }

-- a book with another state laid into its tables
unfoldable pub laid : State → Book → Book
laid s b =
    record {
      desk = desk_of s;
      inbox = lay deposit_shape s.inbox b.desk.counts.unclaimed b.inbox;
      outbox = lay payment_shape (payments s.outside) b.desk.counts.payments b.outbox;
      history = lay record_shape s.history b.desk.counts.records b.history;
    }

-- the holders that every book starts with: "member 1 holding every domain"
unfoldable pub first_holders : List ℕ
first_holders = replicate domain_count 1

-- "An empty book has all balances, totals and counts 0, last deposit number 0, next nonce 0, and member 1 holding every domain."
unfoldable pub empty_state : State
empty_state =
    record {
      balances = replicate (member_count * asset_count) 0;
      holders = first_holders;
      inbox = [];
      outside =
          record {
            lifetime = replicate asset_count 0;
            settled = replicate asset_count 0;
            last = record { 0 = 0 };
            next = record { 0 = 0 };
            inflight = [];
            waiting = [];
          };
      history = [];
    }

-- a table of so many rows of zeros
abbrev pub blank : {A : Type 0} → Shape A → ℕ → List ℕ
blank shape rows = replicate (rows * shape.width) 0

-- the one that the book runner starts from
unfoldable pub empty_book : Book
empty_book =
    record {
      desk = desk_of empty_state;
      inbox = blank deposit_shape inbox_rows;
      outbox = blank payment_shape outbox_rows;
      history = blank record_shape history_rows;
    }

-- any empty book: its tables have their size, and whatever the unused rows hold
pub record Empty (b : Book) : Type 0 where
  pub desk : b.desk ≡ desk_of empty_state
  pub inbox : length b.inbox ≡ inbox_rows * deposit_shape.width
  pub outbox : length b.outbox ≡ outbox_rows * payment_shape.width
  pub history : length b.history ≡ history_rows * record_shape.width
