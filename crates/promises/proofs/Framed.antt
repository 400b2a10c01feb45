-- The frame as facts about the state, with the tables' sizes apart: what a book in frame gives, and what puts a laid book in frame.
use Prim.Native.Nat.{◌*◌, ◌≤◌}
use mathlib.Core.Path.{◌≡◌}
use mathlib.Core.Bool.{true}
use native.Mathlib.Omega.{arith}
use lib.ListN.{length, length-append, take-append-drop}
use borrow.Author.Tests.{leb-true, le-leb, eqb-true, eq-eqb}
use Rattle.rules.specs.Limits.{inbox_rows, outbox_rows, history_rows, highest_number, highest_next, is_member}
use Rattle.rules.specs.Lists.{all, ands}
use Rattle.rules.specs.Tables.{deposit_shape, payment_shape, record_shape}
use Rattle.rules.specs.State.{State, Book, view, laid, desk_of, payments, outbox_of}
use Rattle.rules.specs.Frame.{up_to_ceiling, deposit_in_limits, payment_in_limits, numbers_rise, nonces_rise, in_frame}
use Rattle.rules.proofs.Laying.{length-rows}
use Rattle.rules.proofs.Shapes.{view-laid}
use Rattle.rules.proofs.Tests.{ands-at}

-- the lent tables have their sizes
pub record Sized (b : Book) : Type 0 where
  pub inbox_size : length b.inbox ≡ inbox_rows * deposit_shape.width
  pub outbox_size : length b.outbox ≡ outbox_rows * payment_shape.width
  pub history_size : length b.history ≡ history_rows * record_shape.width

-- every other clause of the frame, said of the state
pub record Framed (s : State) : Type 0 where
  pub unclaimed : length s.inbox ≤ inbox_rows
  pub queued : length (payments s.outside) ≤ outbox_rows
  pub records : length s.history ≤ history_rows
  pub balances : all up_to_ceiling s.balances ≡ true
  pub lifetime : all up_to_ceiling s.outside.lifetime ≡ true
  pub settled : all up_to_ceiling s.outside.settled ≡ true
  pub inbox_fields : all deposit_in_limits s.inbox ≡ true
  pub outbox_fields : all payment_in_limits (payments s.outside) ≡ true
  pub numbers : numbers_rise 0 s.outside.last.0 s.inbox ≡ true
  pub nonces : nonces_rise s.outside.next.0 (payments s.outside) ≡ true
  pub last : s.outside.last.0 ≤ highest_number
  pub next : s.outside.next.0 ≤ highest_next
  pub holders : all is_member s.holders ≡ true

-- a book in frame has tables of the right size
pub sized : (b : Book) → in_frame b ≡ true → Sized b
unfolding in_frame
sized b h =
    record {
      inbox_size = eqb-true (length b.inbox) (inbox_rows * deposit_shape.width) (ands-at _ 0 h);
      outbox_size = eqb-true (length b.outbox) (outbox_rows * payment_shape.width) (ands-at _ 1 h);
      history_size = eqb-true (length b.history) (history_rows * record_shape.width) (ands-at _ 2 h);
    }

-- and its state is framed
pub framed : (b : Book) → in_frame b ≡ true → Framed (view b)
unfolding in_frame
framed b h =
    record {
      unclaimed = unfold view in rw (length-rows deposit_shape b.desk.counts.unclaimed b.inbox) (leb-true b.desk.counts.unclaimed inbox_rows (ands-at _ 3 h));
      queued = unfold view in rw (take-append-drop b.desk.counts.inflight (outbox_of b), length-rows payment_shape b.desk.counts.payments b.outbox) (leb-true b.desk.counts.payments outbox_rows (ands-at _ 4 h));
      records = unfold view in rw (length-rows record_shape b.desk.counts.records b.history) (leb-true b.desk.counts.records history_rows (ands-at _ 5 h));
      balances = ands-at _ 7 h;
      lifetime = ands-at _ 8 h;
      settled = ands-at _ 9 h;
      inbox_fields = ands-at _ 10 h;
      outbox_fields = ands-at _ 11 h;
      numbers = ands-at _ 12 h;
      nonces = ands-at _ 13 h;
      last = leb-true (view b).outside.last.0 highest_number (ands-at _ 14 h);
      next = leb-true (view b).outside.next.0 highest_next (ands-at _ 15 h);
      holders = ands-at _ 16 h;
    }

-- a framed state, laid into tables that keep their sizes, is in frame
pub in_frame_lem : (s : State) (b : Book) → Framed s → Sized (laid s b) → in_frame (laid s b) ≡ true
unfolding in_frame ands
in_frame_lem s b f z =
    rw (
      view-laid s b,
      eq-eqb (length (laid s b).inbox) (inbox_rows * deposit_shape.width) z.inbox_size,
      eq-eqb (length (laid s b).outbox) (outbox_rows * payment_shape.width) z.outbox_size,
      eq-eqb (length (laid s b).history) (history_rows * record_shape.width) z.history_size,
      le-leb (laid s b).desk.counts.unclaimed inbox_rows (unfold laid desk_of in f.unclaimed),
      le-leb (laid s b).desk.counts.payments outbox_rows (unfold laid desk_of in f.queued),
      le-leb (laid s b).desk.counts.records history_rows (unfold laid desk_of in f.records),
      le-leb (laid s b).desk.counts.inflight (laid s b).desk.counts.payments (unfold laid desk_of in rw length-append (omega arith)),
      f.balances,
      f.lifetime,
      f.settled,
      f.inbox_fields,
      f.outbox_fields,
      f.numbers,
      f.nonces,
      le-leb s.outside.last.0 highest_number f.last,
      le-leb s.outside.next.0 highest_next f.next,
      f.holders,
    )
