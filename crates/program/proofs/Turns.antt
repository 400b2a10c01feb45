-- Part after part of a read, and turn after turn.
use Rattle.std.proofs.Common.{ℕ, ◌+◌, ◌-◌, ◌^◌, ◌≤◌, ◌<◌, ◌≡◌, ◌⊎◌, inl, inr, Bool, true, false, List, [], ◌∷◌, ◌++◌, length, take, drop, refl, sym, ap, ◌∙◌, subst, length-append, append_assoc, append-nil, take-append-drop, length-set, arith, Option, None, Some, IfSome, is_some, Result, Ok, Err, IsOk, IsErr, is_ok, MatchResult}
use Rattle.std.proofs.lemmas.Bool.{false≢true}
use Rattle.std.specs.Io.{ReadsAtMost}
use Rattle.std.specs.Io.KnownBytes.{Appends, Consumes, IsAtEnd, ReadConsumes}
use Rattle.std.proofs.KnownBytes.{Appends-nil, Consumes-nil, Consumes-trans, Consumes-kept}
use Rattle.std.specs.ControlFlow.{break_value}
use Rattle.std.specs.declared.ops.ControlFlow.TheVariants.{Continue, Break}
use Rattle.runner.specs.Machine.{Machine, start, stopped, feeds, writes, closing}
use Rattle.runner.proofs.Cuts.{feeds-append, writes-append, feeds-stopped, writes-stopped, machine-transcript}
use Rattle.pages.specs.Writing.{Page, page, put, put_byte}
use Rattle.program.specs.Turns.{Next, given, Answers, Passes, AppendsPart, Wrote, TakesTurn, text_for, IsOver, Session, WritesTranscript}
use Rattle.std.specs.declared.io.Error.{Error}
use Rattle.program.specs.declared.Failed.{Failed}
use Rattle.program.proofs.Writing.{part_wider, wrote_all, part_then, wrote_then, cut_more}

-- ---- a page keeps its length
pub put_keeps : (p : Page) (text : List ℕ) → length (put p text).bytes ≡ length p.bytes
unfolding put put_byte
put_keeps p [] = refl
put_keeps p (b ∷ bs) = put_keeps (put_byte p b) bs ∙ length-set p.bytes p.upto b

-- so a page that is begun anew and written keeps its room
pub room_keeps : (bytes : List ℕ) (begun q : Page) (text : List ℕ) {n : ℕ} → begun ≡ page bytes 0 → q ≡ put begun text → n ≤ length bytes → n ≤ length q.bytes
room_keeps bytes begun q text c e h = rw (e, put_keeps begun text, c) h

-- and a text that begins a page is what stands on it
pub page_text : (p : Page) {bytes text shown : List ℕ} → p ≡ page bytes 0 → shown ≡ take p.upto p.bytes ++ text → shown ≡ text
page_text p e h = rw e at h

-- ---- some bytes are fed, and what they are answered is written
pub record Fed (m now : Machine) (a b : Option (List ℕ)) (bytes : List ℕ) : Type 0 where
  pub fed : now ≡ feeds m bytes
  pub wrote : Appends a b (writes m bytes)

-- no byte
pub fed_none : (m now : Machine) (a : Option (List ℕ)) → now ≡ m → Fed m now a a []
unfolding feeds writes
fed_none m now a e = record { fed = e; wrote = Appends-nil a }

module _ (m now : Machine) (a b c : Option (List ℕ)) (bytes : List ℕ) (f : Fed m now a b bytes) (more : List ℕ) where
  pub writes_more : writes m bytes ++ writes now more ≡ writes m (bytes ++ more)
  writes_more = ap (λ x. writes m bytes ++ writes x more) f.fed ∙ sym (writes-append m bytes more)

  -- of what is written for more of them a beginning
  pub part_more : AppendsPart b c (writes now more) → AppendsPart a c (writes m (bytes ++ more))
  part_more = part_then a b c (writes m bytes) (writes now more) writes_more f.wrote

  -- and more are fed
  pub fed_more : {next : Machine} → next ≡ feeds now more → Appends b c (writes now more) → Fed m next a c (bytes ++ more)
  fed_more e h =
      record {
        fed = e ∙ ap (λ x. feeds x more) f.fed ∙ sym (feeds-append m bytes more);
        wrote = (wrote_then a b c (writes m bytes) (writes now more) writes_more f.wrote true (wrote_all b c (writes now more) true h)).all refl;
      }

-- ---- part after part of a read: its front is fed, and this is the rest of it
pub record FrontFed (m now : Machine) (a b : Option (List ℕ)) (chunk rest : List ℕ) : Type 0 where
  pub front : List ℕ
  pub cut : front ++ rest ≡ chunk
  pub fed : Fed m now a b front

pub front_begun : {m now : Machine} {a : Option (List ℕ)} {chunk : List ℕ} → now ≡ m → FrontFed m now a a chunk chunk
front_begun {m} {now} {a} {chunk} e = record { front = []; cut = refl; fed = fed_none m now a e }

module _ {m now : Machine} {a b c : Option (List ℕ)} {chunk rest : List ℕ} (f : FrontFed m now a b chunk rest) where
  -- some of the rest is fed
  pub front_fed : (n : ℕ) {next : Machine} → next ≡ feeds now (take n rest) → Appends b c (writes now (take n rest)) → FrontFed m next a c chunk (take (length rest - n) (drop n rest))
  front_fed n e h = record { front = f.front ++ take n rest; cut = cut_more f.front rest f.cut n; fed = fed_more m now a b c f.front f.fed (take n rest) e h }

  -- what it is answered could not be written: of the answer to the whole read a beginning is
  pub front_short : (n : ℕ) {w : Bool} (r : Result Next Failed) → Wrote b c (writes now (take n rest)) w → IsErr r → Wrote a c (writes m chunk) (is_ok r)
  front_short n (Ok f) h e = absurd (false≢true e)
  front_short n (Err why) h e =
      let whole : writes now (take n rest) ++ writes (feeds now (take n rest)) (drop n rest) ≡ writes now rest =
      sym (writes-append now (take n rest) (drop n rest)) ∙ ap (writes now) (take-append-drop n rest) in
      let part = part_wider b c (writes now (take n rest)) (writes (feeds now (take n rest)) (drop n rest)) whole h.part in
      record { part = subst (λ t. AppendsPart a c (writes m t)) f.cut (part_more m now a b c f.front f.fed rest part); all = λ e. absurd (false≢true e) }

-- nothing of it is left: all that the read is answered is written
pub front_whole : {m now : Machine} {a b : Option (List ℕ)} {chunk rest : List ℕ} → FrontFed m now a b chunk rest → length rest ≡ 0 → Wrote a b (writes m chunk) true
front_whole {m} {now} {a} {b} {chunk} {rest} f e = go rest f.cut e
  where
    go : (left : List ℕ) → f.front ++ left ≡ chunk → length left ≡ 0 → Wrote a b (writes m chunk) true
    go [] c z = wrote_all a b (writes m chunk) true (subst (λ t. Appends a b (writes m t)) (sym (append-nil f.front) ∙ c) f.fed.wrote)
    go (x ∷ left) c z = absurd (omega (arith, z))

-- ---- what a read gave
pub given_consumed : (a b : Option (List ℕ)) (got : Result ℕ Error) (input : List ℕ) → ReadConsumes a b got input → Consumes a b (given got input)
given_consumed a b (Ok n) input h = h.0
given_consumed a b (Err why) input h = Consumes-kept a a b [] (Consumes-nil a) h

pub given_none : (a b : Option (List ℕ)) (got : Result ℕ Error) (input : List ℕ) → ReadsAtMost got input → ReadConsumes a b got input → IsOk got → given got input ≡ [] → 0 < length input → IsAtEnd b
given_none a b (Ok n) input moved h ok e some = h.1 (moved.1 ∙ ap (λ (t : List ℕ). length t) e) some
given_none a b (Err why) input moved h ok e some = absurd (false≢true ok)

-- what a read answered, where that is told of the same result with another error
pub got_ok : (got : Result ℕ Error) (told : Result ℕ Failed) (n : ℕ) (P : Error → Type 0) → MatchResult got (λ x. told ≡ Ok x) P → is_ok told ≡ is_ok got → told ≡ Ok n → got ≡ Ok n
got_ok (Ok x) told n P h v e = cc
got_ok (Err why) told n P h v e = absurd (false≢true (sym v ∙ ap (λ r. is_ok r) e))

-- ---- a turn: its read failed, gave nothing, or gave something
module _ {m : Machine} {had left held : Option (List ℕ)} {input : List ℕ} where
  pub turn_failed : (got : Result ℕ Error) (r : Result Next Failed) → ReadsAtMost got input → ReadConsumes had left got input → is_ok got ≡ false → IsErr r → TakesTurn m m had left held held input r
  unfolding writes
  turn_failed (Ok n) r moved read e h = absurd (false≢true (sym e))
  turn_failed (Err why) (Ok f) moved read e h = absurd (false≢true h)
  turn_failed (Err why) (Err failed) moved read e h =
      record { got = Err why; moved = moved; read = read; ok = λ ok. absurd (false≢true ok); answers = tt; passes = tt; wrote = wrote_all held held [] false (Appends-nil held) }

  module _ (got : Result ℕ Error) (n : ℕ) (moved : ReadsAtMost got input) (read : ReadConsumes had left got input) (e : got ≡ Ok n) where
    pub turn_ended : n ≡ 0 → TakesTurn m m had left held held input (Ok (Break tt))
    unfolding feeds writes
    turn_ended z =
        record { got = got; moved = moved; read = read; ok = λ _. ap (λ r. is_ok r) e; answers = rw (e, z) refl; passes = rw (e, z) (inl refl); wrote = rw (e, z) (wrote_all held held [] true (Appends-nil held)) }

    pub turn_taken : {next : Machine} {after : Option (List ℕ)} (r : Result Next Failed) → Answers (take n input) m next r → Passes (take n input) next r → Wrote held after (writes m (take n input)) (is_ok r)
        → TakesTurn m next had left held after input r
    turn_taken r answers passes wrote =
        record { got = got; moved = moved; read = read; ok = λ _. ap (λ r. is_ok r) e; answers = rw e answers; passes = rw e passes; wrote = rw e wrote }

-- ---- turn after turn: the bytes that were read so far are fed, and what they are answered is written
pub record SoFar (m now : Machine) (had left before after : Option (List ℕ)) (turns : ℕ) : Type 0 where
  pub bytes : List ℕ
  pub read : Consumes had left bytes
  pub fed : Fed m now before after bytes
  pub count : turns ≤ length bytes

-- nothing is read yet
pub so_far_begun : {m : Machine} {had before : Option (List ℕ)} → SoFar m m had had before before 0
so_far_begun {m} {had} {before} = record { bytes = []; read = Consumes-nil had; fed = fed_none m m before refl; count = omega arith }

-- no other turn comes: the input is over
pub record Ended (m now : Machine) (had left before after : Option (List ℕ)) : Type 0 where
  pub bytes : List ℕ
  pub read : Consumes had left bytes
  pub fed : Fed m now before after bytes
  pub over : IsOver m bytes left

module _ {m now next : Machine} {had left left' before after after' : Option (List ℕ)} {turns : ℕ} {input : List ℕ} (s : SoFar m now had left before after turns) where
  -- a read or a write failed
  pub ends_short : (q : Result Next Failed) (r : Result Unit Failed) → TakesTurn now next left left' after after' input q → IsErr r → Session m had left' before after' (is_ok r)
  ends_short q (Ok u) t h = absurd (false≢true h)
  ends_short q (Err why) t h =
      let gift = given t.got input in
      let bytes = s.bytes ++ gift in
      let part = part_more m now before after after' s.bytes s.fed gift t.wrote.part in
      record {
        bytes = bytes;
        read = Consumes-trans had left left' s.bytes gift s.read (given_consumed left left' t.got input t.read);
        wrote = record { part = part_wider before after' (writes m bytes) (closing (feeds m bytes)) refl part; all = λ e. absurd (false≢true e) };
        over = inr (refl, part);
      }

  module _ {f : Next} (t : TakesTurn now next left left' after after' input (Ok f)) where
    abbrev gift : List ℕ
    gift = given t.got input

    fed_turn : Fed m next before after' (s.bytes ++ gift)
    fed_turn = fed_more m now before after after' s.bytes s.fed gift t.answers (t.wrote.all refl)

    read_turn : Consumes had left' (s.bytes ++ gift)
    read_turn = Consumes-trans had left left' s.bytes gift s.read (given_consumed left left' t.got input t.read)

    -- another turn comes
    pub so_far_more : is_some (break_value f) ≡ false → SoFar m next had left' before after' (turns + 1)
    so_far_more e = record { bytes = s.bytes ++ gift; read = read_turn; fed = fed_turn; count = more f t.passes e }
      where
        more : (f : Next) → Passes gift next (Ok f) → is_some (break_value f) ≡ false → turns + 1 ≤ length (s.bytes ++ gift)
        more (Continue c) p e =
            let l = length-append s.bytes gift in
            omega (arith, l, s.count, p.0)
        more (Break b) p e = absurd (false≢true (sym e))

    -- this was the last
    pub ends_turn : is_some (break_value f) ≡ true → 0 < length input → Ended m next had left' before after'
    ends_turn e some = record { bytes = s.bytes ++ gift; read = read_turn; fed = fed_turn; over = last f t.passes e }
      where
        last : (f : Next) → Passes gift next (Ok f) → is_some (break_value f) ≡ true → IsOver m (s.bytes ++ gift) left'
        last (Continue c) p e = absurd (false≢true e)
        last (Break b) (inl none) e = inl (given_none left left' t.got input t.moved t.read (t.ok refl) none some)
        last (Break b) (inr stop) e = inr (inl (ap stopped (sym fed_turn.fed) ∙ stop))

-- the turns are all used up
pub ends_count : {m now : Machine} {had left before after : Option (List ℕ)} {turns : ℕ} → SoFar m now had left before after turns → 2 ^ 64 - 1 ≤ turns → Ended m now had left before after
ends_count s e = record { bytes = s.bytes; read = s.read; fed = s.fed; over = inr (inr (omega (arith, s.count, e))) }

-- and the end of the input is answered
pub ends_whole : {m now : Machine} {had left before after after' : Option (List ℕ)} {w : Bool} → Ended m now had left before after → Wrote after after' (closing now) w → Session m had left before after' w
ends_whole {m} {now} {had} {left} {before} {after} {after'} {w} s h =
    record {
      bytes = s.bytes;
      read = s.read;
      wrote = wrote_then before after after' (writes m s.bytes) (closing now) (ap (λ x. writes m s.bytes ++ closing x) s.fed.fed) s.fed.wrote w h;
      over = inl s.over;
    }

-- ---- a session whose input is known
text-more : (m : Machine) (bytes rest : List ℕ) → writes m bytes ++ text_for (feeds m bytes) rest ≡ text_for m (bytes ++ rest)
text-more m bytes rest =
    sym (append_assoc (writes m bytes) (writes (feeds m bytes) rest) (closing (feeds (feeds m bytes) rest)))
    ∙ ap (λ t. t ++ closing (feeds (feeds m bytes) rest)) (sym (writes-append m bytes rest))
    ∙ ap (λ x. writes m (bytes ++ rest) ++ closing x) (sym (feeds-append m bytes rest))

text-stopped : (m : Machine) (bytes rest : List ℕ) → stopped (feeds m bytes) ≡ true → text_for m bytes ≡ text_for m (bytes ++ rest)
text-stopped m bytes rest s =
    ap (λ t. writes m bytes ++ t) (sym (ap (λ t. t ++ closing (feeds (feeds m bytes) rest)) (writes-stopped (feeds m bytes) s rest) ∙ ap closing (feeds-stopped (feeds m bytes) s rest))) ∙ text-more m bytes rest

pub session-known : (m : Machine) (had left before after : Option (List ℕ)) (whole : Bool) → Session m had left before after whole → IfSome had (λ input. length input < 2 ^ 64 - 1 → Wrote before after (text_for m input) whole)
session-known m None left before after whole s = tt
session-known m (Some xs) None before after whole s = absurd s.read
session-known m (Some xs) (Some ys) before after whole s = λ few. known s.over few
  where
    joined : s.bytes ++ ys ≡ xs
    joined = sym s.read

    known : IsOver m s.bytes (Some ys) ⊎ ((whole ≡ false) × AppendsPart before after (writes m s.bytes)) → length xs < 2 ^ 64 - 1 → Wrote before after (text_for m xs) whole
    known (inl (inl end)) few = subst (λ t. Wrote before after (text_for m t) whole) (sym (append-nil s.bytes) ∙ ap (λ t. s.bytes ++ t) (sym end) ∙ joined) s.wrote
    known (inl (inr (inl stop))) few = subst (λ t. Wrote before after t whole) (text-stopped m s.bytes ys stop ∙ ap (text_for m) joined) s.wrote
    known (inl (inr (inr many))) few =
        let l = length-append s.bytes ys in
        let k : length (s.bytes ++ ys) ≡ length xs = ap (λ (t : List ℕ). length t) joined in
        absurd (omega (arith, l, k, many, few))
    known (inr (failed, part)) few =
        record {
          part = part_wider before after (writes m s.bytes) (text_for (feeds m s.bytes) ys) (text-more m s.bytes ys ∙ ap (text_for m) joined) part;
          all = λ e. absurd (false≢true (sym failed ∙ e));
        }

-- from an empty book on, in the words of the documents
pub session-transcript : (had left before after : Option (List ℕ)) (whole : Bool) → Session start had left before after whole → WritesTranscript had before after whole
session-transcript None left before after whole s = tt
session-transcript (Some xs) left before after whole s = λ few. subst (λ t. Wrote before after t whole) (machine-transcript xs) (session-known start (Some xs) left before after whole s few)
