-- What a turn of a session comes to: of what its read gave, all is fed, and what is answered is written; and what the turns of a session come to.
use Rattle.std.specs.Prelude.{ℕ, ◌-◌, ◌^◌, ◌≡◌, ◌<◌, ◌≤◌, ◌⊎◌, Bool, true, false, List, [], ◌++◌, length, take, Option, Result, Ok, Err, IfSome, OnOk, IsOk, is_ok}
use Rattle.std.specs.Io.{ReadsAtMost}
use Rattle.std.specs.Io.KnownBytes.{Appends, Consumes, IsAtEnd, ReadConsumes}
use Rattle.std.specs.declared.io.Error.{Error}
use Rattle.std.specs.declared.ops.ControlFlow.{ControlFlow}
use Rattle.std.specs.declared.ops.ControlFlow.TheVariants.{Continue, Break}
use Rattle.rules.specs.Transcript.{transcript}
use Rattle.runner.specs.Machine.{Machine, stopped, feeds, writes, closing}
use Rattle.program.specs.declared.Failed.{Failed}

-- the bytes that a read gave: as many at the start of the buffer as the reader named; none where the read failed, or at the end of the input
abbrev pub given : Result ℕ Error → List ℕ → List ℕ
given (Ok n) input = take n input
given (Err why) input = []

-- what a turn that went well leaves: another turn, or none
abbrev pub Next : Type 0
Next = ControlFlow Unit Unit

-- unless the read or a write failed every one of these bytes is fed, once and in order
abbrev pub Answers : List ℕ → Machine → Machine → Result Next Failed → Type 0
Answers bytes before after r = OnOk r (after ≡ feeds before bytes)

-- there is another turn only where bytes were read, and 100,000 lines are not answered yet; and there is none, though neither failed, only at the end of the input, or after 100,000 lines
abbrev pub Passes : List ℕ → Machine → Result Next Failed → Type 0
Passes bytes after (Ok (Continue c)) = (0 < length bytes) × (stopped after ≡ false)
Passes bytes after (Ok (Break b)) = (bytes ≡ []) ⊎ (stopped after ≡ true)
Passes bytes after (Err e) = Unit

-- what a writer holds, where it is known, grows by a beginning of a text
pub record AppendsPart (before after : Option (List ℕ)) (text : List ℕ) : Type 0 where
  pub put : List ℕ
  pub left : List ℕ
  pub cut : put ++ left ≡ text
  pub grown : Appends before after put

-- a text is written: all of it where no write failed, and else a beginning
pub record Wrote (before after : Option (List ℕ)) (text : List ℕ) (whole : Bool) : Type 0 where
  pub part : AppendsPart before after text
  pub all : whole ≡ true → Appends before after text

-- a turn: what its read gave, which begins the buffer as the read left it, is fed, and what that is answered is written; a read that failed is not taken for the end of the input
pub record TakesTurn (m next : Machine) (had left before after : Option (List ℕ)) (input : List ℕ) (r : Result Next Failed) : Type 0 where
  pub got : Result ℕ Error
  pub moved : ReadsAtMost got input
  pub read : ReadConsumes had left got input
  pub ok : IsOk r → IsOk got
  pub answers : Answers (given got input) m next r
  pub passes : Passes (given got input) next r
  pub wrote : Wrote before after (writes m (given got input)) (is_ok r)

-- all that the machine writes for these bytes, and at the end of the input
abbrev pub text_for : Machine → List ℕ → List ℕ
text_for m bytes = writes m bytes ++ closing (feeds m bytes)

-- of an input these bytes were read, and the rest is left: this is its end, or 100,000 lines are answered, or a read gave some byte 2^64 - 1 times, which is more than any run makes
abbrev pub IsOver : Machine → List ℕ → Option (List ℕ) → Type 0
IsOver m bytes left = IsAtEnd left ⊎ ((stopped (feeds m bytes) ≡ true) ⊎ (2 ^ 64 - 1 ≤ length bytes))

-- a session: the reader gave these bytes, which are the first of those that it had, where they are known. Of the text for them all is written where the session was whole, and else a beginning; and of what is written at the end of the input nothing, unless it is over
pub record Session (m : Machine) (had left before after : Option (List ℕ)) (whole : Bool) : Type 0 where
  pub bytes : List ℕ
  pub read : Consumes had left bytes
  pub wrote : Wrote before after (text_for m bytes) whole
  pub over : IsOver m bytes left ⊎ ((whole ≡ false) × AppendsPart before after (writes m bytes))

-- where what the reader has is known, it is answered by its transcript: by all of it where the session was whole, and else by a beginning
abbrev pub WritesTranscript : Option (List ℕ) → Option (List ℕ) → Option (List ℕ) → Bool → Type 0
WritesTranscript had before after whole = IfSome had (λ input. length input < 2 ^ 64 - 1 → Wrote before after (transcript input) whole)
