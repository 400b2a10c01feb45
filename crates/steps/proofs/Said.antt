-- Where the number is all that a call comes to, the outcome is that number and the book as it was found.
use Rattle.std.specs.Prelude.{Ok, Err}
use Prim.Native.Nat.{ℕ}
use mathlib.Core.Path.{◌≡◌, sym, ap}
use mathlib.Core.Bool.{true, false, false≢true}
use native.Mathlib.Omega.{arith}
use Rattle.rules.specs.declared.answers.Done.{Done}
use Rattle.rules.specs.declared.calls.Call.{Call}
use Rattle.rules.specs.Types.{Answer}
use Rattle.rules.specs.State.{Book}
use Rattle.rules.specs.Replies.{told, plain}
use Rattle.rules.specs.Answer.{reply_number, outcome_of, answer}
use Rattle.rules.specs.Facts.{Accepted}
use Rattle.desk.proofs.Books.{refuses, accepts}
use Rattle.steps.proofs.Steps.{value_count, signed}
use Rattle.refusals.specs.Said.{is_sign, says_all}

module _ (b : Book) where
  sign_said : (c : Call) → Accepted b c → is_sign c ≡ true → outcome_of (Ok Done.Plain) b ≡ answer b c
  unfolding is_sign
  sign_said (Call.Deposit d) y e = absurd (false≢true e)
  sign_said (Call.Claim c) y e = absurd (false≢true e)
  sign_said (Call.Transfer x) y e = absurd (false≢true e)
  sign_said (Call.Withdraw w) y e = absurd (false≢true e)
  sign_said Call.Send y e = absurd (false≢true e)
  sign_said (Call.Settle n) y e = absurd (false≢true e)
  sign_said (Call.Grant g) y e = absurd (false≢true e)
  sign_said (Call.Sign s) y e = signed b s y
  sign_said (Call.Trace n) y e = absurd (false≢true e)

  pub all_said : (c : Call) (a : Answer) → told a ≡ plain (reply_number b c) → says_all c a ≡ true → outcome_of a b ≡ answer b c
  unfolding says_all told
  all_said c (Err why) t e = refuses b c why t
  all_said c (Ok Done.Plain) t e = sign_said c (accepts b c t) e
  all_said c (Ok (Done.Sent x)) t e = absurd (let z : ◌≡◌ {A = ℕ} 4 0 = ap value_count t in omega arith)
  all_said c (Ok (Done.Traced n)) t e = absurd (let z : ◌≡◌ {A = ℕ} 1 0 = ap value_count t in omega arith)

  -- and a call of which there is more to say is one that nothing refuses
  pub more_said : (c : Call) (a : Answer) → told a ≡ plain (reply_number b c) → says_all c a ≡ false → Accepted b c
  unfolding says_all told
  more_said c (Err why) t e = absurd (false≢true (sym e))
  more_said c (Ok Done.Plain) t e = accepts b c t
  more_said c (Ok (Done.Sent x)) t e = absurd (let z : ◌≡◌ {A = ℕ} 4 0 = ap value_count t in omega arith)
  more_said c (Ok (Done.Traced n)) t e = absurd (let z : ◌≡◌ {A = ℕ} 1 0 = ap value_count t in omega arith)
