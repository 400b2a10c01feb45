-- When the number is all that a call comes to.
use Rattle.std.specs.Prelude.{Bool, true, false, not, ◌||◌, is_ok}
use Rattle.rules.specs.declared.calls.Call.{Call}
use Rattle.rules.specs.Types.{Answer}

-- whether a call is a sign: "allowed exactly if the member holds the domain. Changes nothing."
unfoldable pub is_sign : Call → Bool
is_sign (Call.Deposit d) = false
is_sign (Call.Claim c) = false
is_sign (Call.Transfer t) = false
is_sign (Call.Withdraw w) = false
is_sign Call.Send = false
is_sign (Call.Settle n) = false
is_sign (Call.Grant g) = false
is_sign (Call.Sign g) = true
is_sign (Call.Trace n) = false

-- whether the number is all that a call comes to, so that nothing is changed, handed out or told beside it: "a refusal returns its number alone; desk and lent tables are left as found", and a sign changes nothing
unfoldable pub says_all : Call → Answer → Bool
says_all c a = not (is_ok a) || is_sign c
