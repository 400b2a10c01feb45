-- Document 01, "Lines", and document 02, "Say which field": fields, numbers, the nine forms of a line, and a writer of lines. A line's bytes stand without its line feed.
use Rattle.std.specs.Prelude.{ℕ, zero, suc, ◌+◌, ◌-◌, ◌*◌, ◌/◌, ◌%◌, Bool, not, ◌&&◌, cond, List, [], ◌∷◌, ◌++◌, Result, Ok, Err, leb, ltb, eqb, length, get_or, take, drop}
use Rattle.rules.specs.Types.{Call, FailsAt, Field, Line}
use Rattle.rules.specs.Limits.{within, most_bytes, most_digits, highest_field}
use Rattle.rules.specs.Lists.{all, same, index_of, joined, bytes}

abbrev pub tab : ℕ
tab = 9

abbrev pub line_feed : ℕ
line_feed = 10

-- ---- fields: "parted by one tab"
-- the fields of a line of which the bytes before belong to the first
unfoldable pub fields_from : List ℕ → List ℕ → List (List ℕ)
fields_from before [] = before ∷ []
fields_from before (b ∷ bs) = cond (eqb b tab) (before ∷ fields_from [] bs) (fields_from (before ++ (b ∷ [])) bs)

unfoldable pub fields : List ℕ → List (List ℕ)
fields s = fields_from [] s

-- where the first field ends: at the first tab, or at the end of the line
unfoldable pub field_end : List ℕ → ℕ
field_end s = index_of (eqb tab) s

abbrev pub first_field : List ℕ → List ℕ
first_field s = take (field_end s) s

-- "The field reader hands back the part of the line after the field": it begins with the tab of the next field, and is empty where the line ends
abbrev pub after_field : List ℕ → List ℕ
after_field s = drop (field_end s) s

-- the fields in such a part
unfoldable pub fields_after : List ℕ → List (List ℕ)
fields_after [] = []
fields_after (t ∷ rest) = fields rest

-- ---- numbers: "1 to 20 decimal digits, no sign, no leading zero except `0` itself, at most 18,446,744,073,709,551,615"
abbrev pub is_digit : ℕ → Bool
is_digit b = within 48 57 b

-- the digits' value, after those that came before them
unfoldable pub value_after : ℕ → List ℕ → ℕ
value_after n [] = n
value_after n (b ∷ bs) = value_after (n * 10 + (b - 48)) bs

abbrev pub leading_zero : List ℕ → Bool
leading_zero f = eqb (get_or f 0 0) 48 && ltb 1 (length f)

unfoldable pub reads_as_number : List ℕ → Bool
reads_as_number f = within 1 most_digits (length f) && (all is_digit f && (not (leading_zero f) && leb (value_after 0 f) highest_field))

-- "The field reader is to give the field where reading failed."
abbrev pub failing : {A : Type 0} → ℕ → Result A FailsAt
failing k = Err (record { 0 = k })

-- what field k of a line reads as
unfoldable pub number : ℕ → List ℕ → Field
number k f = cond (reads_as_number f) (Ok (value_after 0 f)) (failing k)

-- the numbers after a line's word, or the first field that does not read
pub data Numbers : Type 0 where
  all_read : List ℕ → Numbers
  fails_at : ℕ → Numbers

unfoldable pub and_read : Field → Numbers → Numbers
and_read (Ok n) (Numbers.all_read ns) = Numbers.all_read (n ∷ ns)
and_read (Ok n) (Numbers.fails_at k) = Numbers.fails_at k
and_read (Err e) ns = Numbers.fails_at e.0

-- so many numbers, the first of which is field k of the line: each is to be there and a number, and nothing is to come after the last, "one too many the next number"
unfoldable pub wanted : ℕ → ℕ → List (List ℕ) → Numbers
wanted k zero [] = Numbers.all_read []
wanted k zero (f ∷ fs) = Numbers.fails_at k
wanted k (suc n) [] = Numbers.fails_at k
wanted k (suc n) (f ∷ fs) = and_read (number k f) (wanted (k + 1) n fs)

-- ---- the nine forms: the word, how many numbers follow, and the call that they are, "the fields in the order above"
pub record Form : Type 0 where
  pub word : List ℕ
  pub count : ℕ
  pub call : List ℕ → Call

abbrev pub at : List ℕ → ℕ → ℕ
at ns i = get_or ns i 0

unfoldable pub deposit_form : Form
deposit_form =
    record {
      word = bytes "deposit";
      count = 4;
      call = λ ns. Call.Deposit (record { number = record { 0 = at ns 0 }; asset = at ns 1; amount = at ns 2; member = at ns 3 });
    }

unfoldable pub claim_form : Form
claim_form =
    record {
      word = bytes "claim";
      count = 4;
      call = λ ns. Call.Claim (record { member = at ns 0; number = record { 0 = at ns 1 }; asset = at ns 2; amount = at ns 3 });
    }

unfoldable pub transfer_form : Form
transfer_form =
    record {
      word = bytes "transfer";
      count = 4;
      call = λ ns. Call.Transfer (record { from = at ns 0; to = at ns 1; asset = at ns 2; amount = at ns 3 });
    }

unfoldable pub withdraw_form : Form
withdraw_form =
    record {
      word = bytes "withdraw";
      count = 4;
      call = λ ns. Call.Withdraw (record { member = at ns 0; asset = at ns 1; amount = at ns 2; payee = at ns 3 });
    }

unfoldable pub send_form : Form
send_form = record { word = bytes "send"; count = 0; call = λ ns. Call.Send }

unfoldable pub settle_form : Form
settle_form = record { word = bytes "settle"; count = 1; call = λ ns. Call.Settle (record { 0 = at ns 0 }) }

unfoldable pub grant_form : Form
grant_form =
    record {
      word = bytes "grant";
      count = 3;
      call = λ ns. Call.Grant (record { from = at ns 0; to = at ns 1; domain = at ns 2 });
    }

unfoldable pub sign_form : Form
sign_form = record { word = bytes "sign"; count = 2; call = λ ns. Call.Sign (record { member = at ns 0; domain = at ns 1 }) }

unfoldable pub trace_form : Form
trace_form = record { word = bytes "trace"; count = 1; call = λ ns. Call.Trace (record { 0 = at ns 0 }) }

unfoldable pub forms : List Form
forms = deposit_form ∷ claim_form ∷ transfer_form ∷ withdraw_form ∷ send_form ∷ settle_form ∷ grant_form ∷ sign_form ∷ trace_form ∷ []

-- a call's numbers, in the same order
unfoldable pub numbers_of : Call → List ℕ
numbers_of (Call.Deposit d) = d.number.0 ∷ d.asset ∷ d.amount ∷ d.member ∷ []
numbers_of (Call.Claim c) = c.member ∷ c.number.0 ∷ c.asset ∷ c.amount ∷ []
numbers_of (Call.Transfer t) = t.from ∷ t.to ∷ t.asset ∷ t.amount ∷ []
numbers_of (Call.Withdraw w) = w.member ∷ w.asset ∷ w.amount ∷ w.payee ∷ []
numbers_of Call.Send = []
numbers_of (Call.Settle n) = n.0 ∷ []
numbers_of (Call.Grant g) = g.from ∷ g.to ∷ g.domain ∷ []
numbers_of (Call.Sign g) = g.member ∷ g.domain ∷ []
numbers_of (Call.Trace n) = n.0 ∷ []

-- ---- reading
-- the call of a form that these numbers make; a field that does not read is told as it is: "everything above it passes that on"
unfoldable pub formed : Form → Numbers → Line
formed f (Numbers.all_read ns) = Ok (f.call ns)
formed f (Numbers.fails_at k) = failing k

-- "the word is field 0": the form that has it says how many numbers are wanted, from field 1 on
unfoldable pub read_as : List Form → List ℕ → List (List ℕ) → Line
read_as [] word fs = failing 0
read_as (g ∷ gs) word fs = cond (same g.word word) (formed g (wanted 1 g.count fs)) (read_as gs word fs)

unfoldable pub read_fields : List (List ℕ) → Line
read_fields [] = failing 0
read_fields (word ∷ fs) = read_as forms word fs

-- a whole line, however long
abbrev pub read_whole : List ℕ → Line
read_whole s = read_fields (fields s)

-- "An over-long or unfinished line gives the first field that does not read, or, if all read, their count with the word."
unfoldable pub unread : Line → Line
unread (Ok c) = failing (length (numbers_of c) + 1)
unread (Err e) = Err e

-- a line "has at most 120 bytes"
unfoldable pub read_line : List ℕ → Line
read_line s = cond (leb (length s) most_bytes) (read_whole s) (unread (read_whole s))

-- ---- writing
-- the last k decimal digits of a number, without leading zeros: all of them below 10 ^ k
unfoldable pub spelled : ℕ → ℕ → List ℕ
spelled zero n = []
spelled (suc k) n = cond (ltb n 10) ((48 + n) ∷ []) (spelled k (n / 10) ++ ((48 + n % 10) ∷ []))

unfoldable pub decimal : ℕ → List ℕ
decimal n = spelled most_digits n

-- each number after a tab
unfoldable pub tabbed : List ℕ → List ℕ
tabbed ns = joined (λ n. tab ∷ decimal n) ns

unfoldable pub form_of : Call → Form
form_of (Call.Deposit d) = deposit_form
form_of (Call.Claim c) = claim_form
form_of (Call.Transfer t) = transfer_form
form_of (Call.Withdraw w) = withdraw_form
form_of Call.Send = send_form
form_of (Call.Settle n) = settle_form
form_of (Call.Grant g) = grant_form
form_of (Call.Sign g) = sign_form
form_of (Call.Trace n) = trace_form

unfoldable pub write_line : Call → List ℕ
write_line c = (form_of c).word ++ tabbed (numbers_of c)
