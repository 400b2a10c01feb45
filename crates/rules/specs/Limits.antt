-- Document 01, "The book we keep": the limits, and the test on each field.
use Rattle.std.specs.Prelude.{ℕ, Bool, ◌&&◌, leb}

-- amount of a call: 1 to the ceiling; lifetime deposits of one asset: at most the ceiling
abbrev pub ceiling : ℕ
ceiling = 1_000_000_000_000_000

-- inbox, outbox, history: 64, 32 and 1,024 rows
abbrev pub inbox_rows : ℕ
inbox_rows = 64

abbrev pub outbox_rows : ℕ
outbox_rows = 32

abbrev pub history_rows : ℕ
history_rows = 1024

-- deposit number: at most 4,294,967,295
abbrev pub highest_number : ℕ
highest_number = 4_294_967_295

-- next nonce: at most 1,024
abbrev pub highest_next : ℕ
highest_next = 1024

-- the eight balances of each of sixteen members; eight assets; eight domains
abbrev pub member_count : ℕ
member_count = 16

abbrev pub asset_count : ℕ
asset_count = 8

abbrev pub domain_count : ℕ
domain_count = 8

abbrev pub within : ℕ → ℕ → ℕ → Bool
within lo hi x = leb lo x && leb x hi

abbrev pub is_member : ℕ → Bool
is_member m = within 1 member_count m

abbrev pub is_asset : ℕ → Bool
is_asset a = within 1 asset_count a

abbrev pub is_domain : ℕ → Bool
is_domain d = within 1 domain_count d

abbrev pub is_amount : ℕ → Bool
is_amount x = within 1 ceiling x

abbrev pub is_payee : ℕ → Bool
is_payee p = within 1 65_535 p

-- a deposit number that can have been accepted
abbrev pub is_deposit_number : ℕ → Bool
is_deposit_number n = within 1 highest_number n

-- a line has at most 120 bytes before its line feed; a field 1 to 20 digits and at most 18,446,744,073,709,551,615; the book runner stops after 100,000 lines
abbrev pub most_bytes : ℕ
most_bytes = 120

abbrev pub most_digits : ℕ
most_digits = 20

abbrev pub highest_field : ℕ
highest_field = 18_446_744_073_709_551_615

abbrev pub most_lines : ℕ
most_lines = 100_000

-- of a line that comes in parts no more than so many bytes are held: more than 120, and more than any line has in which every field reads (92), so that they tell the field of the whole line (crate lines, proofs/Held)
abbrev pub most_held : ℕ
most_held = 121
