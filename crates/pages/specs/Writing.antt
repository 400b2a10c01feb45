-- Writing into a lent buffer from a place on.
use Rattle.std.specs.Prelude.{ℕ, ◌+◌, cond, List, [], ◌∷◌, ltb, length, set}

-- a buffer, and the place up to which it is written
pub record Page : Type 0 where
  pub bytes : List ℕ
  pub upto : ℕ

abbrev pub page : List ℕ → ℕ → Page
page out at = record { bytes = out; upto = at }

-- one byte more, if there is room for it; past the end `set` changes nothing
unfoldable pub put_byte : Page → ℕ → Page
put_byte p b = page (set p.bytes p.upto b) (cond (ltb p.upto (length p.bytes)) (p.upto + 1) p.upto)

-- a text, byte after byte
unfoldable pub put : Page → List ℕ → Page
put p [] = p
put p (b ∷ bs) = put (put_byte p b) bs
