-- Whether octets are UTF-8, decided by reading them once from the left.
use Rattle.std.specs.Prelude.{◌≡◌, Bool, true, false, not, ◌&&◌, cond, List, [], ◌∷◌, ℕ, leb, get_or}
use Rattle.common.specs.Bytes.{Bytes}
use Rattle.utf8.specs.Abnf.{Range, %x◌-◌, UTF8_tail, UTF8_char, UTF8_octets}

abbrev pub within : Range → ℕ → Bool
within r x = leb r.low x && leb x r.high

-- no octet is of this range
abbrev pub never : Range
never = %x 1 - 0

-- what has to follow x as a first octet: the rest of the alternative that begins with it
abbrev pub follow : List (List Range) → ℕ → List Range
follow [] x = never ∷ []
follow ([] ∷ others) x = follow others x
follow ((r ∷ rs) ∷ others) x = cond (within r x) rs (follow others x)

-- octets of these ranges, and behind them characters
unfoldable pub expect : List Range → Bytes → Bool
expect [] [] = true
expect (r ∷ rs) [] = false
expect [] (x ∷ s) = expect (follow UTF8_char x) s
expect (r ∷ rs) (x ∷ s) = within r x && expect rs s

unfoldable pub valid : Bytes → Bool
unfolding expect
valid s = expect [] s

-- no tail is at place i: of UTF-8 that is between two characters, or at an end
abbrev pub between : Bytes → ℕ → Bool
between s i = not (within UTF8_tail (get_or s i 0))

-- `valid` answers yes exactly for the octets of RFC 3629, section 4
pub record ValidIsGrammar : Type 0 where
  pub sound : (s : Bytes) → valid s ≡ true → UTF8_octets s
  pub complete : (s : Bytes) → UTF8_octets s → valid s ≡ true
