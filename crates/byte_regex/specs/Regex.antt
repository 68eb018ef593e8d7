-- Regular expressions over bytes, and the runs of a text that fit one.
-- Source: the syntax of the regex crate as far as filters.rs uses it, with `unicode(false)`.
use Rattle.std.specs.Prelude.{Bool, ◌&&◌, ◌||◌, cond, ℕ, suc, ◌+◌, ◌≤◌, ◌<◌, T, leb, eqb, length, get_or}
use Prim.Native.Char.{code}
use Prim.Native.String.{String}
use Prim.Native.String as S
use Rattle.common.specs.Bytes.{Bytes}
use Rattle.text.specs.Text.{is_space}

infixr 30 ◌or◌
infixr 40 ◌then◌
-- ---- classes of bytes
abbrev pub between : ℕ → ℕ → ℕ → Bool
between a z x = leb a x && leb x z

-- ASCII: a capital letter as a small one, any other byte as it is
unfoldable pub lower : ℕ → ℕ
lower x = cond (between 0x41 0x5a x) (x + 0x20) x

unfoldable pub is_dash : ℕ → Bool
is_dash x = eqb x 0x2d || eqb x 0x5f

unfoldable pub is_hex_digit : ℕ → Bool
unfolding lower
is_hex_digit x = between 0x30 0x39 x || between 0x61 0x66 (lower x)

-- this byte; this small letter or its capital; `\s`; `[_-]`; `[\s_-]`; `[a-f0-9]` in either case
pub data Class : Type 0 where
  exactly : ℕ → Class
  letter : ℕ → Class
  any_blank : Class
  any_dash : Class
  any_separator : Class
  any_hex_digit : Class

-- `\s` is the six blanks of `is_space`
unfoldable pub in_class : Class → ℕ → Bool
unfolding lower is_dash is_hex_digit
in_class (exactly c) x = eqb x c
in_class (letter c) x = eqb (lower x) c
in_class any_blank x = is_space x
in_class any_dash x = is_dash x
in_class any_separator x = is_space x || is_dash x
in_class any_hex_digit x = is_hex_digit x

-- ---- expressions: the empty one, a class, `c*`, `ab`, `a|b`, `a?`, `^`, `$`
pub data Regex : Type 0 where
  nothing : Regex
  one : Class → Regex
  many : Class → Regex
  ◌then◌ : Regex → Regex → Regex
  ◌or◌ : Regex → Regex → Regex
  optional : Regex → Regex
  at_start : Regex
  at_end : Regex

-- the bytes of s from place i up to place j fit the expression; ^ and $ are the ends of the whole
pub data Fits (s : Bytes) : Regex → ℕ → ℕ → Type 0 where
  fit_nothing : {i : ℕ} → Fits s nothing i i
  fit_one : {c : Class} {i : ℕ} → i < length s → T (in_class c (get_or s i 0)) → Fits s (one c) i (suc i)
  fit_none : {c : Class} {i : ℕ} → Fits s (many c) i i
  fit_more : {c : Class} {i j : ℕ} → i < length s → T (in_class c (get_or s i 0)) → Fits s (many c) (suc i) j → Fits s (many c) i j
  fit_then : {a b : Regex} {i j k : ℕ} → Fits s a i j → Fits s b j k → Fits s (a then b) i k
  fit_left : {a b : Regex} {i j : ℕ} → Fits s a i j → Fits s (a or b) i j
  fit_right : {a b : Regex} {i j : ℕ} → Fits s b i j → Fits s (a or b) i j
  fit_absent : {a : Regex} {i : ℕ} → Fits s (optional a) i i
  fit_present : {a : Regex} {i j : ℕ} → Fits s a i j → Fits s (optional a) i j
  fit_start : Fits s at_start 0 0
  fit_end : Fits s at_end (length s) (length s)

-- some run of s fits
pub record Found (r : Regex) (s : Bytes) : Type 0 where
  pub from : ℕ
  pub to : ℕ
  pub within : from ≤ length s
  pub fits : Fits s r from to

-- ---- what the patterns are written in
-- with `case_insensitive(true)`: a small letter stands for itself and its capital
abbrev pub either_case : ℕ → Class
either_case c = cond (between 0x61 0x7a c) (letter c) (exactly c)

unfoldable pub word : String → Regex
word S.[] = nothing
word (S.◌∷◌ c s) = one (either_case (code c)) then word s

-- with `case_insensitive(false)`
unfoldable pub exact : String → Regex
exact S.[] = nothing
exact (S.◌∷◌ c s) = one (exactly (code c)) then exact s

abbrev pub blank : Regex
blank = one any_blank

abbrev pub blanks : Regex
blanks = many any_blank

abbrev pub dash : Regex
dash = one any_dash

abbrev pub dashes : Regex
dashes = many any_dash

abbrev pub separator : Regex
separator = one any_separator

abbrev pub hex_digits : Regex
hex_digits = one any_hex_digit then many any_hex_digit
