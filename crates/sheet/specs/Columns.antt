-- A number in columns: "Every number is decimal, right-justified with spaces in 8 columns, no leading zero; zero is one 0" (document 01).
use Rattle.std.specs.Prelude.{◌≡◌, Option, None, Some, cond, [], ◌∷◌, ◌++◌, ◌↔◌, ℕ, zero, suc, ◌+◌, ◌-◌, ◌*◌, ◌/◌, ◌%◌, ◌^◌, ◌<◌, ltb, eqb, length, take, drop, replicate}
use Rattle.common.specs.Bytes.{Bytes}

-- n in w columns: its last digit, and before it the digits of n / 10 in one column less, or spaces where there are none
unfoldable pub columns : ℕ → ℕ → Bytes
columns zero n = []
columns (suc w) n = elim (n / 10) [ zero ↦ replicate w 32 | suc m ↦ columns w (suc m) ] ++ (48 + n % 10) ∷ []

-- the w columns at `at` hold a number that has room in them
pub record InColumns (w : ℕ) (s : Bytes) (at : ℕ) : Type 0 where
  pub value : ℕ
  pub written : take w (drop at s) ≡ columns w value
  pub fits : value < 10 ^ w

-- ---- read from the left

-- what has been read of columns: spaces, a number, or neither
pub data Columns : Type 0 where
  Blank : Columns
  Value : ℕ → Columns
  Broken : Columns

abbrev pub if_digit : ℕ → Columns → Columns
if_digit b v = cond (ltb b 48) Broken (cond (ltb 57 b) Broken v)

-- one byte more: nothing follows a 0
abbrev pub next_column : Columns → ℕ → Columns
next_column Blank b = cond (eqb b 32) Blank (if_digit b (Value (b - 48)))
next_column (Value n) b = cond (eqb n 0) Broken (if_digit b (Value (10 * n + (b - 48))))
next_column Broken b = Broken

abbrev pub columns_from : Columns → Bytes → Columns
columns_from c [] = c
columns_from c (b ∷ s) = columns_from (next_column c b) s

abbrev pub finish : Columns → Option ℕ
finish Blank = None
finish (Value n) = Some n
finish Broken = None

unfoldable pub field_of : Bytes → Option ℕ
field_of s = finish (columns_from Blank s)

-- a number in columns reads back as written, and in one form only, for any width that holds it
abbrev pub ReadsBack : Type 0
ReadsBack = (s : Bytes) (n : ℕ) → (field_of s ≡ Some n) ↔ ((s ≡ columns (length s) n) × (0 < length s) × (n < 10 ^ length s))
