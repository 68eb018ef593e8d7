-- What is left of columns behind their spaces, eight columns as one number, and columns read without a test.
use Rattle.std.specs.Prelude.{◌≡◌, [], ◌∷◌, ℕ, ◌+◌, ◌-◌, ◌*◌, ◌%◌, ◌≤◌, ◌<◌, get_or, take, drop}
use Rattle.common.specs.Bytes.{Bytes}
use Rattle.sheet.specs.Columns.{Blank, columns_from}

-- only spaces stand from `at` up to `place`, and no space at it, unless it is the end
pub record Spaces (s : Bytes) (at end place : ℕ) : Type 0 where
  pub from : at ≤ place
  pub to : place ≤ end
  pub left : columns_from Blank (take (end - place) (drop place s)) ≡ columns_from Blank (take (end - at) (drop at s))
  pub no_space : place < end → get_or s place 0 ≡ 32 → ⊥

-- the number n with the digits behind it: a space is 32, the digit d is 48 + d
unfoldable pub plain_from : ℕ → Bytes → ℕ
plain_from n [] = n
plain_from n (b ∷ s) = plain_from (n * 10 + b % 16) s

abbrev pub plain : Bytes → ℕ
plain s = plain_from 0 s
