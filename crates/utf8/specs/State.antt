-- The ranges that a state of the reading stands for, and what has been read at a place.
use Rattle.std.specs.Prelude.{◌≡◌, false, List, [], ◌∷◌, ℕ, zero, suc, ◌≤◌, ◌<◌, length, drop, get_or, replicate, Option, None, Some}
use Rattle.common.specs.Bytes.{Bytes}
use Rattle.utf8.specs.Abnf.{Range, %x◌-◌, UTF8_tail}
use Rattle.utf8.specs.Valid.{valid}
use Rattle.utf8.specs.declared.Expected.{Expected}

-- count ranges, the first from low to high, the others tails
abbrev pub expected_ranges : ℕ → ℕ → ℕ → List Range
expected_ranges zero low high = []
expected_ranges (suc n) low high = %x low - high ∷ replicate n UTF8_tail

abbrev pub ranges : Expected → List Range
ranges e = expected_ranges e.count e.low e.high

-- the first of them
abbrev pub second : Expected → Range
second e = %x e.low - e.high

-- no octet from i to j has its highest bit set
abbrev pub Ascii : Bytes → ℕ → ℕ → Type 0
Ascii s i j = (k : ℕ) → i ≤ k → k < j → get_or s k 0 < 0x80

-- whole characters from i to j
pub record Passed (s : Bytes) (i j : ℕ) : Type 0 where
  pub from : i < j
  pub to : j ≤ length s
  pub same : valid (drop j s) ≡ valid (drop i s)

-- the place behind whole characters from i on, or no character at i
abbrev pub Passes : Bytes → ℕ → Option ℕ → Type 0
Passes s i None = valid (drop i s) ≡ false
Passes s i (Some j) = Passed s i j
