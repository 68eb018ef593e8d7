-- The blanks of `is_space` are 9 to 13 and 32.
use mathlib.Core.Path.{◌≡◌}
use mathlib.Core.Bool.{true, false}
use Prim.Native.Nat.{ℕ, ◌<◌}
use native.Mathlib.Omega.{arith}
use borrow.Author.Tests.{ne_eqb}
use Rattle.text.specs.Text.{is_ascii_whitespace, is_space}

pub space_32 : (c : ℕ) → c ≡ 32 → is_space c ≡ true
unfolding is_space is_ascii_whitespace
space_32 c e = rw e

pub space_above : (c : ℕ) → 13 < c → (c ≡ 32 → ⊥) → is_space c ≡ false
unfolding is_space is_ascii_whitespace
space_above c h n =
    simp (ne_eqb c 9 (omega arith), ne_eqb c 10 (omega arith), ne_eqb c 11 (omega arith), ne_eqb c 12 (omega arith), ne_eqb c 13 (omega arith), ne_eqb c 32 n)
