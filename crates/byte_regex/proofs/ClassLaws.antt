-- A byte between two others, and a capital letter as a small one.
use mathlib.Core.Path.{◌≡◌, refl, sym, subst}
use mathlib.Core.Bool.{Bool, true, false}
use Prim.Native.Nat.{ℕ, ◌+◌, ◌≤◌, ◌<◌}
use lib.Dec.{T, leb, leb→le}
use borrow.Author.Tests.{le-leb, lt-leb}
use Rattle.common.proofs.Choice.{by_test}
use Rattle.byte_regex.specs.Regex.{between, lower}
use Rattle.byte_regex.proofs.MatchLaws.{and_left, and_right}

pub T_is : (b : Bool) → T b → b ≡ true
T_is true t = refl
T_is false t = absurd t

pub is_T : (b : Bool) → b ≡ true → T b
is_T b e = subst T (sym e) tt

pub between_is : (a z x : ℕ) → a ≤ x → x ≤ z → between a z x ≡ true
between_is a z x h k = simp (le-leb a x h, le-leb x z k)

pub between_low : (a z x : ℕ) → T (between a z x) → a ≤ x
between_low a z x t = leb→le a x (and_left (leb a x) (leb x z) t)

pub between_high : (a z x : ℕ) → T (between a z x) → x ≤ z
between_high a z x t = leb→le x z (and_right (leb a x) (leb x z) t)

pub between_under : (a z x : ℕ) → x < a → between a z x ≡ false
between_under a z x h = simp (lt-leb a x h)

pub between_over : (a z x : ℕ) → z < x → between a z x ≡ false
between_over a z x h = by_test (leb a x) (λ e. simp (e, lt-leb x z h)) (λ e. simp e)

pub lower_capital : (x : ℕ) → 65 ≤ x → x ≤ 90 → lower x ≡ x + 32
unfolding lower
lower_capital x h k = simp (between_is 65 90 x h k)

pub lower_other : (x : ℕ) → between 65 90 x ≡ false → lower x ≡ x
unfolding lower
lower_other x e = simp e
