-- Quotients of whole numbers as an `f64` has them, and the law that they compare as the exact fractions do.
use Rattle.std.specs.Prelude.{◌≡◌, ℕ, ◌*◌, ◌^◌, ◌≤◌, ◌<◌, ltb, pos, Float}
use Rattle.std.specs.Float.{binary64}
use Rattle.std.specs.Float.Ieee.{lt, div, of_int, of_bits}

-- Rust's `(a as f64) / (b as f64)`: IEEE 754 binary64, each cast and the division rounded to nearest, ties to even
abbrev pub quotient : ℕ → ℕ → Float
quotient a b = div binary64 (of_int binary64 (pos a)) (of_int binary64 (pos b))

-- Rust's literals 0.2 and 0.6, by their bits
abbrev pub fifth : Float
fifth = of_bits binary64 0x3fc9_9999_9999_999a

abbrev pub three_fifths : Float
three_fifths = of_bits binary64 0x3fe3_3333_3333_3333

-- The law: `c / d < a / b` on the rounded quotients says what it says of the fractions,
-- where c / d is at most 1, the denominators' product is below 2 ^ 53, and a is at most 2 ^ 53.
abbrev pub ComparesExactly : Type 0
ComparesExactly =
    (a b c d : ℕ) → 0 < b → 0 < d → a ≤ 2 ^ 53 → c ≤ d → b * d < 2 ^ 53
    → lt (quotient c d) (quotient a b) ≡ ltb (c * b) (a * d)

-- the two literals are quotients, so that the law speaks of them
abbrev pub FifthIsQuotient : Type 0
FifthIsQuotient = fifth ≡ quotient 1 5

abbrev pub ThreeFifthsIsQuotient : Type 0
ThreeFifthsIsQuotient = three_fifths ≡ quotient 3 5
