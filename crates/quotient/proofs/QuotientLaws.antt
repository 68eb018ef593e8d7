-- Two quotients of whole numbers compare as the exact fractions do; 0.2 and 0.6 are quotients.
use mathlib.Core.Path.{◌≡◌, refl, sym, ap, ◌∙◌, subst}
use mathlib.Core.Logic.{inl, inr}
use mathlib.Core.Bool.{true, false, cond, true≢false}
use Prim.Native.Nat.{ℕ, suc, ◌+◌, ◌*◌, ◌^◌, ◌≤◌, ◌<◌}
use native.Mathlib.Nat.{zero-mul, lt_irrefl, eq-or-lt_of_le, le_of_lt, le_trans, le_of_eq, lt_of_le_of_lt, lt_of_lt_of_le, lt_of_not-le, not-le_of_lt, suc-mul, mul-add, add-mul, mul-one, one-mul, mul_comm, mul_assoc, mul_left_comm, mul-le-mul_left, mul-le-mul_right, mul-lt-mul_of_pos_right, lt_of_mul-lt-mul_right, mul-pos}
use native.Mathlib.Omega.{arith}
use lib.Dec.{T, ltb, eqb, le→leb, eqb→eq, not_T, lit<, lit≤}
use lib.IntN.{ℤ, pos}
use lib.Pow.{pow_pos}
use lib.Ieee.{Float, nan, inf, fin, binary64, up, down, size, round, lt, div, of_int, of_bits, in_float}
use lib.Ieee.Fits.{down_pos}
use lib.Ieee.Bits.{cond_no}
use lib.Ieee.Exact.{HasValue}
use lib.Ieee.Order.{round_mono}
use lib.Ieee.Scale.{grid, overflow, round_same, round_val}
use lib.Ieee.Back.{round_whole}
use Rattle.quotient.specs.Quotient.{quotient, fifth, three_fifths, ComparesExactly, FifthIsQuotient, ThreeFifthsIsQuotient}
use Rattle.quotient.proofs.RoundError.{rounded_near_below}
use Rattle.quotient.proofs.Compare.{lt_or_le, le_of_not_lt, ltb_same, lt_of_values, values_le}

-- ---- a quotient is the fraction, rounded once
not_zero : (n : ℕ) (e : ℤ) (b : ℕ) → 0 < b → n * up e * 1 ≡ b * down e → n ≡ 0 → ⊥
not_zero n e b h q z =
    lt_irrefl 0
    (subst (λ (k : ℕ). 0 < k) (sym q ∙ ap (λ (k : ℕ). k * up e * 1) z ∙ ap (λ (k : ℕ). k * 1) (zero-mul (up e)))
    (mul-pos h (down_pos e)))

-- of two floats with the values a and b
div_of_values : (x y : Float) (a b : ℕ) → 0 < b → HasValue x false a 1 → HasValue y false b 1 → div binary64 x y ≡ round binary64 false a b
unfolding div
div_of_values nan y a b h p q = absurd p
div_of_values (inf s) y a b h p q = absurd p
div_of_values (fin true m e) y a b h p q = absurd (true≢false p.0)
div_of_values (fin false m e) nan a b h p q = absurd q
div_of_values (fin false m e) (inf t) a b h p q = absurd q
div_of_values (fin false m e) (fin true n d) a b h p q = absurd (true≢false q.0)
div_of_values (fin false m e) (fin false n d) a b h p q =
    cond_no (eqb n 0) (cond (eqb m 0) nan (inf false)) (round binary64 false (m * up e * down d) (n * up d * down e))
    (not_T (eqb n 0) (λ (t : T (eqb n 0)). not_zero n d b h q.1 (eqb→eq n 0 t)))
    ∙ round_same binary64 false (m * up e * down d) (n * up d * down e) a b (mul-pos divisor_pos (down_pos e)) h same
  where
    dividend_is : m * up e ≡ a * down e
    dividend_is = sym (mul-one (m * up e)) ∙ p.1

    divisor_is : n * up d ≡ b * down d
    divisor_is = sym (mul-one (n * up d)) ∙ q.1

    divisor_pos : 0 < n * up d
    divisor_pos = subst (λ (k : ℕ). 0 < k) (sym divisor_is) (mul-pos h (down_pos d))

    turned : a * down e * down d * b ≡ a * (b * down d * down e)
    turned = simp (mul_assoc, mul_comm, mul_left_comm)

    same : m * up e * down d * b ≡ a * (n * up d * down e)
    same = ap (λ (k : ℕ). k * down d * b) dividend_is ∙ turned ∙ ap (λ (k : ℕ). a * (k * down e)) (sym divisor_is)

of_int_value : (n : ℕ) → n ≤ 2 ^ 53 → HasValue (of_int binary64 (pos n)) false n 1
unfolding of_int
of_int_value n h = round_whole binary64 false n h

quotient_rounds : (a b : ℕ) → 0 < b → a ≤ 2 ^ 53 → b ≤ 2 ^ 53 → quotient a b ≡ round binary64 false a b
quotient_rounds a b h p q = div_of_values (of_int binary64 (pos a)) (of_int binary64 (pos b)) a b h (of_int_value a p) (of_int_value b q)

-- ---- a / b rounded, in units of 2 ^ -1074
abbrev units : ℕ → ℕ → ℕ
units a b = grid binary64 a b

-- it is no infinity for an a up to 2 ^ 53
scaled_lt : (a b : ℕ) → 0 < b → a ≤ 2 ^ 53 → a * 2 ^ 1074 < 2 ^ (1075 + 53) * b
scaled_lt a b B h = lt_of_le_of_lt (mul-le-mul_right (2 ^ 1074) h) (lt_of_lt_of_le (lit< tt) (mul-le-mul_left (2 ^ 1128) B))

no_overflow : (g b n m p o : ℕ) → 0 < b → n < m * b → 2 * (g * b) ≤ 2 * n + b * p → m + p ≤ o → o ≤ g → ⊥
no_overflow g b n m p o B h k s l = omega (arith, mul-le-mul_right b l, mul-le-mul_right b s, add-mul m p b, mul_comm b p)

units_lt : (a b : ℕ) → 0 < b → a ≤ 2 ^ 53 → units a b < overflow binary64
units_lt a b B h =
    lt_of_not-le
    (λ (o : 2 ^ 2098 ≤ units a b). no_overflow (units a b) b (a * 2 ^ 1074) (2 ^ 1128) (2 ^ 1075) (2 ^ 2098) B (scaled_lt a b B h) (rounded_near_below (a * 2 ^ 1074) b 1075 B (scaled_lt a b B h)).0 (lit≤ tt) o)

round_value : (a b : ℕ) → 0 < b → a ≤ 2 ^ 53 → HasValue (round binary64 false a b) false (units a b) (2 ^ 1074)
round_value a b B h = round_val binary64 a b (units_lt a b B h)

-- a fraction that is not above another has no more units
units_mono : (a b c d : ℕ) → 0 < b → 0 < d → a ≤ 2 ^ 53 → c ≤ 2 ^ 53 → c * b ≤ a * d → units c d ≤ units a b
units_mono a b c d B D A C h =
    values_le (round binary64 false c d) (round binary64 false a b) (units c d) (units a b) (2 ^ 1074) (pow_pos 1074) (round_value c d D C) (round_value a b B A) (round_mono binary64 c d a b D B h)

-- ---- both fractions below 1: each is off by 2 ^ -54 at most, and they lie 1 / (b * d) apart
-- (l is 1 and e is 2 ^ -53, in units; they stay variables because `omega` takes no such large numbers)
gap : (a b c d x y l e : ℕ) → l ≡ 9007199254740992 * e → 0 < e → 2 * (x * d) ≤ 2 * (c * l) + d * e → 2 * (a * l) ≤ 2 * (y * b) + b * e → c * b < a * d → b * d < 9007199254740992 → y ≤ x → ⊥
gap a b c d x y l e eq E hx hy h s yx =
    let k₁ : 2 * (x * (b * d)) ≤ 2 * (c * b * l) + b * d * e = simp (mul_assoc, mul_comm, mul_left_comm) (simp (mul-add, mul_comm, mul_left_comm) at (mul-le-mul_left b hx)) in
    let k₂ : 2 * (a * d * l) ≤ 2 * (y * (b * d)) + b * d * e = simp (mul_assoc, mul_comm, mul_left_comm) (simp (mul-add, mul_comm, mul_left_comm) at (mul-le-mul_left d hy)) in
    let k₃ : y * (b * d) ≤ x * (b * d) = mul-le-mul_right (b * d) yx in
    let k₄ : suc (c * b) * l ≤ a * d * l = mul-le-mul_right l h in
    let k₅ : b * d * e < 9007199254740992 * e = mul-lt-mul_of_pos_right s E in
    omega (arith, suc-mul (c * b) l)

below_one : (n m : ℕ) → n < m → n * 2 ^ 1074 < 2 ^ (1021 + 53) * m
below_one n m h = subst (λ (z : ℕ). n * 2 ^ 1074 < z) (mul_comm m (2 ^ 1074)) (mul-lt-mul_of_pos_right h (pow_pos 1074))

units_lt_below_one : (a b c d : ℕ) → 0 < b → 0 < d → a < b → c < d → b * d < 2 ^ 53 → c * b < a * d → units c d < units a b
units_lt_below_one a b c d B D ab cd s h =
    lt_of_not-le
    (λ (o : units a b ≤ units c d).
    gap a b c d (units c d) (units a b) (2 ^ 1074) (2 ^ 1021) refl (pow_pos 1021)
    (rounded_near_below (c * 2 ^ 1074) d 1021 D (below_one c d cd)).0 (rounded_near_below (a * 2 ^ 1074) b 1021 B (below_one a b ab)).1 h s o)

-- ---- 1 between them: it is 2 ^ 1074 units
one_units : units 1 1 ≡ 2 ^ 1074
unfolding size
one_units = refl

at_most_one : (c d : ℕ) → 0 < d → c ≤ d → c ≤ 2 ^ 53 → units c d ≤ 2 ^ 1074
at_most_one c d D h C = subst (λ (z : ℕ). units c d ≤ z) one_units (units_mono 1 1 c d (lit< tt) D (lit≤ tt) C (rw (mul-one, one-mul) h))

at_least_one : (a b : ℕ) → 0 < b → b ≤ a → a ≤ 2 ^ 53 → 2 ^ 1074 ≤ units a b
at_least_one a b B h A = subst (λ (z : ℕ). z ≤ units a b) one_units (units_mono a b 1 1 B (lit< tt) A (lit≤ tt) (rw (one-mul, mul-one) h))

-- a fraction below 1 rounds to less than 1: it is `gap` with 1 / 1 for the other one
less_than_one : (c d : ℕ) → 0 < d → c < d → d < 2 ^ 53 → units c d < 2 ^ 1074
less_than_one c d D h s =
    lt_of_not-le
    (λ (o : 2 ^ 1074 ≤ units c d).
    gap 1 1 c d (units c d) (2 ^ 1074) (2 ^ 1074) (2 ^ 1021) refl (pow_pos 1021)
    (rounded_near_below (c * 2 ^ 1074) d 1021 D (below_one c d h)).0 (lit≤ tt) (rw (mul-one, one-mul) h) (rw one-mul s) o)

-- a fraction above 1 whose denominator is below 2 ^ 53 rounds to more than 1: it is at least 2 ^ 53 / (2 ^ 53 - 1), which does
next_units : 2 ^ 1074 < units 9007199254740992 9007199254740991
unfolding size
next_units = lit< tt

next_le : (a b : ℕ) → b < a → b < 9007199254740992 → 9007199254740992 * b ≤ a * 9007199254740991
next_le a b h s = omega arith

more_than_one : (a b : ℕ) → 0 < b → b < a → b < 2 ^ 53 → a ≤ 2 ^ 53 → 2 ^ 1074 < units a b
more_than_one a b B h s A = lt_of_lt_of_le next_units (units_mono a b 9007199254740992 9007199254740991 B (lit< tt) A (lit≤ tt) (next_le a b h s))

-- ---- the three cases together: c / d and a / b below 1; 1 between them; c / d = 1
factor_lt : (b d n : ℕ) → 0 < d → b * d < n → b < n
factor_lt b d n D h = lt_of_le_of_lt (le_trans (le_of_eq (sym (mul-one b))) (mul-le-mul_left b D)) h

other_factor_lt : (b d n : ℕ) → 0 < b → b * d < n → d < n
other_factor_lt b d n B h = factor_lt d b n B (rw mul_comm h)

units_strict : (a b c d : ℕ) → 0 < b → 0 < d → a ≤ 2 ^ 53 → c ≤ d → b * d < 2 ^ 53 → c * b < a * d → units c d < units a b
units_strict a b c d B D A cd s h =
    let b53 : b < 2 ^ 53 = factor_lt b d (2 ^ 53) D s in
    let d53 : d < 2 ^ 53 = other_factor_lt b d (2 ^ 53) B s in
    elim (eq-or-lt_of_le cd) [
      | inl e ↦
          let ba : b < a = lt_of_mul-lt-mul_right d (subst (λ (z : ℕ). z < a * d) (ap (λ (z : ℕ). z * b) e ∙ mul_comm d b) h) in
          lt_of_le_of_lt (at_most_one c d D cd (le_trans cd (le_of_lt d53))) (more_than_one a b B ba b53 A)
      | inr l ↦
          elim (lt_or_le a b) [
            | inl ab ↦ units_lt_below_one a b c d B D ab l s h
            | inr ba ↦ lt_of_lt_of_le (less_than_one c d D l d53) (at_least_one a b B ba A)
          ]
    ]

-- ---- the law
-- the rounded fractions compare as the exact ones
round_lt : (a b c d : ℕ) → 0 < b → 0 < d → a ≤ 2 ^ 53 → c ≤ 2 ^ 53 → (c * b < a * d → units c d < units a b) → lt (round binary64 false c d) (round binary64 false a b) ≡ ltb (c * b) (a * d)
round_lt a b c d B D A C strict =
    lt_of_values (round binary64 false c d) (round binary64 false a b) (units c d) (units a b) (2 ^ 1074) (pow_pos 1074) (round_value c d D C) (round_value a b B A)
    ∙ ltb_same (units c d) (units a b) (c * b) (a * d)
    (λ (o : units a b ≤ units c d). le_of_not_lt (c * b) (a * d) (λ (h : c * b < a * d). not-le_of_lt (strict h) o))
    (λ (h : a * d ≤ c * b). units_mono c d a b D B C A h)

pub quotient_lt : ComparesExactly
quotient_lt a b c d B D A cd s =
    let b53 : b ≤ 2 ^ 53 = le_of_lt (factor_lt b d (2 ^ 53) D s) in
    let d53 : d ≤ 2 ^ 53 = le_of_lt (other_factor_lt b d (2 ^ 53) B s) in
    ap (λ (z : Float). lt z (quotient a b)) (quotient_rounds c d D (le_trans cd d53) d53)
    ∙ ap (λ (z : Float). lt (round binary64 false c d) z) (quotient_rounds a b B A b53)
    ∙ round_lt a b c d B D A (le_trans cd d53) (units_strict a b c d B D A cd s)

pub fifth_is : FifthIsQuotient
unfolding of_bits div of_int
fifth_is = refl

pub three_fifths_is : ThreeFifthsIsQuotient
unfolding of_bits div of_int
three_fifths_is = refl

-- what a cast `n as f64` asks
pub in_float_law : (n : ℕ) → n ≤ 2 ^ 53 → T (in_float binary64 (pos n))
unfolding in_float
in_float_law n h = le→leb n (2 ^ 53) h
