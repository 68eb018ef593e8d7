-- How far a fraction rounded to 53 digits is off: by half a unit of its last digit at most.
use mathlib.Core.Path.{◌≡◌, sym, ap, ◌∙◌, subst}
use mathlib.Core.Bool.{not}
use Prim.Native.Nat.{ℕ, ◌+◌, ◌-◌, ◌*◌, ◌/◌, ◌%◌, ◌^◌, ◌≤◌, ◌<◌, compare, Ordering}
use native.Mathlib.Nat.{suc-mul, add-mul, mul_comm, mul_assoc, mul-le-mul_left, mul-le-mul_right, mul-pos, mod-lt, div-add-mod', div-lt_iff_lt-mul}
use native.Mathlib.Omega.{arith}
use lib.Dec.{T, is_le, compare_is_eq, leb→le, nleb→lt, eqb→eq}
use lib.Pow.{pow_pos, pow_mono}
use lib.Ieee.{size, nearest}
use lib.Ieee.Digits.{size-le}
use lib.Ieee.Nearest.{closest}
use lib.Ieee.Order.{drop, kept}

-- x is n within half of the unit u
abbrev pub Near : ℕ → ℕ → ℕ → Type 0
Near x n u = (2 * x ≤ 2 * n + u) × (2 * n ≤ 2 * x + u)

near_wider : (x n u v : ℕ) → u ≤ v → Near x n u → Near x n v
near_wider x n u v h k = omega arith

-- ---- a whole number of units
-- what each outcome of a comparison says
abbrev Compared : Ordering → ℕ → ℕ → Type 0
Compared Ordering.lt a b = a ≤ b
Compared Ordering.eq a b = a ≡ b
Compared Ordering.gt a b = b < a

compared : (a b : ℕ) → Compared (compare a b) a b
compared a b = go (compare a b) (leb→le a b) (nleb→lt a b) (eqb→eq a b)
  where
    go : (o : Ordering) → (T (is_le o) → a ≤ b) → (T (not (is_le o)) → b < a) → (T (compare_is_eq o) → a ≡ b) → Compared o a b
    go Ordering.lt h k e = h tt
    go Ordering.eq h k e = e tt
    go Ordering.gt h k e = k tt

parity_le : (q : ℕ) → q % 2 ≤ 1
parity_le q = omega arith

-- q units and r more, rounded by how twice r compares with a unit
nearest_near : (q r u : ℕ) (o : Ordering) → Compared o (r * 2) u → r < u → Near (nearest q o * u) (q * u + r) u
nearest_near q r u Ordering.lt h k = omega arith
nearest_near q r u Ordering.eq h k = omega (arith, add-mul q (q % 2) u, mul-le-mul_right u (parity_le q))
nearest_near q r u Ordering.gt h k = omega (arith, suc-mul q u)

closest_near : (n u : ℕ) → 0 < u → Near (closest n u * u) n u
closest_near n u h =
    subst (λ (z : ℕ). Near (closest n u * u) z u) (div-add-mod' n u)
    (nearest_near (n / u) (n % u) u (compare (n % u * 2) u) (compared (n % u * 2) u) (mod-lt n h))

-- ---- 53 digits
-- n / den with 53 digits kept
abbrev pub rounded : ℕ → ℕ → ℕ
rounded n den = kept 53 n den * 2 ^ drop 53 n den

rounded_near : (n den : ℕ) → 0 < den → Near (rounded n den * den) n (den * 2 ^ drop 53 n den)
rounded_near n den h =
    let k = drop 53 n den in
    let u = den * 2 ^ k in
    let e : closest n u * u ≡ rounded n den * den = ap (λ (z : ℕ). closest n u * z) (mul_comm den (2 ^ k)) ∙ sym (mul_assoc (closest n u) (2 ^ k) den) in
    subst (λ (z : ℕ). Near z n u) e (closest_near n u (mul-pos h (pow_pos k)))

past_53 : (z j : ℕ) → z ≤ j + 53 → z - 53 ≤ j
past_53 z j h = omega arith

-- a fraction below 2 ^ (j + 53) drops j digits at most
drop_le : (n den j : ℕ) → 0 < den → n < 2 ^ (j + 53) * den → drop 53 n den ≤ j
drop_le n den j h k = past_53 (size (n / den)) j (size-le (n / den) (j + 53) ((div-lt_iff_lt-mul h).1 k))

-- and so is off by half of 2 ^ j at most
pub rounded_near_below : (n den j : ℕ) → 0 < den → n < 2 ^ (j + 53) * den → Near (rounded n den * den) n (den * 2 ^ j)
rounded_near_below n den j h k =
    near_wider (rounded n den * den) n (den * 2 ^ drop 53 n den) (den * 2 ^ j) (mul-le-mul_left den (pow_mono (drop_le n den j h k)))
    (rounded_near n den h)
