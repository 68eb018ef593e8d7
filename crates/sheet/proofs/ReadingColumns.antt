-- Columns read from the left: spaces, the first digit, and the digits behind it.
use Rattle.std.specs.Prelude.{Some, None}
use mathlib.Core.Path.{◌≡◌, refl, sym, ap, ◌∙◌}
use mathlib.Core.List.{[], ◌∷◌}
use Prim.Native.Nat.{ℕ, suc, ◌+◌, ◌-◌, ◌*◌, ◌^◌, ◌≤◌, ◌<◌}
use native.Mathlib.Nat.{pow-succ', pow-le-pow_right}
use native.Mathlib.Numerals.{add-one}
use native.Mathlib.Omega.{arith}
use lib.Dec.{lit<}
use lib.ListN.{length, get_or, take, drop}
use lib.Seq.{drop-cons}
use borrow.Author.Tests.{le-ltb, lt-ltb, eq-eqb, ne_eqb}
use Rattle.common.specs.Bytes.{Bytes}
use Rattle.sheet.specs.Columns.{Columns, Blank, Value, Broken, if_digit, next_column, columns_from, finish, field_of}
use Rattle.sheet.specs.Reading.{Spaces}

pub ten_positive : (i : ℕ) → 1 ≤ 10 ^ i
ten_positive i = pow-le-pow_right {n = 10} (lit< tt) {i = 0} {j = i} (omega arith)

pub broken_stays : (s : Bytes) → columns_from Broken s ≡ Broken
broken_stays [] = refl
broken_stays (b ∷ s) = broken_stays s

module _ (s : Bytes) (i end : ℕ) (fits : end ≤ length s) where
  -- the part from i on, its first byte taken off
  pub part_cons : i < end → take (end - i) (drop i s) ≡ get_or s i 0 ∷ take (end - (i + 1)) (drop (i + 1) s)
  part_cons h = let e : end - i ≡ suc (end - (i + 1)) = omega arith in rw (e, drop-cons s i 0 (omega arith), add-one)

  pub part_none : end ≤ i → take (end - i) (drop i s) ≡ []
  part_none h = let e : end - i ≡ 0 = omega arith in rw e

  -- ---- spaces

  abbrev rest : Bytes
  rest = take (end - (i + 1)) (drop (i + 1) s)

  step : (c : Columns) → i < end → columns_from c (take (end - i) (drop i s)) ≡ columns_from (next_column c (get_or s i 0)) (take (end - (i + 1)) (drop (i + 1) s))
  step c h = ap (columns_from c) (part_cons h)

  pub space_more : i < end → get_or s i 0 ≡ 32 → columns_from Blank (take (end - (i + 1)) (drop (i + 1) s)) ≡ columns_from Blank (take (end - i) (drop i s))
  space_more h e = sym (step Blank h ∙ rw (eq-eqb (get_or s i 0) 32 e))

  -- ---- a number and one byte more

  module _ (n : ℕ) (p : 0 < n) (h : i < end) where
    digit_step : columns_from (Value n) (take (end - i) (drop i s)) ≡ columns_from (if_digit (get_or s i 0) (Value (10 * n + (get_or s i 0 - 48)))) (take (end - (i + 1)) (drop (i + 1) s))
    digit_step = step (Value n) h ∙ rw (ne_eqb n 0 (omega arith))

    broken_digit : if_digit (get_or s i 0) (Value (10 * n + (get_or s i 0 - 48))) ≡ Broken → None ≡ finish (columns_from (Value n) (take (end - i) (drop i s)))
    broken_digit e = sym (ap finish (digit_step ∙ ap (λ (c : Columns). columns_from c rest) e ∙ broken_stays rest))

    pub digit_low : get_or s i 0 < 48 → None ≡ finish (columns_from (Value n) (take (end - i) (drop i s)))
    digit_low k = broken_digit (simp (lt-ltb (get_or s i 0) 48 k))

    pub digit_high : 48 ≤ get_or s i 0 → 57 < get_or s i 0 → None ≡ finish (columns_from (Value n) (take (end - i) (drop i s)))
    digit_high k m = broken_digit (simp (le-ltb (get_or s i 0) 48 k, lt-ltb 57 (get_or s i 0) m))

    pub digit_more : 48 ≤ get_or s i 0 → get_or s i 0 ≤ 57 → columns_from (Value (10 * n + (get_or s i 0 - 48))) (take (end - (i + 1)) (drop (i + 1) s)) ≡ columns_from (Value n) (take (end - i) (drop i s))
    digit_more k m = sym (digit_step ∙ rw (le-ltb (get_or s i 0) 48 k, le-ltb 57 (get_or s i 0) m))

    pub digit_small : n < 10 ^ (19 - (end - i)) → n < 10 ^ 18
    digit_small b = let k : 19 - (end - i) ≤ 18 = omega arith in omega (arith, pow-le-pow_right {n = 10} (lit< tt) k)

    pub digit_room : end - i ≤ 18 → n < 10 ^ (19 - (end - i)) → get_or s i 0 ≤ 57 → 10 * n + (get_or s i 0 - 48) < 10 ^ (19 - (end - (i + 1)))
    digit_room l b m =
        let e : 19 - (end - (i + 1)) ≡ suc (19 - (end - i)) = omega arith in
        rw e (omega (arith, pow-succ' 10 (19 - (end - i))))

  pub digits_done : (n : ℕ) → end ≤ i → Some n ≡ finish (columns_from (Value n) (take (end - i) (drop i s)))
  digits_done n h = sym (ap (λ (t : Bytes). finish (columns_from (Value n) t)) (part_none h))

-- ---- the whole field: what stands behind the spaces

module _ (s : Bytes) (at width i : ℕ) (fits : at + width ≤ length s) (p : Spaces s at (at + width) i) where
  field_from : field_of (take width (drop at s)) ≡ finish (columns_from Blank (take (at + width - i) (drop i s)))
  unfolding field_of
  field_from = let e : width ≡ at + width - at = omega arith in sym (ap finish (p.left ∙ ap (λ (k : ℕ). columns_from Blank (take k (drop at s))) (sym e)))

  pub field_blank : i ≡ at + width → None ≡ field_of (take width (drop at s))
  field_blank e = sym (field_from ∙ ap (λ (t : Bytes). finish (columns_from Blank t)) (part_none s i (at + width) fits (omega arith)))

  module _ (n : i ≡ at + width → ⊥) where
    inside : i < at + width
    inside = omega (arith, n, p.to)

    first_step : field_of (take width (drop at s)) ≡ finish (columns_from (if_digit (get_or s i 0) (Value (get_or s i 0 - 48))) (take (at + width - (i + 1)) (drop (i + 1) s)))
    first_step = field_from ∙ ap finish (step s i (at + width) fits Blank inside) ∙ rw (ne_eqb (get_or s i 0) 32 (p.no_space inside))

    first_broken : if_digit (get_or s i 0) (Value (get_or s i 0 - 48)) ≡ Broken → None ≡ field_of (take width (drop at s))
    first_broken e =
        sym (first_step ∙ ap (λ (c : Columns). finish (columns_from c (take (at + width - (i + 1)) (drop (i + 1) s)))) e ∙ ap finish (broken_stays (take (at + width - (i + 1)) (drop (i + 1) s))))

    pub first_low : get_or s i 0 < 48 → None ≡ field_of (take width (drop at s))
    first_low k = first_broken (simp (lt-ltb (get_or s i 0) 48 k))

    module _ (low : 48 ≤ get_or s i 0) where
      pub first_high : 57 < get_or s i 0 → None ≡ field_of (take width (drop at s))
      first_high m = first_broken (simp (le-ltb (get_or s i 0) 48 low, lt-ltb 57 (get_or s i 0) m))

      module _ (high : get_or s i 0 ≤ 57) where
        pub first_digit : finish (columns_from (Value (get_or s i 0 - 48)) (take (at + width - (i + 1)) (drop (i + 1) s))) ≡ field_of (take width (drop at s))
        first_digit = sym (first_step ∙ rw (le-ltb (get_or s i 0) 48 low, le-ltb 57 (get_or s i 0) high))

        zero_first : get_or s i 0 ≡ 48 → finish (columns_from (Value 0) (take (at + width - (i + 1)) (drop (i + 1) s))) ≡ field_of (take width (drop at s))
        zero_first z = let e : get_or s i 0 - 48 ≡ 0 = omega (arith, z) in ap (λ (v : ℕ). finish (columns_from (Value v) (take (at + width - (i + 1)) (drop (i + 1) s)))) (sym e) ∙ first_digit

        pub zero_alone : get_or s i 0 ≡ 48 → i + 1 ≡ at + width → Some 0 ≡ field_of (take width (drop at s))
        zero_alone z e = digits_done s (i + 1) (at + width) fits 0 (omega arith) ∙ zero_first z

        pub zero_leading : get_or s i 0 ≡ 48 → (i + 1 ≡ at + width → ⊥) → None ≡ field_of (take width (drop at s))
        zero_leading z m =
            sym (ap finish (step s (i + 1) (at + width) fits (Value 0) (omega (arith, m, inside)) ∙ broken_stays (take (at + width - (i + 1 + 1)) (drop (i + 1 + 1) s)))) ∙ zero_first z

pub digit_fits : (b k : ℕ) → b ≤ 57 → 1 ≤ k → b - 48 < 10 ^ k
digit_fits b k h p = omega (arith, pow-le-pow_right {n = 10} (lit< tt) p)
