-- A number in columns, read without a test of its bytes.
use mathlib.Core.Path.{◌≡◌, refl, sym, ap, ◌∙◌, subst}
use mathlib.Core.List.{[], ◌∷◌}
use Prim.Native.Nat.{ℕ, zero, suc, ◌+◌, ◌-◌, ◌*◌, ◌%◌, ◌^◌, ◌≤◌, ◌<◌}
use native.Mathlib.Nat.{pow-succ', pow-le-pow_right}
use native.Mathlib.Omega.{arith}
use lib.Dec.{ltb, eqb, lit<}
use lib.ListN.{length, get_or, take, drop}
use lib.Seq.{drop-cons}
use borrow.Author.Tests.{ltb-false, eqb-true}
use Rattle.common.specs.Bytes.{Bytes}
use Rattle.common.proofs.Choice.{by_cond}
use Rattle.sheet.specs.Accepted.{Line}
use Rattle.sheet.specs.Columns.{Columns, Blank, Value, Broken, InColumns, columns, if_digit, next_column, columns_from, finish, field_of}
use Rattle.sheet.specs.Lines.{field_at, number_in, number_at}
use Rattle.sheet.specs.Reading.{plain_from, plain}
use Rattle.sheet.proofs.ColumnsLaws.{read_columns, broken_value}
use Rattle.sheet.proofs.ReadingColumns.{ten_positive, broken_stays, part_cons, part_none}

abbrev value_of : Columns → ℕ
value_of Blank = 0
value_of (Value n) = n
value_of Broken = 0

-- ---- one byte more

-- what has been read is broken, or has the value n
abbrev Worth : ℕ → Columns → Type 0
Worth n c = (c ≡ Broken → ⊥) → value_of c ≡ n

digit_worth : (b v n : ℕ) → (48 ≤ b → b ≤ 57 → v ≡ n) → Worth n (if_digit b (Value v))
digit_worth b v n h =
    by_cond (Worth n) (ltb b 48) (λ d k. absurd (k refl))
    (λ d. by_cond (Worth n) (ltb 57 b) (λ f k. absurd (k refl)) (λ f k. h (ltb-false b 48 d) (ltb-false 57 b f)))

byte_worth : (c : Columns) (b : ℕ) → Worth (value_of c * 10 + b % 16) (next_column c b)
byte_worth Blank b =
    by_cond (Worth (0 * 10 + b % 16)) (eqb b 32) (λ e k. let z : b ≡ 32 = eqb-true b 32 e in omega arith)
    (λ e. digit_worth b (b - 48) (0 * 10 + b % 16) (λ lo hi. omega arith))
byte_worth (Value n) b =
    by_cond (Worth (n * 10 + b % 16)) (eqb n 0) (λ e k. absurd (k refl))
    (λ e. digit_worth b (10 * n + (b - 48)) (n * 10 + b % 16) (λ lo hi. omega arith))
byte_worth Broken b = λ k. absurd (k refl)

-- ---- the whole number

plain_value : (c : Columns) (s : Bytes) (n : ℕ) → columns_from c s ≡ Value n → plain_from (value_of c) s ≡ n
unfolding plain_from
plain_value c [] n e = ap value_of e
plain_value c (b ∷ s) n e =
    let whole = byte_worth c b (λ q. broken_value n (sym (ap (λ (x : Columns). columns_from x s) q ∙ broken_stays s) ∙ e)) in
    ap (λ (m : ℕ). plain_from m s) (sym whole) ∙ plain_value (next_column c b) s n e

plain_columns : (w n : ℕ) → n < 10 ^ w → plain (columns w n) ≡ n
unfolding plain_from columns
plain_columns zero n h = omega arith
plain_columns (suc w) n h = plain_value Blank (columns (suc w) n) n (read_columns w n h)

number_columns : (w n : ℕ) → n < 10 ^ w → number_in (field_of (columns w n)) ≡ n
unfolding field_of columns
number_columns zero n h = omega arith
number_columns (suc w) n h = ap (λ (c : Columns). number_in (finish c)) (read_columns w n h)

pub plain_number : (w : ℕ) (s : Bytes) (at : ℕ) → InColumns w s at → plain (take w (drop at s)) ≡ number_at w s at
unfolding field_at
plain_number w s at p =
    ap plain p.written ∙ plain_columns w p.value p.fits
    ∙ sym (ap (λ (t : Bytes). number_in (field_of t)) p.written ∙ number_columns w p.value p.fits)

-- ---- numbers one after the other

module _ {w : ℕ} {s : Bytes} {at : ℕ} where
  pub column_at : {p : ℕ} → InColumns w s at → at ≡ p → InColumns w s p
  column_at c e = subst (InColumns w s) e c

  -- m of the numbers of a line, from the j-th on
  pub columns_from_law : {k p : ℕ} (j m : ℕ) → Line w s at k → j + m ≤ k → at + j * w ≡ p → (i : ℕ) → i < m → InColumns w s (p + i * w)
  columns_from_law j m l h e i n = subst (InColumns w s) (omega arith) (l.number (j + i) (omega arith))

-- ---- byte by byte

module _ (s : Bytes) (i end : ℕ) (fits : end ≤ length s) (n : ℕ) where
  pub plain_more : i < end → plain_from (n * 10 + get_or s i 0 % 16) (take (end - (i + 1)) (drop (i + 1) s)) ≡ plain_from n (take (end - i) (drop i s))
  unfolding plain_from
  plain_more h = sym (ap (plain_from n) (part_cons s i end fits h))

  pub plain_end : end ≤ i → n ≡ plain_from n (take (end - i) (drop i s))
  unfolding plain_from
  plain_end h = sym (ap (plain_from n) (part_none s i end fits h))

-- i digits stay below 2 * 10 ^ i, whatever the bytes
pub digits_none : (at : ℕ) → 2 ≤ 2 * 10 ^ (at - at)
digits_none at = omega (arith, ten_positive (at - at))

pub digits_small : (n i : ℕ) → n + 2 ≤ 2 * 10 ^ i → i ≤ 10 → n ≤ 2 * 10 ^ 10
digits_small n i h k = omega (arith, pow-le-pow_right {n = 10} (lit< tt) k)

pub digits_room : (n at i b : ℕ) → n + 2 ≤ 2 * 10 ^ (i - at) → at ≤ i → n * 10 + b % 16 + 2 ≤ 2 * 10 ^ (i + 1 - at)
digits_room n at i b h k = let e : i + 1 - at ≡ suc (i - at) = omega arith in rw e (omega (arith, pow-succ' 10 (i - at)))

-- ---- eight bytes

module _ (s : Bytes) where
  plain_step : (n m p q : ℕ) → suc p ≡ q → q ≤ length s → plain_from n (take (suc m) (drop p s)) ≡ plain_from (n * 10 + get_or s p 0 % 16) (take m (drop q s))
  unfolding plain_from
  plain_step n m p q e h = let k : p < length s = omega arith in rw (sym e, drop-cons s p 0 k)

  module _ (at : ℕ) where
    abbrev eight_from : ℕ → ℕ → ℕ → ℕ → ℕ → ℕ → ℕ → ℕ → ℕ
    eight_from a b c d e f g h = (((((((0 * 10 + a) * 10 + b) * 10 + c) * 10 + d) * 10 + e) * 10 + f) * 10 + g) * 10 + h

    plain_eight : at + 8 ≤ length s → plain (take 8 (drop at s)) ≡ eight_from (get_or s at 0 % 16) (get_or s (at + 1) 0 % 16) (get_or s (at + 2) 0 % 16) (get_or s (at + 3) 0 % 16) (get_or s (at + 4) 0 % 16) (get_or s (at + 5) 0 % 16) (get_or s (at + 6) 0 % 16) (get_or s (at + 7) 0 % 16)
    unfolding plain_from
    plain_eight h =
        plain_step _ 7 at (at + 1) (omega arith) (omega arith)
        ∙ plain_step _ 6 (at + 1) (at + 2) (omega arith) (omega arith)
        ∙ plain_step _ 5 (at + 2) (at + 3) (omega arith) (omega arith)
        ∙ plain_step _ 4 (at + 3) (at + 4) (omega arith) (omega arith)
        ∙ plain_step _ 3 (at + 4) (at + 5) (omega arith) (omega arith)
        ∙ plain_step _ 2 (at + 5) (at + 6) (omega arith) (omega arith)
        ∙ plain_step _ 1 (at + 6) (at + 7) (omega arith) (omega arith)
        ∙ plain_step _ 0 (at + 7) (at + 8) (omega arith) (omega arith)

    by_fours : (a b c d e f g h : ℕ) → ((a * 10 + b) * 100 + (c * 10 + d)) * 10000 + ((e * 10 + f) * 100 + (g * 10 + h)) ≡ eight_from a b c d e f g h
    by_fours a b c d e f g h = omega arith

    pub eight_number : at + 8 ≤ length s → InColumns 8 s at → ((get_or s at 0 % 16 * 10 + get_or s (at + 1) 0 % 16) * 100 + (get_or s (at + 2) 0 % 16 * 10 + get_or s (at + 3) 0 % 16)) * 10000 + ((get_or s (at + 4) 0 % 16 * 10 + get_or s (at + 5) 0 % 16) * 100 + (get_or s (at + 6) 0 % 16 * 10 + get_or s (at + 7) 0 % 16)) ≡ number_at 8 s at
    eight_number h p = by_fours _ _ _ _ _ _ _ _ ∙ sym (plain_eight h) ∙ plain_number 8 s at p
