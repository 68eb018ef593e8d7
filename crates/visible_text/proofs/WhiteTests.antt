-- White_Space as the code tests it: at a place in a text, and as many bytes of it as stand in front.
use mathlib.Core.Path.{◌≡◌, refl, sym, ap, ◌∙◌}
use mathlib.Core.Bool.{Bool, true, false, cond}
use mathlib.Core.List.{[], ◌∷◌}
use Prim.Native.Nat.{ℕ, suc, ◌+◌, ◌*◌, ◌≤◌, ◌<◌}
use native.Mathlib.Omega.{arith}
use native.Mathlib.Numerals.{add-one}
use lib.Dec.{eqb}
use lib.ListN.{length, get_or, drop, length-drop, drop_of_length-le}
use lib.Seq.{drop-cons, drop-drop}
use borrow.Author.Tests.{ne_eqb}
use Rattle.common.specs.Bytes.{Bytes}
use Rattle.common.proofs.Choice.{by_cond}
use Rattle.visible_text.specs.WhiteSpace.{is_white1, white_code3, white_two, white_three, white_third, white_second}
use Rattle.visible_text.specs.WhiteSpace.{white_length, trim_from, trim_start}
use Rattle.visible_text.proofs.WhiteLaws.{trim_none, trim_step}

-- ---- two bytes and three, as one number

module _ (a b : ℕ) {x y : ℕ} (p : x ≡ a) (q : y ≡ b) where
  pub two_yes : 256 * x + y ≡ 0xC285 → eqb (256 * x + y) 0xC285 ≡ white_two a b
  unfolding white_two
  two_yes e = rw (← p, ← q, e)

  pub two_else : (256 * x + y ≡ 0xC285 → ⊥) → eqb (256 * x + y) 0xC2A0 ≡ white_two a b
  unfolding white_two
  two_else h = sym (rw (← p, ← q, ne_eqb (256 * x + y) 0xC285 h))

  pub three_code : {z : ℕ} (c : ℕ) → z ≡ c → {r : Bool} → r ≡ white_code3 (65536 * x + 256 * y + z) → r ≡ white_three a b c
  unfolding white_three
  three_code c t e = rw (← p, ← q, ← t) e

-- ---- at a place in a text

module _ (s : Bytes) (i : ℕ) where
  past : length s ≤ i → drop i s ≡ []
  past h = drop_of_length-le s {i = i} h

  here : i < length s → drop i s ≡ get_or s i 0 ∷ drop (i + 1) s
  here h = rw add-one (drop-cons s i 0 h)

pub length_none : (s : Bytes) → length s < 1 → 0 ≡ white_length s
unfolding white_length
length_none [] h = refl
length_none (a ∷ s) h = absurd (omega arith)

module _ (s : Bytes) (i : ℕ) (h : i < length s) where
  pub length_one : is_white1 (get_or s i 0) ≡ true → 1 ≡ white_length (drop i s)
  unfolding white_length
  length_one w = sym (rw (here s i h, w))

  module _ (w : is_white1 (get_or s i 0) ≡ false) where
    second : white_length (drop i s) ≡ white_second (get_or s i 0) (drop (i + 1) s)
    unfolding white_length
    second = rw (here s i h, w)

    pub length_last : i + 1 ≡ length s → 0 ≡ white_length (drop i s)
    length_last k = sym (second ∙ rw (past s (i + 1) (omega arith)))

    module _ (k : i + 1 < length s) where
      pub length_two : white_two (get_or s i 0) (get_or s (i + 1) 0) ≡ true → 2 ≡ white_length (drop i s)
      length_two t = sym (second ∙ rw (here s (i + 1) k, t))

      module _ (t : white_two (get_or s i 0) (get_or s (i + 1) 0) ≡ false) where
        third : white_length (drop i s) ≡ white_third (get_or s i 0) (get_or s (i + 1) 0) (drop (i + 1 + 1) s)
        third = second ∙ rw (here s (i + 1) k, t)

        pub length_two_last : i + 1 + 1 ≡ length s → 0 ≡ white_length (drop i s)
        length_two_last m = sym (third ∙ rw (past s (i + 1 + 1) (omega arith)))

        pub length_three : i + 1 + 1 < length s → {r : Bool} → r ≡ white_three (get_or s i 0) (get_or s (i + 1) 0) (get_or s (i + 1 + 1) 0)
            → cond r 3 0 ≡ white_length (drop i s)
        length_three m {r} q = sym (third ∙ rw (here s (i + 1 + 1) m, ← q))

-- ---- in front

third_short : (a b : ℕ) (s : Bytes) → white_third a b s ≤ suc (suc (length s))
third_short a b [] = omega arith
third_short a b (c ∷ s) = by_cond (λ (n : ℕ). n ≤ suc (suc (suc (length s)))) (white_three a b c) (λ e. omega arith) (λ e. omega arith)

second_short : (a : ℕ) (s : Bytes) → white_second a s ≤ suc (length s)
second_short a [] = omega arith
second_short a (b ∷ s) = by_cond (λ (n : ℕ). n ≤ suc (suc (length s))) (white_two a b) (λ e. omega arith) (λ e. third_short a b s)

white_short : (s : Bytes) → white_length s ≤ length s
unfolding white_length
white_short [] = omega arith
white_short (a ∷ s) = by_cond (λ (n : ℕ). n ≤ suc (length s)) (is_white1 a) (λ e. omega arith) (λ e. second_short a s)

module _ (s : Bytes) (i : ℕ) {n : ℕ} (n_is : n ≡ white_length (drop i s)) where
  pub leading_fits : i ≤ length s → i + n ≤ length s
  leading_fits h = omega (arith, n_is, white_short (drop i s), length-drop i s)

  pub leading_more : trim_start (drop i s) ≡ trim_start s → trim_start (drop (i + n) s) ≡ trim_start s
  leading_more e = sym (trim_step (drop i s) n (sym n_is) ∙ ap trim_start (drop-drop n i s)) ∙ e

  pub leading_stop : n ≡ 0 → trim_start (drop i s) ≡ trim_start s → drop i s ≡ trim_start s
  leading_stop z e = sym (trim_none (drop i s) (sym n_is ∙ z)) ∙ e

pub leading_end : (s : Bytes) (i : ℕ) → length s ≤ i → trim_start (drop i s) ≡ trim_start s → drop i s ≡ trim_start s
unfolding trim_from
leading_end s i h e = past s i h ∙ sym (ap trim_start (past s i h)) ∙ e
