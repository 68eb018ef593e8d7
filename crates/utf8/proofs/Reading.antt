-- Whole characters, place by place.
use mathlib.Core.Path.{◌≡◌, refl, sym, ap, ◌∙◌}
use mathlib.Core.Bool.{true, false, ◌&&◌, and-false}
use mathlib.Core.List.{List, [], ◌∷◌}
use Prim.Native.Nat.{ℕ, zero, suc, ◌+◌, ◌-◌, ◌≤◌, ◌<◌}
use native.Mathlib.Omega.{arith}
use lib.Dec.{leb}
use lib.ListN.{length, drop, get_or, length-drop, length-replicate, replicate, drop_of_length-le}
use lib.Seq.{drop-cons}
use borrow.Author.Tests.{leb-true}
use Rattle.common.specs.Bytes.{Bytes}
use Rattle.common.proofs.Every.{every_at}
use Rattle.utf8.specs.Abnf.{Range, %x◌-◌, UTF8_tail, UTF8_char}
use Rattle.utf8.specs.State.{expected_ranges, Ascii, Passed}
use Rattle.utf8.specs.Valid.{within, follow, expect, valid}
use Rattle.utf8.proofs.Following.{follows}

-- ---- what is expected

-- fewer octets than ranges
expect_cut : (rs : List Range) (s : Bytes) → length s < length rs → expect rs s ≡ false
unfolding expect
expect_cut [] s h = absurd (omega arith)
expect_cut (r ∷ rs) [] h = refl
expect_cut (r ∷ rs) (x ∷ s) h = rw (expect_cut rs s (omega arith)) (and-false (within r x))

expected_length : (n low high : ℕ) → length (expected_ranges n low high) ≡ n
expected_length zero low high = refl
expected_length (suc n) low high = ap suc (length-replicate n UTF8_tail)

tails : (n : ℕ) → expected_ranges n 0x80 0xBF ≡ replicate n UTF8_tail
tails zero = refl
tails (suc n) = refl

expected_some : (n low high : ℕ) → (n ≡ 0 → ⊥) → expected_ranges n low high ≡ %x low - high ∷ expected_ranges (n - 1) 0x80 0xBF
expected_some n low high h = let e : n ≡ suc (n - 1) = omega (arith, h) in ap (λ (m : ℕ). expected_ranges m low high) e ∙ ap (λ (rs : List Range). %x low - high ∷ rs) (sym (tails (n - 1)))

expected_none : (n low high : ℕ) → n ≡ 0 → (t : Bytes) → expect (expected_ranges n low high) t ≡ valid t
unfolding valid
expected_none n low high h t = rw h

-- at most three octets follow a first one
few_follow : (x : ℕ) → x < 256 → leb (length (follow UTF8_char x)) 3 ≡ true
few_follow x h = every_at (λ y. leb (length (follow UTF8_char y)) 3) 0 256 refl x (omega arith) (omega arith)

pub few_expected : (n low high x : ℕ) → x < 256 → expected_ranges n low high ≡ follow UTF8_char x → n ≤ 3
few_expected n low high x h e = omega (arith, sym (expected_length n low high) ∙ ap length e, leb-true (length (follow UTF8_char x)) 3 (few_follow x h))

three_or_more : (n : ℕ) → (n ≡ 0 → ⊥) → (n ≡ 1 → ⊥) → (n ≡ 2 → ⊥) → 3 ≤ n
three_or_more zero a b c = absurd (a refl)
three_or_more (suc zero) a b c = absurd (b refl)
three_or_more (suc (suc zero)) a b c = absurd (c refl)
three_or_more (suc (suc (suc n))) a b c = omega arith

room_for_four : (n l i : ℕ) → 3 ≤ n → n < l - i → (n - 1 - 1 ≡ 0 → ⊥) × (i + 4 ≤ l)
room_for_four n l i h k = (λ z. omega arith, omega arith)

none_behind_four : (n : ℕ) → n ≤ 3 → n - 1 - 1 - 1 ≡ 0
none_behind_four n h = omega arith

-- ---- a character at i

module _ (s : Bytes) where
  first_step : (i q : ℕ) → suc i ≡ q → q ≤ length s → valid (drop i s) ≡ expect (follow UTF8_char (get_or s i 0)) (drop q s)
  unfolding expect valid
  first_step i q e h = let l : i < length s = omega arith in rw (sym e, drop-cons s i 0 l)

  tail_step : (k q : ℕ) (r : Range) (rs : List Range) → suc k ≡ q → q ≤ length s → expect (r ∷ rs) (drop k s) ≡ (within r (get_or s k 0) && expect rs (drop q s))
  unfolding expect
  tail_step k q r rs e h = let l : k < length s = omega arith in rw (sym e, drop-cons s k 0 l)

  module _ (k q n low high : ℕ) (some : n ≡ 0 → ⊥) (e : suc k ≡ q) (h : q ≤ length s) where
    tail_out : within (%x low - high) (get_or s k 0) ≡ false → expect (expected_ranges n low high) (drop k s) ≡ false
    tail_out w = rw (expected_some n low high some) (tail_step k q _ _ e h ∙ rw w)

    tail_in : within (%x low - high) (get_or s k 0) ≡ true → expect (expected_ranges (n - 1) 0x80 0xBF) (drop q s) ≡ expect (expected_ranges n low high) (drop k s)
    tail_in w = sym (rw (expected_some n low high some) (tail_step k q _ _ e h ∙ rw w))

  some_at : (i j : ℕ) → i < j → j ≤ length s → valid (drop j s) ≡ valid (drop i s) → Passed s i j
  some_at i j h k e = record { from = h; to = k; same = e }

  module _ (i n low high : ℕ) (inside : i < length s) (begun : expected_ranges n low high ≡ follow UTF8_char (get_or s i 0)) where
    after_first : expect (expected_ranges n low high) (drop (i + 1) s) ≡ valid (drop i s)
    after_first = ap (λ (rs : List Range). expect rs (drop (i + 1) s)) begun ∙ sym (first_step i (i + 1) (omega arith) (omega arith))

    pub pass_cut : length s - i ≤ n → valid (drop i s) ≡ false
    pass_cut h = sym after_first ∙ expect_cut _ _ (omega (arith, expected_length n low high, length-drop (i + 1) s))

    pub pass_one : n ≡ 0 → Passed s i (i + 1)
    pass_one z = some_at i (i + 1) (omega arith) (omega arith) (sym (expected_none n low high z _) ∙ after_first)

    module _ (long : n < length s - i) (some : n ≡ 0 → ⊥) where
      pub pass_second : within (%x low - high) (get_or s (i + 1) 0) ≡ false → valid (drop i s) ≡ false
      pass_second w = sym after_first ∙ tail_out (i + 1) (i + 2) n low high some (omega arith) (omega (arith, some)) w

      module _ (in2 : within (%x low - high) (get_or s (i + 1) 0) ≡ true) where
        after_second : expect (expected_ranges (n - 1) 0x80 0xBF) (drop (i + 2) s) ≡ valid (drop i s)
        after_second = tail_in (i + 1) (i + 2) n low high some (omega arith) (omega (arith, some)) in2 ∙ after_first

        pub pass_two : n ≡ 1 → Passed s i (i + 2)
        pass_two z = some_at i (i + 2) (omega arith) (omega arith) (sym (expected_none (n - 1) _ _ (omega arith) _) ∙ after_second)

        module _ (not_one : n ≡ 1 → ⊥) where
          third : (n - 1 ≡ 0 → ⊥) × (i + 3 ≤ length s)
          third = (λ z. not_one (omega (arith, some)), omega (arith, some, not_one))

          pub pass_third : within UTF8_tail (get_or s (i + 2) 0) ≡ false → valid (drop i s) ≡ false
          pass_third w = sym after_second ∙ tail_out (i + 2) (i + 3) (n - 1) _ _ third.0 (omega arith) third.1 w

          module _ (in3 : within UTF8_tail (get_or s (i + 2) 0) ≡ true) where
            after_third : expect (expected_ranges (n - 1 - 1) 0x80 0xBF) (drop (i + 3) s) ≡ valid (drop i s)
            after_third = tail_in (i + 2) (i + 3) (n - 1) _ _ third.0 (omega arith) third.1 in3 ∙ after_second

            pub pass_three : n ≡ 2 → Passed s i (i + 3)
            pass_three z = some_at i (i + 3) (omega arith) third.1 (sym (expected_none (n - 1 - 1) _ _ (omega arith) _) ∙ after_third)

            module _ (not_two : n ≡ 2 → ⊥) where
              fourth : (n - 1 - 1 ≡ 0 → ⊥) × (i + 4 ≤ length s)
              fourth = room_for_four n (length s) i (three_or_more n some not_one not_two) long

              pub pass_fourth : within UTF8_tail (get_or s (i + 3) 0) ≡ false → valid (drop i s) ≡ false
              pass_fourth w = sym after_third ∙ tail_out (i + 3) (i + 4) (n - 1 - 1) _ _ fourth.0 (omega arith) fourth.1 w

              pub pass_four : within UTF8_tail (get_or s (i + 3) 0) ≡ true → n ≤ 3 → Passed s i (i + 4)
              pass_four w m =
                  some_at i (i + 4) (omega arith) fourth.1
                  (sym (expected_none (n - 1 - 1 - 1) _ _ (none_behind_four n m) _) ∙ tail_in (i + 3) (i + 4) (n - 1 - 1) _ _ fourth.0 (omega arith) fourth.1 w ∙ after_third)

  -- ---- a run of ASCII

  ascii_step : (i q : ℕ) → suc i ≡ q → q ≤ length s → get_or s i 0 < 0x80 → valid (drop q s) ≡ valid (drop i s)
  unfolding valid
  ascii_step i q e h a = ap (λ (rs : List Range). expect rs (drop q s)) (follows 0 0x80 [] refl (get_or s i 0) (omega arith) (omega arith)) ∙ sym (first_step i q e h)

  ascii_run : (m i j : ℕ) → i + m ≡ j → j ≤ length s → Ascii s i j → valid (drop j s) ≡ valid (drop i s)
  ascii_run zero i j e h a = let q : j ≡ i = omega arith in ap (λ (k : ℕ). valid (drop k s)) q
  ascii_run (suc m) i j e h a =
      ascii_run m (i + 1) j (omega arith) h (λ k l n. a k (omega arith) n)
      ∙ ascii_step i (i + 1) (omega arith) (omega arith) (a i (omega arith) (omega arith))

  pub pass_run : (i j : ℕ) → i < j → j ≤ length s → Ascii s i j → Passed s i j
  pass_run i j h k a = some_at i j h k (ascii_run (j - i) i j (omega arith) k a)

  pub pass_octet : (i : ℕ) → i < length s → get_or s i 0 < 0x80 → Passed s i (i + 1)
  pass_octet i h a = some_at i (i + 1) (omega arith) (omega arith) (ascii_step i (i + 1) (omega arith) (omega arith) a)

  -- ---- the end

  pub valid_end : (i : ℕ) → length s ≤ i → valid (drop i s) ≡ true
  unfolding valid expect
  valid_end i h = rw (drop_of_length-le s h)
