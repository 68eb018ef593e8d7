-- A number in decimal: its tenth part and one digit more; how many digits it has.
use mathlib.Core.Path.{◌≡◌, refl, sym, ap}
use mathlib.Core.List.{[], ◌∷◌, ◌++◌}
use Prim.Native.Nat.{ℕ, zero, suc, ◌+◌, ◌/◌, ◌%◌, ◌^◌, ◌≤◌, ◌<◌}
use native.Mathlib.Omega.{arith}
use lib.Dec.{ltb}
use lib.ListN.{length, length-append}
use borrow.Author.Tests.{ltb-true, ltb-false, lt-ltb, le-ltb}
use Rattle.common.proofs.Choice.{by_test}
use Rattle.writer.specs.Digits.{digits, digits_in}

one_digit : (k n : ℕ) → n < 10 → digits_in k n ≡ (48 + n) ∷ []
unfolding digits_in
one_digit zero n h = refl
one_digit (suc k) n h = rw (lt-ltb n 10 h)

-- enough steps are enough
steps : (k j n : ℕ) → n ≤ k → n ≤ j → digits_in k n ≡ digits_in j n
unfolding digits_in
steps zero j n a b = sym (one_digit j n (omega arith))
steps (suc k) zero n a b = one_digit (suc k) n (omega arith)
steps (suc k) (suc j) n a b =
    by_test (ltb n 10) (λ e. rw e)
    (λ e. let h = ltb-false n 10 e in rw (e, steps k j (n / 10) (omega arith) (omega arith)))

more_digits : (k n : ℕ) → 10 ≤ n → n ≤ k → digits_in k n ≡ digits_in (n / 10) (n / 10) ++ (48 + n % 10) ∷ []
unfolding digits_in
more_digits zero n h l = absurd (omega arith)
more_digits (suc k) n h l = rw (le-ltb n 10 h, steps k (n / 10) (n / 10) (omega arith) (omega arith))

pub digits_one : (n : ℕ) → n < 10 → digits n ≡ (48 + n) ∷ []
unfolding digits
digits_one n h = one_digit n n h

pub digits_more : (n : ℕ) → 10 ≤ n → digits n ≡ digits (n / 10) ++ (48 + n % 10) ∷ []
unfolding digits
digits_more n h = more_digits n n h (omega arith)

pub digits_length : (m n : ℕ) → n < 10 ^ suc m → length (digits n) ≤ suc m
digits_length zero n h = omega (arith, ap length (digits_one n (omega arith)))
digits_length (suc m) n h =
    by_test (ltb n 10)
    (λ e. omega (arith, ap length (digits_one n (ltb-true n 10 e))))
    (λ e. let k : n / 10 < 10 ^ suc m = omega arith in
    omega (arith, ap length (digits_more n (ltb-false n 10 e)), length-append (digits (n / 10)) ((48 + n % 10) ∷ []), digits_length m (n / 10) k))
