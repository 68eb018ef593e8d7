-- The code of a byte: what the byte is in, its code may be in; and it is below 32.
use mathlib.Core.Path.{◌≡◌, sym, ap, subst, ◌∙◌}
use mathlib.Core.Bool.{true}
use mathlib.Core.Logic.{inl, inr}
use Prim.Native.Nat.{ℕ, ◌-◌, ◌≤◌, ◌<◌}
use native.Mathlib.Omega.{arith}
use lib.Dec.{T, eqb, eqb→eq, lit<}
use borrow.Author.Tests.{eq-eqb, ne_eqb}
use Rattle.common.proofs.Choice.{by_test, by_cond}
use Rattle.text.specs.Text.{is_space, is_ascii_whitespace}
use Rattle.text.proofs.SpaceLaws.{space_above}
use Rattle.byte_regex.specs.Regex.{Class, between, lower, is_dash, is_hex_digit, in_class, exactly, letter, any_blank, any_dash, any_separator, any_hex_digit}
use Rattle.byte_regex.proofs.MatchLaws.{or_left, or_right, or_cases}
use Rattle.byte_regex.proofs.ClassLaws.{T_is, is_T, between_is, between_low, between_high, between_under, between_over, lower_capital, lower_other}
use Rattle.patterns.specs.Candidates.{code_of, code_in_class}

letter_code : (x : ℕ) → 65 ≤ x → between 97 122 (lower x) ≡ true → code_of x ≡ lower x - 96
unfolding code_of
letter_code x h e = simp (space_above x (omega arith) (omega arith), e)

-- a letter has the code of its small letter
lower_code : (x : ℕ) → code_of x ≡ code_of (lower x)
lower_code x =
    by_test (between 65 90 x)
    (λ e.
    let h : 65 ≤ x = between_low 65 90 x (is_T (between 65 90 x) e) in
    let k : x ≤ 90 = between_high 65 90 x (is_T (between 65 90 x) e) in
    let c = lower_capital x h k in
    let d : lower (lower x) ≡ lower x = lower_other (lower x) (between_over 65 90 (lower x) (omega arith)) in
    let m : between 97 122 (lower x) ≡ true = between_is 97 122 (lower x) (omega arith) (omega arith) in
    letter_code x h m ∙ sym (letter_code (lower x) (omega arith) (ap (between 97 122) d ∙ m) ∙ ap (λ (y : ℕ). y - 96) d))
    (λ e. sym (ap code_of (lower_other x e)))

hex_code : (x : ℕ) → T (between 97 102 (lower x)) → T (between 1 6 (code_of x))
hex_code x t =
    let h : 97 ≤ lower x = between_low 97 102 (lower x) t in
    let k : lower x ≤ 102 = between_high 97 102 (lower x) t in
    let m : between 97 122 (lower x) ≡ true = between_is 97 122 (lower x) (omega arith) (omega arith) in
    let big : 65 ≤ x = by_test (between 65 90 x) (λ e. between_low 65 90 x (is_T (between 65 90 x) e)) (λ e. omega (arith, lower_other x e)) in
    let c = letter_code x big m in
    is_T (between 1 6 (code_of x)) (between_is 1 6 (code_of x) (omega arith) (omega arith))

digit_code : (x : ℕ) → T (between 48 57 x) → code_of x ≡ 29
unfolding code_of
digit_code x t =
    let h : 48 ≤ x = between_low 48 57 x t in
    let k : x ≤ 57 = between_high 48 57 x t in
    let l = lower_other x (between_under 65 90 x (omega arith)) in
    simp (space_above x (omega arith) (omega arith), l, between_under 97 122 x (omega arith), ne_eqb x 45 (omega arith), ne_eqb x 95 (omega arith), between_is 48 57 x h k)

dash_code : (x : ℕ) → T (is_dash x) → T (between 27 28 (code_of x))
unfolding is_dash code_of lower is_space is_ascii_whitespace
dash_code x t =
    elim (or_cases (eqb x 45) (eqb x 95) t) [
      | inl u ↦ subst (λ (y : ℕ). T (between 27 28 (code_of y))) (sym (eqb→eq x 45 u)) tt
      | inr u ↦ subst (λ (y : ℕ). T (between 27 28 (code_of y))) (sym (eqb→eq x 95 u)) tt
    ]

blank_code : (x : ℕ) → T (is_space x) → T (eqb (code_of x) 0)
unfolding code_of
blank_code x t = is_T (eqb (code_of x) 0) (simp (T_is (is_space x) t))

-- the code of a byte of the class can be in the class
pub class_code : (c : Class) (x : ℕ) → T (in_class c x) → T (code_in_class c (code_of x))
unfolding in_class code_in_class is_hex_digit
class_code (exactly c) x t = is_T (eqb (code_of x) (code_of c)) (eq-eqb (code_of x) (code_of c) (ap code_of (eqb→eq x c t)))
class_code (letter c) x t = is_T (eqb (code_of x) (code_of c)) (eq-eqb (code_of x) (code_of c) (lower_code x ∙ ap code_of (eqb→eq (lower x) c t)))
class_code any_blank x t = blank_code x t
class_code any_dash x t = dash_code x t
class_code any_separator x t =
    elim (or_cases (is_space x) (is_dash x) t) [
      | inl u ↦ or_left (eqb (code_of x) 0) (between 27 28 (code_of x)) (blank_code x u)
      | inr u ↦ or_right (eqb (code_of x) 0) (between 27 28 (code_of x)) (dash_code x u)
    ]
class_code any_hex_digit x t =
    elim (or_cases (between 48 57 x) (between 97 102 (lower x)) t) [
      | inl u ↦ or_left (eqb (code_of x) 29) (between 1 6 (code_of x)) (is_T (eqb (code_of x) 29) (eq-eqb (code_of x) 29 (digit_code x u)))
      | inr u ↦ or_right (eqb (code_of x) 29) (between 1 6 (code_of x)) (hex_code x u)
    ]

pub code_lt : (x : ℕ) → code_of x < 32
unfolding code_of
code_lt x =
    by_cond (λ (n : ℕ). n < 32) (is_space x) (λ _. lit< tt)
    (λ _. by_cond (λ (n : ℕ). n < 32) (between 97 122 (lower x)) (λ e. small e)
    (λ _. by_cond (λ (n : ℕ). n < 32) (eqb x 45) (λ _. lit< tt)
    (λ _. by_cond (λ (n : ℕ). n < 32) (eqb x 95) (λ _. lit< tt)
    (λ _. by_cond (λ (n : ℕ). n < 32) (between 48 57 x) (λ _. lit< tt)
    (λ _. by_cond (λ (n : ℕ). n < 32) (between 58 59 x) (λ _. lit< tt) (λ _. lit< tt))))))
  where
    small : between 97 122 (lower x) ≡ true → lower x - 96 < 32
    small e = omega (arith, between_high 97 122 (lower x) (is_T (between 97 122 (lower x)) e))
