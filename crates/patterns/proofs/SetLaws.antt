-- Sets of patterns as bits of a number: two sets together, and a set that is packed from a list of answers.
use mathlib.Core.Path.{◌≡◌, refl, sym, ap, subst, ◌∙◌}
use mathlib.Core.Bool.{Bool, true, false, cond}
use mathlib.Core.List.{List, [], ◌∷◌}
use Prim.Native.Nat.{ℕ, zero, suc, ◌+◌, ◌*◌, ◌/◌, ◌%◌, ◌^◌, ◌<◌}
use native.Mathlib.Nat.{div-one, mod-lt}
use native.Mathlib.Omega.{arith}
use lib.Arith.{digits_div, digits_mod}
use lib.Bits.{bit_and, bit_or, and_shr, and_mod, or_shr, or_mod, or_comm}
use lib.Dec.{T, eqb, eqb→eq, lit<}
use lib.ListN.{get_or}
use lib.Pow.{shr-shr}
use Rattle.patterns.specs.Candidates.{bit, packed}

bit_one : (n p : ℕ) → T (bit n p) → n / 2 ^ p % 2 ≡ 1
bit_one n p t = eqb→eq (n / 2 ^ p % 2) 1 t

one_bit : (n p : ℕ) → n / 2 ^ p % 2 ≡ 1 → T (bit n p)
one_bit n p e = subst (λ (m : ℕ). T (eqb m 1)) (sym e) tt

-- in both, in their intersection
pub bit_and_law : (a b p : ℕ) → T (bit a p) → T (bit b p) → T (bit (bit_and a b) p)
bit_and_law a b p s t =
    one_bit (bit_and a b) p
    (ap (λ (n : ℕ). n % 2) (and_shr a b p) ∙ and_mod (a / 2 ^ p) (b / 2 ^ p) 1 ∙ (λ i. bit_and (bit_one a p s i) (bit_one b p t i)))

or_one : (m : ℕ) → m < 2 → bit_or 1 m ≡ 1
or_one zero h = refl
or_one (suc zero) h = refl
or_one (suc (suc m)) h = absurd (omega arith)

-- in the first, in their union; and so for the second
pub bit_or_left : (a b p : ℕ) → T (bit a p) → T (bit (bit_or a b) p)
bit_or_left a b p s =
    one_bit (bit_or a b) p
    (ap (λ (n : ℕ). n % 2) (or_shr a b p) ∙ or_mod (a / 2 ^ p) (b / 2 ^ p) 1 ∙ ap (λ (n : ℕ). bit_or n (b / 2 ^ p % 2)) (bit_one a p s) ∙ or_one (b / 2 ^ p % 2) (mod-lt (b / 2 ^ p) (lit< tt)))

pub bit_or_right : (a b p : ℕ) → T (bit b p) → T (bit (bit_or a b) p)
bit_or_right a b p t = subst (λ (n : ℕ). T (bit n p)) (or_comm b a) (bit_or_left b a p t)

-- ---- packed answers
answer_lt : (b : Bool) → cond b 1 0 < 2
answer_lt true = lit< tt
answer_lt false = lit< tt

packed_zero : (b : Bool) (m : ℕ) → T b → T (bit (m * 2 + cond b 1 0) 0)
packed_zero true m t = one_bit (m * 2 + 1) 0 (ap (λ (n : ℕ). n % 2) (div-one (m * 2 + 1)) ∙ digits_mod m (lit< tt))
packed_zero false m t = absurd t

packed_suc : (b : Bool) (m p : ℕ) → T (bit m p) → T (bit (m * 2 + cond b 1 0) (suc p))
packed_suc b m p t =
    let e : suc p ≡ 1 + p = omega arith in
    one_bit (m * 2 + cond b 1 0) (suc p)
    (ap (λ (q : ℕ). (m * 2 + cond b 1 0) / 2 ^ q % 2) e ∙ ap (λ (n : ℕ). n % 2) (sym (shr-shr (m * 2 + cond b 1 0) 1 p))
    ∙ ap (λ (n : ℕ). n / 2 ^ p % 2) (digits_div m (answer_lt b)) ∙ bit_one m p t)

pub packed_bit : (bs : List Bool) (p : ℕ) → T (get_or bs p false) → T (bit (packed bs) p)
unfolding packed
packed_bit [] p t = absurd t
packed_bit (b ∷ bs) zero t = packed_zero b (packed bs) t
packed_bit (b ∷ bs) (suc p) t = packed_suc b (packed bs) p (packed_bit bs p t)
