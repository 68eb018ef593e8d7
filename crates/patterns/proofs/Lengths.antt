-- How many patterns there are, and how many bytes each of them takes at least.
use mathlib.Core.Path.{◌≡◌, refl}
use mathlib.Core.Bool.{Bool, true, false, ◌&&◌, cond}
use mathlib.Core.Logic.{inl, inr}
use mathlib.Core.List.{List, [], ◌∷◌}
use Prim.Native.Nat.{ℕ, zero, suc, ◌+◌, ◌≤◌, ◌<◌, zero-le}
use native.Mathlib.Omega.{arith}
use lib.Dec.{T, leb, leb→le}
use lib.ListN.{length, get_or}
use borrow.Author.Tests.{leb-true, leb-false}
use Rattle.common.specs.Bytes.{Bytes}
use Rattle.common.proofs.Choice.{by_cond}
use Rattle.byte_regex.specs.Regex.{Class, Regex, in_class, nothing, one, many, ◌then◌, ◌or◌, optional, at_start, at_end, word, exact}
use Rattle.byte_regex.specs.Match.{Test, always, repeats, fit}
use Rattle.byte_regex.proofs.MatchLaws.{and_left, and_right, or_cases}
use Rattle.patterns.specs.Patterns.{pattern_count, patterns, pattern}

pub patterns_long : length patterns ≡ pattern_count
unfolding patterns
patterns_long = refl

-- ---- every pattern takes two bytes at least
least : ℕ → ℕ → ℕ
least m n = cond (leb m n) m n

least_left : (m n z : ℕ) → m ≤ z → least m n ≤ z
unfolding least
least_left m n z h = by_cond (λ (k : ℕ). k ≤ z) (leb m n) (λ _. h) (λ e. omega (arith, leb-false m n e))

least_right : (m n z : ℕ) → n ≤ z → least m n ≤ z
unfolding least
least_right m n z h = by_cond (λ (k : ℕ). k ≤ z) (leb m n) (λ e. omega (arith, leb-true m n e)) (λ _. h)

min_length : Regex → ℕ
unfolding least
min_length nothing = 0
min_length (one c) = 1
min_length (many c) = 0
min_length (r then s) = min_length r + min_length s
min_length (r or s) = least (min_length r) (min_length s)
min_length (optional r) = 0
min_length at_start = 0
min_length at_end = 0

abbrev AtLeast : Test → ℕ → Type 0
AtLeast k m = (b : Bool) (t : Bytes) → T (k b t) → m ≤ length t

repeat_least : (c : Class) (k : Test) (m : ℕ) → AtLeast k m → AtLeast (repeats c k) m
repeat_least c k m f b [] p = f b [] p
repeat_least c k m f b (x ∷ t) p =
    elim (or_cases (k b (x ∷ t)) (in_class c x && repeats c k false t) p) [
      | inl q ↦ f b (x ∷ t) q
      | inr q ↦ (let h : m ≤ length t = repeat_least c k m f false t (and_right (in_class c x) (repeats c k false t) q) in omega arith)
    ]

fit_least : (r : Regex) (k : Test) (m : ℕ) → AtLeast k m → AtLeast (fit r k) (min_length r + m)
unfolding fit min_length
fit_least nothing k m f b t p = let h = f b t p in omega arith
fit_least (one c) k m f b [] p = absurd p
fit_least (one c) k m f b (x ∷ t) p = let h = f false t (and_right (in_class c x) (k false t) p) in omega arith
fit_least (many c) k m f b t p = let h = repeat_least c k m f b t p in omega arith
fit_least (r then s) k m f b t p = let h = fit_least r (fit s k) (min_length s + m) (fit_least s k m f) b t p in omega arith
fit_least (r or s) k m f b t p =
    elim (or_cases (fit r k b t) (fit s k b t) p) [
      | inl q ↦ (let h = fit_least r k m f b t q in omega (arith, least_left (min_length r) (min_length s) (min_length r) (omega arith)))
      | inr q ↦ (let h = fit_least s k m f b t q in omega (arith, least_right (min_length r) (min_length s) (min_length s) (omega arith)))
    ]
fit_least (optional r) k m f b t p =
    elim (or_cases (fit r k b t) (k b t) p) [
      | inl q ↦ (let h = fit_least r k m f b t q in omega arith)
      | inr q ↦ (let h = f b t q in omega arith)
    ]
fit_least at_start k m f b t p = let h = f b t (and_right b (k b t) p) in omega arith
fit_least at_end k m f b [] p = let h = f b [] p in omega arith
fit_least at_end k m f b (x ∷ t) p = absurd p

all_two : List Regex → Bool
unfolding min_length least
all_two [] = true
all_two (r ∷ rs) = leb 2 (min_length r) && all_two rs

all_two_law : T (all_two patterns)
unfolding all_two min_length least patterns word exact
all_two_law = tt

two_at : (rs : List Regex) → T (all_two rs) → (p : ℕ) → p < length rs → 2 ≤ min_length (get_or rs p nothing)
unfolding all_two
two_at [] t p h = absurd (omega arith)
two_at (r ∷ rs) t zero h = leb→le 2 (min_length r) (and_left (leb 2 (min_length r)) (all_two rs) t)
two_at (r ∷ rs) t (suc p) h = two_at rs (and_right (leb 2 (min_length r)) (all_two rs) t) p (omega arith)

-- so none begins where fewer are left
pub short_begins : (b : Bool) (t : Bytes) → length t < 2 → (p : ℕ) → p < pattern_count → T (fit (pattern p) always b t) → ⊥
short_begins b t h p l q =
    let m = two_at patterns all_two_law p (omega (arith, patterns_long)) in
    let n = fit_least (pattern p) always 0 (λ c u v. zero-le) b t q in
    omega arith
