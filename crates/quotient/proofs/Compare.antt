-- Comparisons: of two pairs of numbers that go the same way, and of two floats by their values in one unit.
use mathlib.Core.Path.{◌≡◌, refl, sym}
use mathlib.Core.Logic.{◌⊎◌, inl, inr}
use mathlib.Core.Bool.{Bool, true, false, not, ◌&&◌, ◌||◌, true≢false}
use Prim.Native.Nat.{ℕ, ◌*◌, ◌≤◌, ◌<◌}
use native.Mathlib.Nat.{le_of_eq, le_of_lt, not-le_of_lt, mul-le-mul_right, le_of_mul-le-mul_right}
use lib.Dec.{T, ltb, eqb, ltb→lt, nltb→le, eqb→eq}
use lib.Ieee.{Float, nan, inf, fin, up, down, lt, le}
use lib.Ieee.Fits.{down_pos, and_l}
use lib.Ieee.Exact.{HasValue}
use lib.Ieee.Order.{transfer}

-- ---- numbers
pub lt_or_le : (a b : ℕ) → (a < b) ⊎ (b ≤ a)
lt_or_le a b = go (ltb a b) (ltb→lt a b) (nltb→le a b)
  where
    go : (t : Bool) → (T t → a < b) → (T (not t) → b ≤ a) → (a < b) ⊎ (b ≤ a)
    go true h k = inl (h tt)
    go false h k = inr (k tt)

pub le_of_not_lt : (a b : ℕ) → (a < b → ⊥) → b ≤ a
le_of_not_lt a b h = elim (lt_or_le a b) [ inl l ↦ absurd (h l) | inr g ↦ g ]

-- two tests that fail together agree
pub ltb_same : (p q a b : ℕ) → (q ≤ p → b ≤ a) → (b ≤ a → q ≤ p) → ltb p q ≡ ltb a b
ltb_same p q a b f g = go (ltb p q) (ltb a b) (ltb→lt p q) (nltb→le p q) (ltb→lt a b) (nltb→le a b)
  where
    go : (x y : Bool) → (T x → p < q) → (T (not x) → q ≤ p) → (T y → a < b) → (T (not y) → b ≤ a) → x ≡ y
    go true true h i j k = refl
    go true false h i j k = absurd (not-le_of_lt (h tt) (g (k tt)))
    go false true h i j k = absurd (not-le_of_lt (j tt) (f (i tt)))
    go false false h i j k = refl

-- ---- floats with the values a / u and b / u
pub lt_of_values : (x y : Float) (a b u : ℕ) → 0 < u → HasValue x false a u → HasValue y false b u → lt x y ≡ ltb a b
unfolding lt
lt_of_values nan y a b u h p q = absurd p
lt_of_values (inf s) y a b u h p q = absurd p
lt_of_values (fin true m e) y a b u h p q = absurd (true≢false p.0)
lt_of_values (fin false m e) nan a b u h p q = absurd q
lt_of_values (fin false m e) (inf t) a b u h p q = absurd q
lt_of_values (fin false m e) (fin true n d) a b u h p q = absurd (true≢false q.0)
lt_of_values (fin false m e) (fin false n d) a b u h p q =
    ltb_same (m * up e * down d) (n * up d * down e) a b
    (λ (l : n * up d * down e ≤ m * up e * down d). le_of_mul-le-mul_right (transfer b a u u (n * up d) (m * up e) (down d) (down e) (down_pos d) (down_pos e) (sym q.1) (sym p.1) l) h)
    (λ (l : b ≤ a). transfer (n * up d) (m * up e) (down d) (down e) b a u u h h q.1 p.1 (mul-le-mul_right u l))

-- `le` on two finite floats of the same sign, in numbers
le_of_test : (a b : ℕ) → T (ltb a b || (eqb a b && true)) → a ≤ b
le_of_test a b t = go (ltb a b) (ltb→lt a b) t
  where
    go : (x : Bool) → (T x → a < b) → T (x || (eqb a b && true)) → a ≤ b
    go true h u = le_of_lt (h tt)
    go false h u = le_of_eq (eqb→eq a b (and_l (eqb a b) true u))

pub values_le : (x y : Float) (a b u : ℕ) → 0 < u → HasValue x false a u → HasValue y false b u → T (le x y) → a ≤ b
unfolding le
values_le nan y a b u h p q t = absurd p
values_le (inf s) y a b u h p q t = absurd p
values_le (fin true m e) y a b u h p q t = absurd (true≢false p.0)
values_le (fin false m e) nan a b u h p q t = absurd q
values_le (fin false m e) (inf s) a b u h p q t = absurd q
values_le (fin false m e) (fin true n d) a b u h p q t = absurd (true≢false q.0)
values_le (fin false m e) (fin false n d) a b u h p q t =
    le_of_mul-le-mul_right (transfer a b u u (m * up e) (n * up d) (down e) (down d) (down_pos e) (down_pos d) (sym p.1) (sym q.1) (le_of_test (m * up e * down d) (n * up d * down e) t)) h
