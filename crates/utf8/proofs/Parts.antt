-- A part of UTF-8 is UTF-8 where it begins and ends between two characters.
use mathlib.Core.Path.{◌≡◌, refl, sym, ◌∙◌}
use mathlib.Core.Bool.{true, false}
use mathlib.Core.List.{List, [], ◌∷◌}
use Prim.Native.Nat.{ℕ, zero, suc, ◌+◌, ◌≤◌}
use native.Mathlib.Nat.{add-zero}
use native.Mathlib.Omega.{arith}
use lib.Dec.{leb}
use lib.ListN.{take, drop}
use lib.Seq.{get_or-drop}
use borrow.Author.Tests.{leb-true, le-leb, not-false}
use Rattle.common.specs.Bytes.{Bytes}
use Rattle.common.proofs.Choice.{by_cond, by_test, absurd_test, and_parts, and_both}
use Rattle.utf8.specs.Abnf.{Range, UTF8_tail, UTF8_char}
use Rattle.utf8.specs.Valid.{within, never, follow, expect, valid, between}
use Rattle.utf8.proofs.Following.{follows}

-- ---- behind a first octet come tails

pub within_bounds : (r : Range) (x : ℕ) → within r x ≡ true → (r.low ≤ x) × (x ≤ r.high)
within_bounds r x w = let p = and_parts (leb r.low x) (leb x r.high) w in (leb-true r.low x p.0, leb-true x r.high p.1)

-- no octets but tails are of these ranges
abbrev Tails : List Range → Type 0
Tails [] = Unit {0}
Tails (r ∷ rs) = (r.low ≤ r.high → (0x80 ≤ r.low) × (r.high ≤ 0xBF)) × Tails rs

-- no others are behind the first of an alternative
abbrev TailsBehind : List (List Range) → Type 0
TailsBehind [] = Unit {0}
TailsBehind ([] ∷ others) = TailsBehind others
TailsBehind ((r ∷ rs) ∷ others) = Tails rs × TailsBehind others

follow_tails : (alternatives : List (List Range)) (x : ℕ) → TailsBehind alternatives → Tails (follow alternatives x)
follow_tails [] x h = (λ l. absurd (omega arith), tt)
follow_tails ([] ∷ others) x h = follow_tails others x h
follow_tails ((r ∷ rs) ∷ others) x h = by_cond Tails (within r x) (λ e. h.0) (λ e. follow_tails others x h.1)

tails_behind : TailsBehind UTF8_char
tails_behind = search arith

is_tail : (r : Range) (rs : List Range) (x : ℕ) → Tails (r ∷ rs) → within r x ≡ true → within UTF8_tail x ≡ true
is_tail r rs x h w =
    let b = within_bounds r x w in
    let t = h.0 (omega arith) in
    and_both (le-leb 0x80 x (omega arith)) (le-leb x 0xBF (omega arith))

never_within : (x : ℕ) → within never x ≡ false
never_within x = by_test (within never x) (λ w. let b = within_bounds never x w in absurd (omega arith)) (λ w. w)

-- no character begins with a tail
tail_first : (x : ℕ) (s : Bytes) → within UTF8_tail x ≡ true → expect [] (x ∷ s) ≡ false
unfolding expect
tail_first x s w = let b = within_bounds UTF8_tail x w in rw (sym (follows 0x80 0x40 (never ∷ []) refl x (omega arith) (omega arith)), expect) (none s)
  where
    none : (t : Bytes) → expect (never ∷ []) t ≡ false
    none [] = refl
    none (y ∷ t) = rw (never_within y)

-- ---- where a character ends

-- nothing more is expected exactly where no tail is next
expect_next : (rs : List Range) (s : Bytes) → Tails rs → expect rs s ≡ true → expect rs [] ≡ between s 0
unfolding expect
expect_next [] [] h e = refl
expect_next [] (x ∷ s) h e = by_test (within UTF8_tail x) (λ w. absurd_test e (tail_first x s w)) (λ w. rw w)
expect_next (r ∷ rs) [] h e = absurd_test e refl
expect_next (r ∷ rs) (x ∷ s) h e = rw (is_tail r rs x h (and_parts (within r x) (expect rs s) e).0)

-- what is cut off at a place is whole exactly between two characters
expect_take : (rs : List Range) (s : Bytes) (n : ℕ) → Tails rs → expect rs s ≡ true → expect rs (take n s) ≡ between s n
unfolding expect
expect_take rs s zero h e = expect_next rs s h e
expect_take rs [] (suc n) h e = e
expect_take [] (x ∷ s) (suc n) h e = expect_take (follow UTF8_char x) s n (follow_tails UTF8_char x tails_behind) e
expect_take (r ∷ rs) (x ∷ s) (suc n) h e = let p = and_parts (within r x) (expect rs s) e in rw p.0 (expect_take rs s n h.1 p.1)

-- from a place between two characters on there are characters
expect_drop : (rs : List Range) (s : Bytes) (n : ℕ) → Tails rs → expect rs s ≡ true → between s n ≡ true → expect [] (drop n s) ≡ true
unfolding expect
expect_drop [] s zero h e b = e
expect_drop (r ∷ rs) s zero h e b = absurd_test b (sym (expect_next (r ∷ rs) s h e))
expect_drop rs [] (suc n) h e b = refl
expect_drop [] (x ∷ s) (suc n) h e b = expect_drop (follow UTF8_char x) s n (follow_tails UTF8_char x tails_behind) e b
expect_drop (r ∷ rs) (x ∷ s) (suc n) h e b = expect_drop rs s n h.1 (and_parts (within r x) (expect rs s) e).1 b

-- ---- a part

-- some octets of which the first is a tail
tail_begins : (t : Bytes) (len : ℕ) → (len ≡ 0 → ⊥) → between t 0 ≡ false → expect [] (take len t) ≡ false
tail_begins t zero some b = absurd (some refl)
tail_begins [] (suc n) some b = absurd_test refl b
tail_begins (x ∷ t) (suc n) some b = tail_first x (take n t) (not-false _ b)

module _ (s : Bytes) (at len : ℕ) where
  pub part_none : len ≡ 0 → valid (take len (drop at s)) ≡ true
  unfolding valid expect
  part_none z = rw z

  between_drop : (n : ℕ) → between (drop at s) n ≡ between s (at + n)
  between_drop n = rw get_or-drop

  pub part_cut : (len ≡ 0 → ⊥) → between s at ≡ false → valid (take len (drop at s)) ≡ false
  unfolding valid
  part_cut some b = tail_begins (drop at s) len some (between_drop 0 ∙ rw add-zero b)

  pub part_whole : valid s ≡ true → between s at ≡ true → valid (take len (drop at s)) ≡ between s (at + len)
  unfolding valid
  part_whole v b = expect_take [] (drop at s) len tt (expect_drop [] s at tt v b) ∙ between_drop len
