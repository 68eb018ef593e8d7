-- The icon rule on the bytes of a text.
use mathlib.Core.Path.{◌≡◌, refl, sym, ap, ◌∙◌}
use mathlib.Core.Bool.{Bool, true, false, ◌&&◌, or-false, and-false, and-true}
use mathlib.Core.List.{[], ◌∷◌}
use Prim.Native.Nat.{ℕ, ◌+◌, ◌*◌, ◌%◌, ◌≤◌, ◌<◌}
use native.Mathlib.Omega.{arith}
use lib.Dec.{leb, eqb}
use lib.ListN.{length, get_or}
use borrow.Author.Tests.{le-leb, lt-leb, leb-true, leb-false, ne_eqb, eqb-true, eqb-false, eq-eqb}
use Rattle.common.specs.Bytes.{Bytes, same}
use Rattle.common.proofs.Choice.{by_test, absurd_test, and_parts, and_both}
use Rattle.common.proofs.Equality.{same_not, same_length}
use Rattle.common.proofs.TestLaws.{or_no, and_no, and_yes}
use Rattle.utf8.specs.Abnf.{%x◌-◌, UTF8_tail}
use Rattle.utf8.specs.Character.{number, is_character}
use Rattle.utf8.specs.Encoding.{encode}
use Rattle.utf8.specs.Valid.{within}
use Rattle.utf8.proofs.CharacterLaws.{Three, Four, no_character, too_long, three_octets, four_octets}
use Rattle.filters.specs.Icon.{is_pilcrow, in_legacy_range, of_three, is_legacy_icon}
use Rattle.filters.specs.Icon.{private_use_area, in_upper_planes, is_icon_character, is_private_icon, is_icon}

-- ---- a number and a range

module _ (low high c : ℕ) where
  pub within_below : c < low → false ≡ within (%x low - high) c
  within_below h = and_no _ (lt-leb low c h)

  pub within_from : low ≤ c → leb c high ≡ within (%x low - high) c
  within_from h = and_yes _ (le-leb low c h) refl

  within_above : high < c → within (%x low - high) c ≡ false
  within_above h = by_test (leb low c) (λ e. rw (e, lt-leb c high h)) (λ e. rw e)

-- ---- icons 0

abbrev pilcrow : Bytes
pilcrow = 0xc2 ∷ 0xb6 ∷ []

three_bytes : (s : Bytes) → length s ≡ 3 → s ≡ get_or s 0 0 ∷ get_or s 1 0 ∷ get_or s 2 0 ∷ []
three_bytes [] h = absurd (omega arith)
three_bytes (a ∷ []) h = absurd (omega arith)
three_bytes (a ∷ b ∷ []) h = absurd (omega arith)
three_bytes (a ∷ b ∷ c ∷ []) h = refl
three_bytes (a ∷ b ∷ c ∷ d ∷ s) h = absurd (omega arith)

not_three_bytes : (test : ℕ → ℕ → ℕ → Bool) (s : Bytes) → (length s ≡ 3 → ⊥) → of_three test s ≡ false
not_three_bytes test [] h = refl
not_three_bytes test (a ∷ []) h = refl
not_three_bytes test (a ∷ b ∷ []) h = refl
not_three_bytes test (a ∷ b ∷ c ∷ []) h = absurd (h refl)
not_three_bytes test (a ∷ b ∷ c ∷ d ∷ s) h = refl

module _ (s : Bytes) where
  legacy_size : is_pilcrow s ≡ false → (length s ≡ 3 → ⊥) → false ≡ is_legacy_icon s
  unfolding is_legacy_icon
  legacy_size e h = or_no _ e (sym (not_three_bytes in_legacy_range s h))

  -- ¶ has two bytes
  pub legacy_three : length s ≡ 3 → {r : Bool} → r ≡ in_legacy_range (get_or s 0 0) (get_or s 1 0) (get_or s 2 0) → r ≡ is_legacy_icon s
  unfolding is_legacy_icon
  legacy_three h q = or_no _ (same_length s pilcrow (λ e. omega (arith, h, e))) (q ∙ sym (ap (of_three in_legacy_range) (three_bytes s h)))

  pub legacy_other : (length s ≡ 3 → ⊥) → is_pilcrow s ≡ is_legacy_icon s
  unfolding is_legacy_icon
  legacy_other h = sym (rw (not_three_bytes in_legacy_range s h) (or-false (is_pilcrow s)))

-- ---- icons 1

module _ (c : ℕ) where
  not_upper : c < 0xF0000 → in_upper_planes c ≡ false
  not_upper h = rw (sym (within_below 0xF0000 0xFFFFD c h), sym (within_below 0x100000 0x10FFFD c (omega arith)))

  -- a character of two octets at most, of three, of four
  icon_below : c < 0xE000 → is_icon_character c ≡ eqb c 0xB6
  unfolding is_icon_character
  icon_below h = rw (sym (within_below 0xE000 0xF8FF c h), not_upper (omega arith))

  icon_basic : 0xB6 < c → c < 0x10000 → is_icon_character c ≡ within private_use_area c
  unfolding is_icon_character
  icon_basic h k = rw (not_upper (omega arith), ne_eqb c 0xB6 (λ e. omega arith)) (or-false (within private_use_area c))

  icon_upper : 0x10000 ≤ c → is_icon_character c ≡ in_upper_planes c
  unfolding is_icon_character
  icon_upper h = rw (within_above 0xE000 0xF8FF c (omega arith), ne_eqb c 0xB6 (λ e. omega arith)) (or-false (in_upper_planes c))

basic_test : (n : ℕ) → n < 0x10000 → within private_use_area n ≡ (leb 0x800 n && is_icon_character n)
basic_test n h =
    by_test (leb 0x800 n) (λ p. rw p (sym (icon_basic n (omega (arith, leb-true 0x800 n p)) h)))
    (λ p. rw p (sym (within_below 0xE000 0xF8FF n (omega (arith, leb-false 0x800 n p)))))

upper_test : (n : ℕ) → in_upper_planes n ≡ (leb 0x10000 n && is_icon_character n)
upper_test n =
    by_test (leb 0x10000 n) (λ p. rw p (sym (icon_upper n (leb-true 0x10000 n p))))
    (λ p. rw p (not_upper n (omega (arith, leb-false 0x10000 n p))))

-- ---- the tests of an octet sequence, joined from the left

pub and_far : {v a : Bool} (b : Bool) → v ≡ a → a ≡ false → v ≡ (a && b)
and_far b p e = p ∙ e ∙ and_no b e

module _ (b c : ℕ) {v w : Bool} (lead x : ℕ) (p : v ≡ (eqb x lead && within UTF8_tail b)) (q : w ≡ (v && within UTF8_tail c)) where
  pub tests_of_three : w ≡ true → (x ≡ lead) × (within UTF8_tail b ≡ true) × (within UTF8_tail c ≡ true)
  tests_of_three t =
      let last = and_parts v _ (sym q ∙ t) in
      let first = and_parts (eqb x lead) _ (sym p ∙ last.0) in
      (eqb-true x lead first.0, first.1, last.1)

  pub not_all_three : w ≡ false → (x ≡ lead) × (within UTF8_tail b ≡ true) × (within UTF8_tail c ≡ true) → ⊥
  not_all_three e f = absurd_test (q ∙ and_both (p ∙ and_both (eq-eqb x lead f.0) f.1) f.2) e

module _ (a b c : ℕ) {n : ℕ} {r : Bool} where
  pub icon_three : Three a b c → n ≡ number (a ∷ b ∷ c ∷ []) → r ≡ within private_use_area n → r ≡ is_private_icon (a ∷ b ∷ c ∷ [])
  icon_three f q e =
      e ∙ ap (within private_use_area) q ∙ basic_test (number (a ∷ b ∷ c ∷ [])) (omega arith) ∙ sym (three_octets is_icon_character a b c f)

  pub icon_four : (d : ℕ) → Four a b c d → n ≡ number (a ∷ b ∷ c ∷ d ∷ []) → r ≡ in_upper_planes n → r ≡ is_private_icon (a ∷ b ∷ c ∷ d ∷ [])
  icon_four d f q e = e ∙ ap in_upper_planes q ∙ upper_test (number (a ∷ b ∷ c ∷ d ∷ [])) ∙ sym (four_octets is_icon_character a b c d f)

-- ---- a text, by its length

four_bytes : (s : Bytes) → length s ≡ 4 → s ≡ get_or s 0 0 ∷ get_or s 1 0 ∷ get_or s 2 0 ∷ get_or s 3 0 ∷ []
four_bytes [] h = absurd (omega arith)
four_bytes (a ∷ s) h = ap (λ (t : Bytes). a ∷ t) (three_bytes s (omega arith))

module _ (s : Bytes) {r : Bool} where
  pub private_three : length s ≡ 3 → r ≡ is_private_icon (get_or s 0 0 ∷ get_or s 1 0 ∷ get_or s 2 0 ∷ []) → r ≡ is_private_icon s
  private_three h e = e ∙ sym (ap is_private_icon (three_bytes s h))

  pub private_four : length s ≡ 4 → r ≡ is_private_icon (get_or s 0 0 ∷ get_or s 1 0 ∷ get_or s 2 0 ∷ get_or s 3 0 ∷ []) → r ≡ is_private_icon s
  private_four h e = e ∙ sym (ap is_private_icon (four_bytes s h))

icon_one : (a : ℕ) → is_pilcrow (a ∷ []) ≡ is_private_icon (a ∷ [])
unfolding is_character
icon_one a =
    let n = a % 128 in
    rw (icon_below n (omega arith), ne_eqb n 0xB6 (λ e. omega arith), same_length (a ∷ []) pilcrow (λ e. omega (arith, e)))
    (sym (and-false (same (a ∷ []) (encode n))))

icon_two : (a b : ℕ) → is_pilcrow (a ∷ b ∷ []) ≡ is_private_icon (a ∷ b ∷ [])
unfolding is_character encode
icon_two a b =
    let s = a ∷ b ∷ [] in
    let n = a % 32 * 64 + b % 64 in
    by_test (eqb n 0xB6)
    (λ e. rw (icon_below n (omega arith), eqb-true n 0xB6 e) (sym (and-true (same s pilcrow))))
    (λ e.
    let other : s ≡ pilcrow → ⊥ =
    λ q. eqb-false n 0xB6 e (omega (arith, ap (λ (t : Bytes). get_or t 0 0) q, ap (λ (t : Bytes). get_or t 1 0) q)) in
    rw (icon_below n (omega arith), e, same_not s pilcrow other) (sym (and-false (same s (encode n)))))

pub too_long_icon : (icons : Bool) (s : Bytes) → 4 < length s → false ≡ is_icon icons s
unfolding is_icon
too_long_icon true s h = sym (too_long is_icon_character s h)
too_long_icon false s h = legacy_size s (same_length s pilcrow (λ e. omega (arith, h, e))) (λ e. omega (arith, h, e))

pub private_other : (s : Bytes) → (length s ≡ 4 → ⊥) → (length s ≡ 3 → ⊥) → is_pilcrow s ≡ is_private_icon s
unfolding same
private_other [] h k = sym (no_character is_icon_character)
private_other (a ∷ []) h k = icon_one a
private_other (a ∷ b ∷ []) h k = icon_two a b
private_other (a ∷ b ∷ c ∷ []) h k = absurd (k refl)
private_other (a ∷ b ∷ c ∷ d ∷ []) h k = absurd (h refl)
private_other (a ∷ b ∷ c ∷ d ∷ e ∷ s) h k =
    let t = a ∷ b ∷ c ∷ d ∷ e ∷ s in
    same_length t pilcrow (λ q. omega (arith, q)) ∙ sym (too_long is_icon_character t (omega arith))
