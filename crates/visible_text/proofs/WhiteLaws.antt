-- `trim_start`: which bytes are of White_Space, what one step takes away, and over RFC 3629's encodings the characters of White_Space that
-- stand in front.
use mathlib.Core.Path.{◌≡◌, refl, ap, ap₂, ◌∙◌}
use mathlib.Core.Bool.{Bool, true, false, ◌&&◌, ◌||◌, cond}
use mathlib.Core.List.{List, [], ◌∷◌, ◌++◌}
use Prim.Native.Nat.{ℕ, zero, suc, ◌+◌, ◌*◌, ◌/◌, ◌%◌, ◌≤◌, ◌<◌}
use native.Mathlib.Omega.{arith}
use lib.Dec.{eqb, leb}
use lib.ListN.{length, drop}
use lib.Seq.{drop-append_seam}
use borrow.Author.Tests.{leb-true, ne_eqb}
use Rattle.common.specs.Bytes.{Bytes}
use Rattle.common.proofs.Choice.{by_test, and_parts, leb_same}
use Rattle.common.proofs.TestLaws.{or_cases}
use Rattle.text.specs.Text.{trim_start_by}
use Rattle.utf8.specs.Encoding.{Scalar, Scalars, tail, encode, encode_all}
use Rattle.utf8.proofs.Encodings.{by_form}
use Rattle.visible_text.specs.WhiteSpace.{is_white1, is_white2, is_white3, is_white_space}
use Rattle.visible_text.specs.WhiteSpace.{white_code3, white_two, white_three, white_third, white_second, white_length}
use Rattle.visible_text.specs.WhiteSpace.{trim_from, trim_start, TrimsWhiteSpace}
use Rattle.visible_text.proofs.BlankLaws.{eqb_same, is_at}

-- ---- one step of the trim

trim_skip : (k : ℕ) (s : Bytes) → trim_from k s ≡ trim_from 0 (drop k s)
unfolding trim_from
trim_skip zero s = refl
trim_skip (suc k) [] = refl
trim_skip (suc k) (c ∷ s) = trim_skip k s

pub trim_none : (s : Bytes) → white_length s ≡ 0 → trim_start s ≡ s
unfolding trim_from
trim_none [] e = refl
trim_none (c ∷ s) e = rw (e, trim_from)

pub trim_step : (s : Bytes) (n : ℕ) → white_length s ≡ n → trim_start s ≡ trim_start (drop n s)
unfolding trim_from
trim_step s zero e = refl
trim_step [] (suc k) e = refl
trim_step (c ∷ s) (suc k) e = rw (e, trim_from) (trim_skip k s)

-- ---- tests joined by or

between : (lo n hi : ℕ) → (leb lo n && leb n hi) ≡ true → (lo ≤ n) × (n ≤ hi)
between lo n hi e = let p = and_parts (leb lo n) (leb n hi) e in (leb-true lo n p.0, leb-true n hi p.1)

pub not_between : (lo n hi : ℕ) → (lo ≤ n → n ≤ hi → ⊥) → (leb lo n && leb n hi) ≡ false
not_between lo n hi h = by_test (leb lo n && leb n hi) (λ e. let p = between lo n hi e in absurd (h p.0 p.1)) (λ e. e)

-- what holds of each number that passes
module _ (P : ℕ → Type 0) (n : ℕ) where
  or_at : (v : ℕ) {t : Bool} → P v → (t ≡ true → P n) → (eqb n v || t) ≡ true → P n
  or_at v {t} p = or_cases (eqb n v) t (is_at P n v p)

  or_between : (lo hi : ℕ) {t : Bool} → (lo ≤ n → n ≤ hi → P n) → (t ≡ true → P n) → ((leb lo n && leb n hi) || t) ≡ true → P n
  or_between lo hi {t} p = or_cases (leb lo n && leb n hi) t (λ e. let q = between lo n hi e in p q.0 q.1)

-- ---- bytes that are none of White_Space

-- all are below 256
abbrev pub Small : Bytes → Type 0
Small [] = Unit {0}
Small (b ∷ s) = (b < 256) × Small s

pub not_two : (a b : ℕ) → (256 * a + b ≡ 0xC285 → ⊥) → (256 * a + b ≡ 0xC2A0 → ⊥) → white_two a b ≡ false
unfolding white_two
not_two a b h k = rw (ne_eqb (256 * a + b) 0xC285 h, ne_eqb (256 * a + b) 0xC2A0 k)

-- the codes of three bytes lie between the first and the last of them, and have no second or third byte below 80
abbrev Code : ℕ → Type 0
Code n = (0xE19A80 ≤ n) × (n ≤ 0xE38080) × (0x80 ≤ n / 256 % 256) × (0x80 ≤ n % 256)

code_is : (n : ℕ) → white_code3 n ≡ true → Code n
code_is n =
    or_at Code n 0xE19A80 (omega arith)
    (or_between Code n 0xE28080 0xE2808A (λ h k. omega arith)
    (or_at Code n 0xE280A8 (omega arith)
    (or_at Code n 0xE280A9 (omega arith)
    (or_at Code n 0xE280AF (omega arith)
    (or_at Code n 0xE2819F (omega arith) (is_at Code n 0xE38080 (omega arith)))))))

not_three : (a b c : ℕ) → (Code (65536 * a + 256 * b + c) → ⊥) → white_three a b c ≡ false
unfolding white_three
not_three a b c h = by_test (white_three a b c) (λ e. absurd (h (code_is (65536 * a + 256 * b + c) e))) (λ e. e)

no_third : (a b : ℕ) (s : Bytes) → ((c : ℕ) → c < 256 → white_three a b c ≡ false) → Small s → white_third a b s ≡ 0
no_third a b [] h k = refl
no_third a b (c ∷ s) h k = rw (h c k.0)

-- a first byte of a character of one byte, or of two
low_two : (a b : ℕ) → a < 0xC2 → b < 256 → white_two a b ≡ false
low_two a b h k = not_two a b (λ e. omega arith) (λ e. omega arith)

low_three : (a b c : ℕ) → a < 0xE0 → b < 256 → c < 256 → white_three a b c ≡ false
low_three a b c h k m = not_three a b c (λ p. omega (arith, p.0))

low_second : (a : ℕ) (s : Bytes) → a < 0xC2 → Small s → white_second a s ≡ 0
low_second a [] h k = refl
low_second a (b ∷ s) h k = rw (low_two a b h k.0) (no_third a b s (λ c. low_three a b c (omega arith) k.0) k.1)

-- of three, or of four
high_two : (a b : ℕ) → 0xC3 ≤ a → white_two a b ≡ false
high_two a b h = not_two a b (λ e. omega arith) (λ e. omega arith)

high_three : (a b c : ℕ) → 0xE4 ≤ a → white_three a b c ≡ false
high_three a b c h = not_three a b c (λ p. omega (arith, p.1))

-- a byte below 80 is no second and no third of White_Space
pub ascii_second : (a b : ℕ) (s : Bytes) → b < 0x80 → Small s → white_second a (b ∷ s) ≡ 0
ascii_second a b s h k = rw two (no_third a b s (λ c l. not_three a b c (λ p. omega (arith, p.2))) k)
  where
    two : white_two a b ≡ false
    two = not_two a b (λ e. omega arith) (λ e. omega arith)

pub ascii_third : (a b c : ℕ) → c < 0x80 → white_three a b c ≡ false
ascii_third a b c h = not_three a b c (λ p. omega (arith, p.3))

-- ---- code points and their bytes

not_white1 : (c : ℕ) → 0x20 < c → is_white1 c ≡ false
not_white1 c h = rw (not_between 9 c 13 (λ l m. omega arith), ne_eqb c 0x20 (omega arith))

not_white2 : (c : ℕ) → (0x85 ≤ c → c ≤ 0xA0 → ⊥) → is_white2 c ≡ false
not_white2 c h = rw (ne_eqb c 0x85 (λ e. h (omega arith) (omega arith)), ne_eqb c 0xA0 (λ e. h (omega arith) (omega arith)))

abbrev Point : ℕ → Type 0
Point c = (0x1680 ≤ c) × (c ≤ 0x3000)

point_is : (c : ℕ) → is_white3 c ≡ true → Point c
point_is c =
    or_at Point c 0x1680 (omega arith)
    (or_between Point c 0x2000 0x200A (λ h k. omega arith)
    (or_at Point c 0x2028 (omega arith)
    (or_at Point c 0x2029 (omega arith)
    (or_at Point c 0x202F (omega arith)
    (or_at Point c 0x205F (omega arith) (is_at Point c 0x3000 (omega arith)))))))

not_white3 : (c : ℕ) → (0x1680 ≤ c → c ≤ 0x3000 → ⊥) → is_white3 c ≡ false
not_white3 c h = by_test (is_white3 c) (λ e. let p = point_is c e in absurd (h p.0 p.1)) (λ e. e)

two_is : (c : ℕ) → 0x7F < c → c ≤ 0x7FF → white_two (0xC0 + c / 64) (tail c 1) ≡ is_white2 c
unfolding white_two
two_is c h k =
    let n = 256 * (0xC0 + c / 64) + tail c 1 in
    ap₂ ◌||◌
    (eqb_same n 0xC285 c 0x85 (λ e. omega arith) (λ e. omega arith))
    (eqb_same n 0xC2A0 c 0xA0 (λ e. omega arith) (λ e. omega arith))

abbrev code : ℕ → ℕ
code c = 65536 * (0xE0 + c / 4096) + 256 * tail c 64 + tail c 1

-- a character number by the bits of its bytes
bits : (c : ℕ) → c ≡ 4096 * (c / 4096) + 64 * (c / 64 % 64) + c / 1 % 64
bits c = omega arith

same_bits : (q r t a b d : ℕ) → r < 64 → t < 64 → b < 64 → d < 64 → 65536 * q + 256 * r + t ≡ 65536 * a + 256 * b + d
    → 4096 * q + 64 * r + t ≡ 4096 * a + 64 * b + d
same_bits q r t a b d r< t< b< d< e =
    let qa : q ≡ a = omega arith in
    let rb : r ≡ b = omega arith in
    omega arith

same_code : (c a b d : ℕ) → b < 64 → d < 64
    → eqb (code c) (65536 * (0xE0 + a) + 256 * (0x80 + b) + (0x80 + d)) ≡ eqb c (4096 * a + 64 * b + d)
same_code c a b d b< d< =
    eqb_same (code c) _ c _
    (λ e. bits c ∙ same_bits (c / 4096) (c / 64 % 64) (c / 1 % 64) a b d (omega arith) (omega arith) b< d< (omega arith))
    (λ e. omega arith)

three_is : (c : ℕ) → 0x7FF < c → c ≤ 0xFFFF → white_three (0xE0 + c / 4096) (tail c 64) (tail c 1) ≡ is_white3 c
unfolding white_three
three_is c h k =
    let low = leb_same 0xE28080 (code c) 0x2000 c (λ p. omega arith) (λ p. omega arith) in
    let high = leb_same (code c) 0xE2808A c 0x200A (λ p. omega arith) (λ p. omega arith) in
    ap₂ ◌||◌ (same_code c 1 26 0 (omega arith) (omega arith))
    (ap₂ ◌||◌ (ap₂ ◌&&◌ low high)
    (ap₂ ◌||◌ (same_code c 2 0 40 (omega arith) (omega arith))
    (ap₂ ◌||◌ (same_code c 2 0 41 (omega arith) (omega arith))
    (ap₂ ◌||◌ (same_code c 2 0 47 (omega arith) (omega arith))
    (ap₂ ◌||◌ (same_code c 2 1 31 (omega arith) (omega arith)) (same_code c 3 0 0 (omega arith) (omega arith)))))))

-- ---- characters

-- an encoding has the length of White_Space in front where its character is of White_Space
module _ (c : ℕ) (s : Bytes) (small : Small s) where
  abbrev White : Bytes → Type 0
  White e = white_length (e ++ s) ≡ cond (is_white_space c) (length e) 0

  white_1 : c ≤ 0x7F → White (c ∷ [])
  unfolding is_white_space white_length
  white_1 h =
      rw (not_white2 c (λ l m. omega arith), not_white3 c (λ l m. omega arith), low_second c s (omega arith) small)
      (by_test (is_white1 c) (λ w. rw w) (λ w. rw w))

  white_2 : 0x7F < c → c ≤ 0x7FF → White ((0xC0 + c / 64) ∷ tail c 1 ∷ [])
  unfolding is_white_space white_length
  white_2 h k =
      let a = 0xC0 + c / 64 in
      let last = no_third a (tail c 1) s (λ d. low_three a (tail c 1) d (omega arith) (omega arith)) small in
      rw (not_white1 a (omega arith), two_is c h k, last, not_white1 c (omega arith), not_white3 c (λ l m. omega arith))
      (by_test (is_white2 c) (λ w. rw w) (λ w. rw w))

  white_3 : 0x7FF < c → c ≤ 0xFFFF → White ((0xE0 + c / 4096) ∷ tail c 64 ∷ tail c 1 ∷ [])
  unfolding is_white_space white_length
  white_3 h k =
      let a = 0xE0 + c / 4096 in
      let front = not_white1 a (omega arith) in
      let two = high_two a (tail c 64) (omega arith) in
      rw (front, two, three_is c h k, not_white1 c (omega arith), not_white2 c (λ l m. omega arith))

  white_4 : 0xFFFF < c → White ((0xF0 + c / 262144) ∷ tail c 4096 ∷ tail c 64 ∷ tail c 1 ∷ [])
  unfolding is_white_space white_length
  white_4 h =
      let a = 0xF0 + c / 262144 in
      let front = not_white1 a (omega arith) in
      let two = high_two a (tail c 4096) (omega arith) in
      let three = high_three a (tail c 4096) (tail c 64) (omega arith) in
      rw (front, two, three, not_white1 c (omega arith), not_white2 c (λ l m. omega arith), not_white3 c (λ l m. omega arith))

  white_encode : White (encode c)
  white_encode = by_form White c white_1 white_2 white_3 white_4

small_append : (s t : Bytes) → Small s → Small t → Small (s ++ t)
small_append [] t a b = b
small_append (x ∷ s) t a b = (a.0, small_append s t a.1 b)

small_encode : (c : ℕ) → Scalar c → Small (encode c)
small_encode c v =
    let most : c ≤ 0x10FFFF = v.most in
    by_form Small c
    (λ h. (omega arith, tt))
    (λ h k. (omega arith, (omega arith, tt)))
    (λ h k. (omega arith, (omega arith, (omega arith, tt))))
    (λ h. (omega arith, (omega arith, (omega arith, (omega arith, tt)))))

small_all : (cs : List ℕ) → Scalars cs → Small (encode_all cs)
unfolding encode_all
small_all [] h = tt
small_all (c ∷ cs) h = small_append (encode c) (encode_all cs) (small_encode c h.0) (small_all cs h.1)

pub trims_white_space : TrimsWhiteSpace
unfolding encode_all trim_from trim_start_by
trims_white_space [] h = refl
trims_white_space (c ∷ cs) h =
    let s = encode_all cs in
    let ih = trims_white_space cs h.1 in
    let many = white_encode c s (small_all cs h.1) in
    by_test (is_white_space c)
    (λ w. rw w (trim_step (encode c ++ s) (length (encode c)) (many ∙ rw w) ∙ ap trim_start (drop-append_seam (encode c) s) ∙ ih))
    (λ w. rw w (trim_none (encode c ++ s) (many ∙ rw w)))
