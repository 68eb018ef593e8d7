-- Octets that are one character: an encoding is, two encodings are not, and nothing else is.
use mathlib.Core.Path.{◌≡◌, refl, sym, ap, ◌∙◌}
use mathlib.Core.Bool.{Bool, true, false, ◌&&◌, cond}
use mathlib.Core.List.{List, [], ◌∷◌, ◌++◌}
use Prim.Native.Nat.{ℕ, ◌+◌, ◌*◌, ◌/◌, ◌%◌, ◌≤◌, ◌<◌}
use native.Mathlib.Omega.{arith}
use lib.Dec.{leb}
use lib.ListN.{length, get_or, length-append, get_or-append}
use borrow.Author.Tests.{leb-true, leb-false, le-leb, lt-leb}
use Rattle.common.specs.Bytes.{Bytes, same}
use Rattle.common.proofs.Choice.{by_test, and_parts, and_both}
use Rattle.common.proofs.Equality.{same_refl, same_true, same_of, same_not}
use Rattle.utf8.specs.Abnf.{UTF8_tail}
use Rattle.utf8.specs.Character.{number, is_character, OneCharacter}
use Rattle.utf8.specs.Encoding.{Scalar, tail, encode, encode_all}
use Rattle.utf8.specs.Valid.{within}
use Rattle.utf8.proofs.Encodings.{encode_3, encode_4, by_form}
use Rattle.utf8.proofs.Parts.{within_bounds}

-- the six bits of a tail
tail_bits : (c unit : ℕ) → tail c unit % 64 ≡ c / unit % 64
tail_bits c unit = bits (c / unit)
  where
    bits : (n : ℕ) → (0x80 + n % 64) % 64 ≡ n % 64
    bits n = omega arith

-- a number from its bits, six by six
module _ (c : ℕ) where
  bits_2 : c / 64 * 64 + c / 1 % 64 ≡ c
  bits_2 = omega arith

  bits_3 : c / 4096 * 4096 + c / 64 % 64 * 64 + c / 1 % 64 ≡ c
  bits_3 = omega arith

  bits_4 : c / 262144 * 262144 + c / 4096 % 64 * 4096 + c / 64 % 64 * 64 + c / 1 % 64 ≡ c
  bits_4 = omega arith

number_encode : (c : ℕ) → Scalar c → number (encode c) ≡ c
number_encode c v =
    let most : c ≤ 0x10FFFF = v.most in
    by_form (λ (s : Bytes). number s ≡ c) c
    (λ h. omega arith)
    (λ h k. let f : (0xC0 + c / 64) % 32 ≡ c / 64 = omega arith in rw (f, tail_bits c 1) (bits_2 c))
    (λ h k. let f : (0xE0 + c / 4096) % 16 ≡ c / 4096 = omega arith in rw (f, tail_bits c 64, tail_bits c 1) (bits_3 c))
    (λ h.
    let f : (0xF0 + c / 262144) % 8 ≡ c / 262144 = omega (arith, most) in
    rw (f, tail_bits c 4096, tail_bits c 64, tail_bits c 1) (bits_4 c))

-- how many octets begin with this one
abbrev size : ℕ → ℕ
size a = cond (leb a 0x7F) 1 (cond (leb a 0xDF) 2 (cond (leb a 0xEF) 3 4))

length_encode : (c : ℕ) → length (encode c) ≡ size (get_or (encode c) 0 0)
length_encode c =
    by_form (λ (s : Bytes). length s ≡ size (get_or s 0 0)) c
    (λ h. rw (le-leb c 0x7F h))
    (λ h k. let a = 0xC0 + c / 64 in rw (lt-leb a 0x7F (omega arith), le-leb a 0xDF (omega arith)))
    (λ h k. let a = 0xE0 + c / 4096 in rw (lt-leb a 0x7F (omega arith), lt-leb a 0xDF (omega arith), le-leb a 0xEF (omega arith)))
    (λ h. let a = 0xF0 + c / 262144 in rw (lt-leb a 0x7F (omega arith), lt-leb a 0xDF (omega arith), lt-leb a 0xEF (omega arith)))

module _ (c : ℕ) where
  not_empty : 0 < length (encode c)
  not_empty = by_form (λ (s : Bytes). 0 < length s) c (λ h. omega arith) (λ h k. omega arith) (λ h k. omega arith) (λ h. omega arith)

  at_most_4 : length (encode c) ≤ 4
  at_most_4 = by_form (λ (s : Bytes). length s ≤ 4) c (λ h. omega arith) (λ h k. omega arith) (λ h k. omega arith) (λ h. omega arith)

  below_3 : c < 0x800 → length (encode c) < 3
  below_3 l =
      by_form (λ (s : Bytes). length s < 3) c
      (λ h. omega arith) (λ h k. omega arith) (λ h k. absurd (omega (arith, l))) (λ h. absurd (omega (arith, l)))

  below_4 : c < 0x10000 → length (encode c) < 4
  below_4 l =
      by_form (λ (s : Bytes). length s < 4) c
      (λ h. omega arith) (λ h k. omega arith) (λ h k. omega arith) (λ h. absurd (omega (arith, l)))

-- no encoding begins with a shorter one
not_longer : (c d : ℕ) (s : Bytes) → 0 < length s → encode c ++ s ≡ encode d → ⊥
not_longer c d s h e =
    let first : get_or (encode c) 0 0 ≡ get_or (encode d) 0 0 =
    sym (get_or-append (encode c) s 0 0 (not_empty c)) ∙ ap (λ (t : Bytes). get_or t 0 0) e in
    let long : length (encode d) ≡ length (encode c) = length_encode d ∙ ap size (sym first) ∙ sym (length_encode c) in
    omega (arith, h, length-append (encode c) s, ap length e, long)

module _ (test : ℕ → Bool) where
  pub no_character : is_character test [] ≡ false
  unfolding is_character encode same
  no_character = refl

  pub one_character : (c : ℕ) → Scalar c → is_character test (encode c) ≡ test c
  unfolding is_character
  one_character c v = rw (number_encode c v, same_refl (encode c))

  pub more_characters : (c d : ℕ) (cs : List ℕ) → is_character test (encode_all (c ∷ d ∷ cs)) ≡ false
  unfolding is_character encode_all
  more_characters c d cs =
      let s = encode d ++ encode_all cs in
      let some : 0 < length s = omega (arith, not_empty d, length-append (encode d) (encode_all cs)) in
      rw (same_not (encode c ++ s) (encode (number (encode c ++ s))) (not_longer c (number (encode c ++ s)) s some))

  pub only_character : (s : Bytes) → is_character test s ≡ true → OneCharacter test s
  unfolding is_character
  only_character s e =
      let both = and_parts (same s (encode (number s))) (test (number s)) e in
      record { value = number s; taken = both.1; bytes = same_true s (encode (number s)) both.0 }

-- ---- three and four octets by their own bits

tail_within : (c unit : ℕ) → within UTF8_tail (tail c unit) ≡ true
tail_within c unit = and_both (le-leb 0x80 (tail c unit) (omega arith)) (le-leb (tail c unit) 0xBF (omega arith))

-- a tail by its six bits
tail_is : (b n : ℕ) → within UTF8_tail b ≡ true → n ≡ b % 64 → b ≡ 0x80 + n
tail_is b n w e =
    let both = within_bounds UTF8_tail b w in
    omega (arith, both.0, both.1, e)

tail_at : (k : ℕ) {s t : Bytes} → s ≡ t → within UTF8_tail (get_or t k 0) ≡ true → within UTF8_tail (get_or s k 0) ≡ true
tail_at k e w = ap (λ (t : Bytes). within UTF8_tail (get_or t k 0)) e ∙ w

module _ (a b c : ℕ) where
  -- 1110xxxx 10xxxxxx 10xxxxxx
  abbrev pub Three : Type 0
  Three = (a / 16 ≡ 0b1110) × (within UTF8_tail b ≡ true) × (within UTF8_tail c ≡ true)

  three_form : (n : ℕ) → a ∷ b ∷ c ∷ [] ≡ encode n → Three
  three_form n =
      by_form (λ (s : Bytes). a ∷ b ∷ c ∷ [] ≡ s → Three) n
      (λ h e. absurd (omega (arith, ap length e)))
      (λ h k e. absurd (omega (arith, ap length e)))
      (λ h k e. (omega (arith, ap (λ (s : Bytes). get_or s 0 0) e), tail_at 1 e (tail_within n 64), tail_at 2 e (tail_within n 1)))
      (λ h e. absurd (omega (arith, ap length e)))

  three_bits : Three → 0x7FF < number (a ∷ b ∷ c ∷ []) → a ∷ b ∷ c ∷ [] ≡ encode (number (a ∷ b ∷ c ∷ []))
  three_bits f h =
      let n = a % 16 * 4096 + b % 64 * 64 + c % 64 in
      let x : a ≡ 0xE0 + n / 4096 = omega (arith, f.0) in
      let y : b ≡ tail n 64 = tail_is b (n / 64 % 64) f.1 (omega arith) in
      let z : c ≡ tail n 1 = tail_is c (n / 1 % 64) f.2 (omega arith) in
      (λ i. x i ∷ y i ∷ z i ∷ []) ∙ sym (encode_3 n h (omega arith))

  module _ (d : ℕ) where
    -- 11110xxx 10xxxxxx 10xxxxxx 10xxxxxx
    abbrev pub Four : Type 0
    Four = (a / 8 ≡ 0b11110) × (within UTF8_tail b ≡ true) × (within UTF8_tail c ≡ true) × (within UTF8_tail d ≡ true)

    four_form : (n : ℕ) → n < 0x200000 → a ∷ b ∷ c ∷ d ∷ [] ≡ encode n → Four
    four_form n m =
        by_form (λ (s : Bytes). a ∷ b ∷ c ∷ d ∷ [] ≡ s → Four) n
        (λ h e. absurd (omega (arith, ap length e)))
        (λ h k e. absurd (omega (arith, ap length e)))
        (λ h k e. absurd (omega (arith, ap length e)))
        (λ h e. (
          omega (arith, m, ap (λ (s : Bytes). get_or s 0 0) e),
          tail_at 1 e (tail_within n 4096),
          tail_at 2 e (tail_within n 64),
          tail_at 3 e (tail_within n 1),
        ))

    four_bits : Four → 0xFFFF < number (a ∷ b ∷ c ∷ d ∷ []) → a ∷ b ∷ c ∷ d ∷ [] ≡ encode (number (a ∷ b ∷ c ∷ d ∷ []))
    four_bits f h =
        let n = a % 8 * 262144 + b % 64 * 4096 + c % 64 * 64 + d % 64 in
        let w : a ≡ 0xF0 + n / 262144 = omega (arith, f.0) in
        let x : b ≡ tail n 4096 = tail_is b (n / 4096 % 64) f.1 (omega arith) in
        let y : c ≡ tail n 64 = tail_is c (n / 64 % 64) f.2 (omega arith) in
        let z : d ≡ tail n 1 = tail_is d (n / 1 % 64) f.3 (omega arith) in
        (λ i. w i ∷ x i ∷ y i ∷ z i ∷ []) ∙ sym (encode_4 n h)

module _ (test : ℕ → Bool) where
  not_encoding : (s : Bytes) → (s ≡ encode (number s) → ⊥) → is_character test s ≡ false
  unfolding is_character
  not_encoding s h = rw (same_not s (encode (number s)) h)

  of_encoding : (s : Bytes) → s ≡ encode (number s) → is_character test s ≡ test (number s)
  unfolding is_character
  of_encoding s e = rw (same_of s (encode (number s)) e)

  -- more octets than the number takes
  overlong : (s : Bytes) → length (encode (number s)) < length s → is_character test s ≡ false
  overlong s h = not_encoding s (λ e. omega (arith, h, ap length e))

  pub too_long : (s : Bytes) → 4 < length s → is_character test s ≡ false
  too_long s h = overlong s (omega (arith, h, at_most_4 (number s)))

  module _ (a b c : ℕ) where
    pub not_three : (Three a b c → ⊥) → is_character test (a ∷ b ∷ c ∷ []) ≡ false
    not_three h = not_encoding (a ∷ b ∷ c ∷ []) (λ e. h (three_form a b c (number (a ∷ b ∷ c ∷ [])) e))

    pub three_octets : Three a b c
        → is_character test (a ∷ b ∷ c ∷ []) ≡ (leb 0x800 (number (a ∷ b ∷ c ∷ [])) && test (number (a ∷ b ∷ c ∷ [])))
    three_octets f =
        let s = a ∷ b ∷ c ∷ [] in
        by_test (leb 0x800 (number s))
        (λ e. rw e (of_encoding s (three_bits a b c f (leb-true 0x800 (number s) e))))
        (λ e. rw e (overlong s (below_3 (number s) (leb-false 0x800 (number s) e))))

    module _ (d : ℕ) where
      pub not_four : (Four a b c d → ⊥) → is_character test (a ∷ b ∷ c ∷ d ∷ []) ≡ false
      not_four h = let s = a ∷ b ∷ c ∷ d ∷ [] in not_encoding s (λ e. h (four_form a b c d (number s) (omega arith) e))

      pub four_octets : Four a b c d
          → is_character test (a ∷ b ∷ c ∷ d ∷ []) ≡ (leb 0x10000 (number (a ∷ b ∷ c ∷ d ∷ [])) && test (number (a ∷ b ∷ c ∷ d ∷ [])))
      four_octets f =
          let s = a ∷ b ∷ c ∷ d ∷ [] in
          by_test (leb 0x10000 (number s))
          (λ e. rw e (of_encoding s (four_bits a b c d f (leb-true 0x10000 (number s) e))))
          (λ e. rw e (overlong s (below_4 (number s) (leb-false 0x10000 (number s) e))))
