-- Eight octets at once: none has its highest bit set where the word of them has none of those bits.
use mathlib.Core.Path.{◌≡◌, sym, ap, subst, ◌∙◌}
use Prim.Native.Nat.{ℕ, suc, ◌+◌, ◌*◌, ◌/◌, ◌%◌, ◌^◌, ◌<◌}
use native.Mathlib.Omega.{arith}
use lib.Bits.{bit_and, and_block, and_mask}
use lib.Dec.{eqb}
use lib.ListN.{get_or}
use borrow.Author.Tests.{eqb-true, eqb-false}
use Rattle.common.specs.Bytes.{Bytes}
use Rattle.common.specs.Word.{word_at}
use Rattle.common.proofs.Choice.{by_test}
use Rattle.utf8.specs.State.{Ascii}

-- the highest bit of an octet
top_bit : (b : ℕ) → b < 256 → bit_and b 0x80 ≡ 0 → b < 0x80
top_bit b h e =
    let d : b ≡ b / 128 * 2 ^ 7 + b % 128 = omega arith in
    let t : bit_and (b / 128) 1 * 2 ^ 7 + bit_and (b % 128) 0 ≡ 0 = sym (and_block 7 (b / 128) 1 (b % 128) 0 (omega arith) (omega arith)) ∙ ap (λ (x : ℕ). bit_and x 0x80) (sym d) ∙ e in
    let m : bit_and (b / 128) 1 ≡ b / 128 % 2 = and_mask (b / 128) 1 in
    omega arith

-- the last octet of a word, and those before it
last_octet : (a b m : ℕ) → b < 256 → bit_and (a * 256 + b) (m * 256 + 0x80) ≡ 0 → (bit_and a m ≡ 0) × (b < 0x80)
last_octet a b m h e =
    let t : bit_and a m * 2 ^ 8 + bit_and b 0x80 ≡ 0 = sym (and_block 8 a m b 0x80 h (omega arith)) ∙ e in
    (omega arith, top_bit b h (omega arith))

ascii_more : (s : Bytes) (i j q : ℕ) → Ascii s i j → get_or s j 0 < 0x80 → suc j ≡ q → Ascii s i q
ascii_more s i j q a b e k h l =
    by_test (eqb k j) (λ t. subst (λ (x : ℕ). get_or s x 0 < 0x80) (sym (eqb-true k j t)) b) (λ t. a k h (omega (arith, eqb-false k j t)))

module _ (s : Bytes) (octets : (k : ℕ) → get_or s k 0 < 256) where
  pub word_ascii : (i : ℕ) → bit_and (word_at s i) 0x8080808080808080 ≡ 0 → Ascii s i (i + 8)
  unfolding word_at
  word_ascii i e k h l =
      let p0 = last_octet _ (get_or s i 0) 0x80808080808080 (octets i) e in
      let p1 = last_octet _ (get_or s (i + 1) 0) 0x808080808080 (octets (i + 1)) p0.0 in
      let p2 = last_octet _ (get_or s (i + 2) 0) 0x8080808080 (octets (i + 2)) p1.0 in
      let p3 = last_octet _ (get_or s (i + 3) 0) 0x80808080 (octets (i + 3)) p2.0 in
      let p4 = last_octet _ (get_or s (i + 4) 0) 0x808080 (octets (i + 4)) p3.0 in
      let p5 = last_octet _ (get_or s (i + 5) 0) 0x8080 (octets (i + 5)) p4.0 in
      let p6 = last_octet (get_or s (i + 7) 0) (get_or s (i + 6) 0) 0x80 (octets (i + 6)) p5.0 in
      let a1 = ascii_more s i i (i + 1) (λ x y z. absurd (omega arith)) p0.1 (omega arith) in
      let a2 = ascii_more s i (i + 1) (i + 2) a1 p1.1 (omega arith) in
      let a3 = ascii_more s i (i + 2) (i + 3) a2 p2.1 (omega arith) in
      let a4 = ascii_more s i (i + 3) (i + 4) a3 p3.1 (omega arith) in
      let a5 = ascii_more s i (i + 4) (i + 5) a4 p4.1 (omega arith) in
      let a6 = ascii_more s i (i + 5) (i + 6) a5 p5.1 (omega arith) in
      let a7 = ascii_more s i (i + 6) (i + 7) a6 p6.1 (omega arith) in
      ascii_more s i (i + 7) (i + 8) a7 (top_bit (get_or s (i + 7) 0) (octets (i + 7)) p6.0) (omega arith) k h l
