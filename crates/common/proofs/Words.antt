-- A word taken apart into its bytes, and eight bytes put together.
use mathlib.Core.Path.{◌≡◌, refl, ap}
use mathlib.Core.List.{[], ◌∷◌}
use Prim.Native.Nat.{ℕ, zero, suc, ◌+◌, ◌*◌, ◌/◌, ◌%◌, ◌≤◌, ◌<◌}
use native.Mathlib.Nat.{div-div-eq-div-mul}
use native.Mathlib.Numerals.{towards_suc}
use native.Mathlib.Omega.{arith}
use lib.ListN.{length, set, take, drop, get_or}
use lib.Seq.{sets, drop-cons}
use Rattle.common.specs.Bytes.{Bytes}
use Rattle.common.specs.Word.{word_at, octets}

-- ---- the bytes of a word

pub octets_length : (k w : ℕ) → length (octets k w) ≡ k
unfolding octets
octets_length zero w = refl
octets_length (suc k) w = ap suc (octets_length k (w / 256))

-- those of eight bytes put together
module _ (s : Bytes) (i : ℕ) (small : (k : ℕ) → get_or s k 0 < 256) where
  octets_cons : (k a at next : ℕ) → at < length s → suc at ≡ next → octets k a ≡ take k (drop next s)
      → octets (suc k) (a * 256 + get_or s at 0) ≡ take (suc k) (drop at s)
  unfolding octets
  octets_cons k a at next h e t =
      let l = small at in
      let low : (a * 256 + get_or s at 0) % 256 ≡ get_or s at 0 = omega arith in
      let high : (a * 256 + get_or s at 0) / 256 ≡ a = omega arith in
      rw (low, high, t, drop-cons s at 0 h, e)

  pub octets_word : i + 8 ≤ length s → octets 8 (word_at s i) ≡ take 8 (drop i s)
  unfolding word_at octets
  octets_word h =
      octets_cons 7 _ i (i + 1) (omega arith) (omega arith)
      (octets_cons 6 _ (i + 1) (i + 2) (omega arith) (omega arith)
      (octets_cons 5 _ (i + 2) (i + 3) (omega arith) (omega arith)
      (octets_cons 4 _ (i + 3) (i + 4) (omega arith) (omega arith)
      (octets_cons 3 _ (i + 4) (i + 5) (omega arith) (omega arith)
      (octets_cons 2 _ (i + 5) (i + 6) (omega arith) (omega arith)
      (octets_cons 1 _ (i + 6) (i + 7) (omega arith) (omega arith) last))))))
    where
      last : octets 1 (get_or s (i + 7) 0) ≡ take 1 (drop (i + 7) s)
      last =
          let l = small (i + 7) in
          let low : get_or s (i + 7) 0 % 256 ≡ get_or s (i + 7) 0 = omega arith in
          rw (low, drop-cons s (i + 7) 0 (omega arith))

-- each of them by one division
module _ (w : ℕ) (h : w < 0x10000000000000000) where
  pub octets_are : octets 8 w
      ≡ w % 256 ∷ w / 0x100 % 256 ∷ w / 0x10000 % 256 ∷ w / 0x1000000 % 256
      ∷ w / 0x100000000 % 256 ∷ w / 0x10000000000 % 256 ∷ w / 0x1000000000000 % 256 ∷ w / 0x100000000000000 ∷ []
  unfolding octets
  octets_are =
      let last : w / 0x100000000000000 % 256 ≡ w / 0x100000000000000 = omega arith in
      simp div-div-eq-div-mul (rw last)

  -- stored one after the other
  pub octets_stored : (out : Bytes) (at : ℕ)
      → set (set (set (set (set (set (set (set out at (w % 256)) (at + 1) (w / 0x100 % 256))
      (at + 2) (w / 0x10000 % 256)) (at + 3) (w / 0x1000000 % 256)) (at + 4) (w / 0x100000000 % 256)) (at + 5) (w / 0x10000000000 % 256))
      (at + 6) (w / 0x1000000000000 % 256)) (at + 7) (w / 0x100000000000000)
      ≡ sets out at (octets 8 w)
  octets_stored out at = rw octets_are (simp towards_suc)
