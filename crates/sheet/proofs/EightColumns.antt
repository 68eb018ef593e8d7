-- Eight columns by the word of them.
use Rattle.std.specs.Prelude.{Some, None}
use mathlib.Core.Path.{◌≡◌, refl, sym, ap, ◌∙◌}
use mathlib.Core.List.{[], ◌∷◌}
use Prim.Native.Nat.{ℕ, suc, ◌+◌, ◌-◌, ◌*◌, ◌/◌, ◌%◌, ◌≤◌, ◌<◌}
use native.Mathlib.Omega.{arith}
use lib.Dec.{eqb}
use lib.ListN.{length, get_or, take, drop}
use lib.Seq.{drop-cons}
use borrow.Author.Tests.{le-ltb, lt-ltb, ne_eqb}
use Rattle.common.specs.Bytes.{Bytes}
use Rattle.common.specs.Word.{word_at}
use Rattle.common.proofs.Choice.{by_cond}
use Rattle.sheet.specs.Columns.{Columns, Blank, Value, Broken, if_digit, next_column, columns_from, finish, field_of}

-- ---- the bytes one by one

module _ (s : Bytes) where
  eight_step : (m p q : ℕ) (t : Bytes) → suc p ≡ q → q ≤ length s → take m (drop q s) ≡ t → take (suc m) (drop p s) ≡ get_or s p 0 ∷ t
  eight_step m p q t e h k = let l : p < length s = omega arith in rw (drop-cons s p 0 l) (ap (λ (r : ℕ). get_or s p 0 ∷ take m (drop r s)) e ∙ ap (λ (u : Bytes). get_or s p 0 ∷ u) k)

  pub eight_bytes : (at : ℕ) → at + 8 ≤ length s → take 8 (drop at s) ≡ get_or s at 0 ∷ get_or s (at + 1) 0 ∷ get_or s (at + 2) 0 ∷ get_or s (at + 3) 0 ∷ get_or s (at + 4) 0 ∷ get_or s (at + 5) 0 ∷ get_or s (at + 6) 0 ∷ get_or s (at + 7) 0 ∷ []
  eight_bytes at h =
      eight_step 7 at (at + 1) _ (omega arith) (omega arith)
      (eight_step 6 (at + 1) (at + 2) _ (omega arith) (omega arith)
      (eight_step 5 (at + 2) (at + 3) _ (omega arith) (omega arith)
      (eight_step 4 (at + 3) (at + 4) _ (omega arith) (omega arith)
      (eight_step 3 (at + 4) (at + 5) _ (omega arith) (omega arith)
      (eight_step 2 (at + 5) (at + 6) _ (omega arith) (omega arith)
      (eight_step 1 (at + 6) (at + 7) _ (omega arith) (omega arith)
      (eight_step 0 (at + 7) (at + 8) _ (omega arith) (omega arith) refl)))))))

-- ---- seven spaces

same_octet : (a r q c : ℕ) → r < 256 → c < 256 → a * 256 + r ≡ q * 256 + c → (a ≡ q) × (r ≡ c)
same_octet a r q c h k e = (omega arith, omega arith)

module _ (s : Bytes) (octets : (k : ℕ) → get_or s k 0 < 256) (at : ℕ) (long : at + 8 ≤ length s) (w : ℕ) (word : w ≡ word_at s at) (spaces : w % 0x100000000000000 ≡ 0x20202020202020) where
  abbrev last : ℕ
  last = w / 0x100000000000000

  seven_spaces : take 8 (drop at s) ≡ 32 ∷ 32 ∷ 32 ∷ 32 ∷ 32 ∷ 32 ∷ 32 ∷ last ∷ []
  unfolding word_at
  seven_spaces =
      let q : word_at s at ≡ ((((((last * 256 + 32) * 256 + 32) * 256 + 32) * 256 + 32) * 256 + 32) * 256 + 32) * 256 + 32 = sym word ∙ omega (arith, spaces) in
      let p0 = same_octet _ (get_or s at 0) _ 32 (octets at) (omega arith) q in
      let p1 = same_octet _ (get_or s (at + 1) 0) _ 32 (octets (at + 1)) (omega arith) p0.0 in
      let p2 = same_octet _ (get_or s (at + 2) 0) _ 32 (octets (at + 2)) (omega arith) p1.0 in
      let p3 = same_octet _ (get_or s (at + 3) 0) _ 32 (octets (at + 3)) (omega arith) p2.0 in
      let p4 = same_octet _ (get_or s (at + 4) 0) _ 32 (octets (at + 4)) (omega arith) p3.0 in
      let p5 = same_octet _ (get_or s (at + 5) 0) _ 32 (octets (at + 5)) (omega arith) p4.0 in
      let p6 = same_octet (get_or s (at + 7) 0) (get_or s (at + 6) 0) last 32 (octets (at + 6)) (omega arith) p5.0 in
      eight_bytes s at long ∙ (λ i. p0.1 i ∷ p1.1 i ∷ p2.1 i ∷ p3.1 i ∷ p4.1 i ∷ p5.1 i ∷ p6.1 i ∷ p6.0 i ∷ [])

  field_last : field_of (take 8 (drop at s)) ≡ finish (next_column Blank last)
  unfolding field_of
  field_last = ap (λ (t : Bytes). finish (columns_from Blank t)) seven_spaces

  pub last_low : last < 48 → None ≡ field_of (take 8 (drop at s))
  last_low h = sym (field_last ∙ by_cond (λ (c : Columns). finish c ≡ None) (eqb last 32) (λ e. refl) (λ e. let q : if_digit last (Value (last - 48)) ≡ Broken = rw (lt-ltb last 48 h) in ap finish q))

  module _ (low : 48 ≤ last) where
    not_space : last ≡ 32 → ⊥
    not_space e = omega arith

    pub last_high : 57 < last → None ≡ field_of (take 8 (drop at s))
    last_high h = let q : next_column Blank last ≡ Broken = rw (ne_eqb last 32 not_space, le-ltb last 48 low, lt-ltb 57 last h) in sym (field_last ∙ ap finish q)

    pub last_digit : last ≤ 57 → Some (last - 48) ≡ field_of (take 8 (drop at s))
    last_digit h = let q : next_column Blank last ≡ Value (last - 48) = rw (ne_eqb last 32 not_space, le-ltb last 48 low, le-ltb 57 last h) in sym (field_last ∙ ap finish q)
