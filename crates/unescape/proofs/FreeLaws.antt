-- Bytes that are no ampersand: eight at once, and a run of them.
use mathlib.Core.Path.{◌≡◌, refl, sym, ap, ◌∙◌}
use mathlib.Core.Bool.{not}
use mathlib.Core.List.{◌++◌}
use Prim.Native.Nat.{ℕ, ◌+◌, ◌-◌, ◌≤◌, ◌<◌}
use native.Mathlib.Omega.{arith}
use lib.Bits.{bit_and, bit_or}
use lib.Dec.{eqb, ltb}
use lib.ListN.{length, get_or, take, drop, length-take, length-drop, take-append-drop}
use lib.Seq.{get_or-take, get_or-drop, drop-drop}
use borrow.Author.Tests.{ltb-true, ltb-false, eqb-false, eq-eqb, not-true}
use Rattle.common.specs.Bytes.{Bytes}
use Rattle.common.specs.Lanes.{Each}
use Rattle.common.specs.Word.{octets}
use Rattle.common.proofs.Choice.{by_test}
use Rattle.common.proofs.LanesLaws.{laned_and, laned_or, laned_all, laned_self, laned_same}
use Rattle.common.proofs.LanesLaws.{each_at, each_octet, each_byte, implies, implied, low, lows, differs, differences, differs_sum}
use Rattle.unescape.specs.Inner.{FreeOf}
use Rattle.unescape.specs.Unescape.{ampersand}
use Rattle.unescape.proofs.UnescapeLaws.{Free}

-- ---- eight at once

abbrev test : ℕ → ℕ
test b = bit_and (bit_or (differs ampersand (low b)) b) 0x80

free_byte : (b : ℕ) → b < 256 → test b ≡ 0x80 → b ≡ ampersand → ⊥
free_byte b h e q =
    let t = each_byte (λ b. implies (eqb (test b) 0x80) (not (eqb b ampersand))) refl b h in
    eqb-false b ampersand (not-true _ (implied _ _ t (eq-eqb _ 0x80 e))) q

pub free_octets : (w : ℕ) → w < 0x10000000000000000
    → bit_and (bit_or (differences ampersand (lows w)) w) 0x8080808080808080 ≡ 0x8080808080808080 → Each (λ c. c ≡ ampersand → ⊥) (octets 8 w)
free_octets w h e =
    let top = laned_all w 0x80 (omega arith) in
    each_octet free_byte 8 w (laned_same (laned_and (laned_or (differs_sum w h ampersand (omega arith)) (laned_self w h)) top) top e)

-- ---- a run that grows

module _ {s : Bytes} {from to : ℕ} (f : FreeOf s from to) where
  -- by n bytes of which none is an ampersand
  free_then : (n : ℕ) → to + n ≤ length s → ((k : ℕ) → to ≤ k → k < to + n → get_or s k 0 ≡ ampersand → ⊥) → FreeOf s from (to + n)
  free_then n h g =
      record {
        ordered = omega (arith, f.ordered);
        within = h;
        none_between = λ k a b. by_test (ltb k to) (λ t. f.none_between k a (ltb-true k to t)) (λ t. g k (ltb-false k to t) b);
      }

  pub free_word_more : to + 8 ≤ length s → Each (λ c. c ≡ ampersand → ⊥) (take 8 (drop to s)) → FreeOf s from (to + 8)
  free_word_more h e = free_then 8 h at
    where
      at : (k : ℕ) → to ≤ k → k < to + 8 → get_or s k 0 ≡ ampersand → ⊥
      at k a b q =
          let i = k - to in
          let i< : i < 8 = omega arith in
          let place : to + i ≡ k = omega arith in
          let byte : get_or (take 8 (drop to s)) i 0 ≡ get_or s k 0 =
          get_or-take 8 (drop to s) i 0 i< ∙ get_or-drop to s i 0 ∙ ap (λ (j : ℕ). get_or s j 0) place in
          each_at (λ c. c ≡ ampersand → ⊥) (take 8 (drop to s)) e i (omega (arith, length-take 8 (drop to s), length-drop to s)) (byte ∙ q)

  -- ---- the run itself, and what follows it

  abbrev run : Bytes
  run = take (to - from) (drop from s)

  pub run_split : drop from s ≡ run ++ drop to s
  run_split =
      let place : from + (to - from) ≡ to = omega (arith, f.ordered) in
      let rest : drop to s ≡ drop (to - from) (drop from s) = ap (λ (i : ℕ). drop i s) (sym place) ∙ sym (drop-drop (to - from) from s) in
      sym (ap (λ (t : Bytes). run ++ t) rest ∙ take-append-drop (to - from) (drop from s))

  pub run_length : from + length run ≡ to
  run_length = omega (arith, f.ordered, f.within, length-take (to - from) (drop from s), length-drop from s)

  pub run_free : Free run
  run_free k h e =
      let l : k < to - from = omega (arith, run_length) in
      f.none_between (from + k) (omega arith) (omega arith) (sym (get_or-take (to - from) (drop from s) k 0 l ∙ get_or-drop from s k 0) ∙ e)
