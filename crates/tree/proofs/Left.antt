-- What is left of a list from one place on, taken apart.
use mathlib.Core.Path.{◌≡◌, sym, ap, ◌∙◌}
use mathlib.Core.List.{List, ◌∷◌}
use Prim.Native.Nat.{ℕ, suc, ◌+◌, ◌<◌}
use native.Mathlib.Omega.{arith}
use native.Mathlib.Numerals.{add-one}
use lib.ListN.{length, get_or, drop, length-drop}
use lib.Seq.{get_or-drop, drop-drop}

module _ {A : Type 0} (s : List A) (k : ℕ) (x : A) (l : List A) (e : x ∷ l ≡ drop k s) where
  pub left_head : (d : A) → get_or s k d ≡ x
  left_head d = let z : k ≡ k + 0 = omega arith in ap (λ (i : ℕ). get_or s i d) z ∙ sym (get_or-drop k s 0 d) ∙ ap (λ (m : List A). get_or m 0 d) (sym e)

  pub left_tail : l ≡ drop (suc k) s
  left_tail = ap (drop 1) e ∙ drop-drop 1 k s ∙ ap (λ (i : ℕ). drop i s) (add-one k)

  pub left_inside : k < length s
  left_inside = omega (arith, ap length e ∙ length-drop k s)
