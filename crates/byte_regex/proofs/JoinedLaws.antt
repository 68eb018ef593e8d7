-- The length and the bytes of a class and an id as one text.
use mathlib.Core.Path.{◌≡◌, refl, ap, ◌∙◌}
use mathlib.Core.List.{[], ◌∷◌, ◌++◌}
use Prim.Native.Nat.{ℕ, suc, ◌+◌, ◌-◌, ◌<◌}
use native.Mathlib.Omega.{arith}
use lib.ListN.{length, get_or, length-append, get_or-append}
use lib.Seq.{get_or-append-add, get_or-append_seam}
use Rattle.common.specs.Bytes.{Bytes}
use Rattle.byte_regex.specs.Joined.{joined}

pub joined_alone : (class id : Bytes) → length class ≡ 0 → joined class id ≡ id
joined_alone [] id h = refl
joined_alone (x ∷ class) id h = absurd (omega arith)

pub joined_front : (class id : Bytes) (at : ℕ) → at < length class → get_or (joined class id) at 0 ≡ get_or class at 0
joined_front [] id at h = absurd (omega arith)
joined_front (x ∷ class) id at h = get_or-append (x ∷ class) (32 ∷ id) 0 at h

joined_is : (class id : Bytes) → (length class ≡ 0 → ⊥) → joined class id ≡ class ++ 32 ∷ id
joined_is [] id h = absurd (h refl)
joined_is (x ∷ class) id h = refl

module _ (class id : Bytes) (some : length class ≡ 0 → ⊥) where
  pub joined_length : length (joined class id) ≡ length class + 1 + length id
  joined_length = ap length (joined_is class id some) ∙ length-append class (32 ∷ id) ∙ omega arith

  pub joined_space : (at : ℕ) → at ≡ length class → get_or (joined class id) at 0 ≡ 32
  joined_space at e =
      ap (λ (l : Bytes). get_or l at 0) (joined_is class id some) ∙ ap (λ (n : ℕ). get_or (class ++ 32 ∷ id) n 0) e ∙ get_or-append_seam class 32 id 0

  pub joined_back : (at : ℕ) → length class < at → get_or (joined class id) at 0 ≡ get_or id (at - length class - 1) 0
  joined_back at h =
      let e : at ≡ length class + suc (at - length class - 1) = omega arith in
      ap (λ (l : Bytes). get_or l at 0) (joined_is class id some) ∙ ap (λ (n : ℕ). get_or (class ++ 32 ∷ id) n 0) e ∙ get_or-append-add class (32 ∷ id) (suc (at - length class - 1)) 0

-- all of them
pub ruleset joined_laws = (joined_alone, joined_length, joined_front, joined_space, joined_back)
