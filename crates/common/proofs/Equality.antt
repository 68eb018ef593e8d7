-- `same` is equality of byte strings, and is told byte by byte.
use mathlib.Core.Path.{◌≡◌, refl, ap, ap₂}
use mathlib.Core.Bool.{true, false}
use mathlib.Core.List.{[], ◌∷◌}
use Prim.Native.Nat.{ℕ}
use lib.Dec.{eqb}
use lib.Pointwise.{pointwise}
use lib.ListN.{length}
use borrow.Author.Tests.{eq-eqb, eqb-true}
use Rattle.common.specs.Bytes.{Bytes, same}
use Rattle.common.proofs.Choice.{by_test, absurd_test}

pub same_refl : (s : Bytes) → same s s ≡ true
unfolding same
same_refl [] = refl
same_refl (c ∷ s) = rw (eq-eqb c c refl, same) (same_refl s)

pub same_true : (s t : Bytes) → same s t ≡ true → s ≡ t
unfolding same
same_true [] [] e = refl
same_true [] (d ∷ t) e = absurd_test e refl
same_true (c ∷ s) [] e = absurd_test e refl
same_true (c ∷ s) (d ∷ t) e =
    by_test (eqb c d)
    (λ q. ap₂ (λ (x : ℕ) (l : Bytes). x ∷ l) (eqb-true c d q) (same_true s t (rw (q, same) at e)))
    (λ q. absurd_test e (rw (q, same)))

pub same_of : (s t : Bytes) → s ≡ t → same s t ≡ true
same_of s t e = rw e (same_refl t)

pub same_not : (s t : Bytes) → (s ≡ t → ⊥) → same s t ≡ false
same_not s t n = by_test (same s t) (λ e. absurd (n (same_true s t e))) (λ e. e)

-- `==` of two slices
pub same_pointwise : (s t : Bytes) → pointwise eqb s t ≡ same s t
unfolding same
same_pointwise [] [] = refl
same_pointwise [] (d ∷ t) = refl
same_pointwise (c ∷ s) [] = refl
same_pointwise (c ∷ s) (d ∷ t) = by_test (eqb c d) (λ e. rw (e, same) (same_pointwise s t)) (λ e. rw (e, same))

pub same_length : (s t : Bytes) → (length s ≡ length t → ⊥) → same s t ≡ false
same_length s t n = same_not s t (λ e. n (ap length e))
