-- The blanks struck out: a homomorphism, which `trim`, `rstrip` and `collapse` do not change.
use mathlib.Core.Path.{◌≡◌, refl, ap, ◌∙◌}
use mathlib.Core.Bool.{Bool, true, false, cond}
use mathlib.Core.List.{[], ◌∷◌, ◌++◌}
use Prim.Native.Nat.{ℕ, suc, ◌≤◌}
use native.Mathlib.Omega.{arith}
use lib.ListN.{length}
use Rattle.common.specs.Bytes.{Bytes}
use Rattle.common.proofs.Choice.{by_cond}
use Rattle.text.specs.Text.{squeezed, keeping, trim_start_by, rstrip_by, trim_by, collapse_from, collapse_by, struck_by}

module _ (blank : ℕ → Bool) where
  struck_cons_append : (b : Bool) (c : ℕ) (s t : Bytes) → cond b (s ++ t) (c ∷ (s ++ t)) ≡ cond b s (c ∷ s) ++ t
  struck_cons_append true c s t = refl
  struck_cons_append false c s t = refl

  -- a byte in front
  cons : ℕ → Bytes → Bytes
  cons c s = cond (blank c) s (c ∷ s)

  pub struck_append : (s t : Bytes) → struck_by blank (s ++ t) ≡ struck_by blank s ++ struck_by blank t
  unfolding struck_by cons
  struck_append [] t = refl
  struck_append (c ∷ s) t = ap (cons c) (struck_append s t) ∙ struck_cons_append (blank c) c (struck_by blank s) (struck_by blank t)

  pub struck_idempotent : (s : Bytes) → struck_by blank (struck_by blank s) ≡ struck_by blank s
  unfolding struck_by cons
  struck_idempotent [] = refl
  struck_idempotent (c ∷ s) = go (blank c) refl (struck_idempotent s)
    where
      go : (b : Bool) → blank c ≡ b → struck_by blank (struck_by blank s) ≡ struck_by blank s → struck_by blank (cond b (struck_by blank s) (c ∷ struck_by blank s)) ≡ cond b (struck_by blank s) (c ∷ struck_by blank s)
      go true e h = h
      go false e h = rw e (ap (λ (t : Bytes). c ∷ t) h)

  pub struck_length : (s : Bytes) → length (struck_by blank s) ≤ length s
  unfolding struck_by
  struck_length [] = omega arith
  struck_length (c ∷ s) = let h = struck_length s in by_cond (λ (t : Bytes). length t ≤ suc (length s)) (blank c) (λ e. omega arith) (λ e. omega arith)

  pub struck_trim_start : (s : Bytes) → struck_by blank (trim_start_by blank s) ≡ struck_by blank s
  unfolding struck_by trim_start_by
  struck_trim_start [] = refl
  struck_trim_start (c ∷ s) = go (blank c) refl (struck_trim_start s)
    where
      go : (b : Bool) → blank c ≡ b → struck_by blank (trim_start_by blank s) ≡ struck_by blank s → struck_by blank (cond b (trim_start_by blank s) (c ∷ s)) ≡ cond b (struck_by blank s) (c ∷ struck_by blank s)
      go true e h = h
      go false e h = rw e

  struck_keeping : (b : Bool) (c : ℕ) (r : Bytes) → blank c ≡ b → struck_by blank (keeping b c r) ≡ cons c (struck_by blank r)
  unfolding struck_by cons
  struck_keeping b c (d ∷ r) e = refl
  struck_keeping true c [] e = rw e
  struck_keeping false c [] e = refl

  pub struck_rstrip : (s : Bytes) → struck_by blank (rstrip_by blank s) ≡ struck_by blank s
  unfolding struck_by rstrip_by cons
  struck_rstrip [] = refl
  struck_rstrip (c ∷ s) = struck_keeping (blank c) c (rstrip_by blank s) refl ∙ ap (cons c) (struck_rstrip s)

  pub struck_trim : (s : Bytes) → struck_by blank (trim_by blank s) ≡ struck_by blank s
  unfolding trim_by
  struck_trim s = struck_rstrip (trim_start_by blank s) ∙ struck_trim_start s

  -- U+0020 stands for a run of blanks, so it has to be one
  module _ (space_blank : blank 0x20 ≡ true) where
    struck_squeezed : (b space : Bool) (c : ℕ) (s : Bytes) → blank c ≡ b → struck_by blank (squeezed b space c ++ s) ≡ cons c (struck_by blank s)
    unfolding struck_by cons
    struck_squeezed true true c s e = rw e
    struck_squeezed true false c s e = rw (space_blank, e)
    struck_squeezed false space c s e = refl

    pub struck_collapse_from : (space : Bool) (s : Bytes) → struck_by blank (collapse_from blank space s) ≡ struck_by blank s
    unfolding struck_by collapse_from cons
    struck_collapse_from space [] = refl
    struck_collapse_from space (c ∷ s) = struck_squeezed (blank c) space c (collapse_from blank (blank c) s) refl ∙ ap (cons c) (struck_collapse_from (blank c) s)

    pub struck_collapse : (s : Bytes) → struck_by blank (collapse_by blank s) ≡ struck_by blank s
    unfolding collapse_by
    struck_collapse s = struck_collapse_from false s
