-- `trim_start`, `rstrip` and `trim` over any set of blanks: parts of the text, idempotent, `rstrip` of a concatenation.
use mathlib.Core.Path.{◌≡◌, refl, sym, ap, ◌∙◌}
use mathlib.Core.Bool.{Bool, true, false, cond}
use mathlib.Core.List.{[], ◌∷◌, ◌++◌}
use Prim.Native.Nat.{ℕ, suc, ◌+◌, ◌-◌, ◌≤◌, ◌<◌}
use native.Mathlib.Omega.{arith}
use native.Mathlib.Numerals.{add-one}
use lib.ListN.{length, take, drop, get_or, length-take, drop_of_length-le}
use lib.Seq.{drop-cons, take-suc, length-take-le}
use Rattle.common.specs.Bytes.{Bytes}
use Rattle.common.proofs.Choice.{by_cond, by_test}
use Rattle.common.proofs.Parts.{part_from}
use Rattle.text.specs.Text.{keeping, trim_start_by, rstrip_by, trim_by}
use Rattle.text.specs.Theorems.{before, RstripAppends}

module _ (blank : ℕ → Bool) where
  -- ---- the front

  pub trim_start_blank : (s : Bytes) (i : ℕ) → i < length s → blank (get_or s i 0) ≡ true → trim_start_by blank (drop i s) ≡ trim_start_by blank (drop (i + 1) s)
  unfolding trim_start_by
  trim_start_blank s i h e = rw (add-one, drop-cons s i 0 h, e)

  pub trim_start_other : (s : Bytes) (i : ℕ) → i < length s → blank (get_or s i 0) ≡ false → trim_start_by blank (drop i s) ≡ drop i s
  unfolding trim_start_by
  trim_start_other s i h e = rw (drop-cons s i 0 h, e)

  pub trim_start_end : (s : Bytes) (i : ℕ) → length s ≤ i → trim_start_by blank (drop i s) ≡ drop i s
  unfolding trim_start_by
  trim_start_end s i h = rw (drop_of_length-le s {i = i} h)

  -- ---- the end

  before_cons : (c : ℕ) (s t : Bytes) → before blank (c ∷ s) t ≡ keeping (blank c) c (before blank s t)
  unfolding rstrip_by
  before_cons c s [] = refl
  before_cons c [] (d ∷ t) = refl
  before_cons c (e ∷ s) (d ∷ t) = refl

  pub rstrip_append : RstripAppends blank
  unfolding rstrip_by
  rstrip_append [] t = go (rstrip_by blank t)
    where
      go : (r : Bytes) → r ≡ before blank [] r
      go [] = refl
      go (c ∷ r) = refl
  rstrip_append (c ∷ s) t = ap (keeping (blank c) c) (rstrip_append s t) ∙ sym (before_cons c s (rstrip_by blank t))

  -- one byte more at the end: a blank goes, any other byte stays
  pub rstrip_blank : (s : Bytes) (c : ℕ) → blank c ≡ true → rstrip_by blank (s ++ c ∷ []) ≡ rstrip_by blank s
  unfolding rstrip_by
  rstrip_blank s c e = rstrip_append s (c ∷ []) ∙ rw e

  pub rstrip_other : (s : Bytes) (c : ℕ) → blank c ≡ false → rstrip_by blank (s ++ c ∷ []) ≡ s ++ c ∷ []
  unfolding rstrip_by
  rstrip_other s c e = rstrip_append s (c ∷ []) ∙ rw e

  -- ---- from the end of a text down to n

  take_last : (s : Bytes) (n : ℕ) → 0 < n → n ≤ length s → take n s ≡ take (n - 1) s ++ get_or s (n - 1) 0 ∷ []
  take_last s n p h = let e : n ≡ suc (n - 1) = omega arith in ap (λ (k : ℕ). take k s) e ∙ take-suc s (n - 1) 0 (omega arith)

  pub rstrip_take_blank : (s : Bytes) (n : ℕ) → 0 < n → n ≤ length s → blank (get_or s (n - 1) 0) ≡ true → rstrip_by blank (take (n - 1) s) ≡ rstrip_by blank (take n s)
  rstrip_take_blank s n p h e = sym (ap (rstrip_by blank) (take_last s n p h) ∙ rstrip_blank (take (n - 1) s) (get_or s (n - 1) 0) e)

  pub rstrip_take_other : (s : Bytes) (n : ℕ) → 0 < n → n ≤ length s → blank (get_or s (n - 1) 0) ≡ false → rstrip_by blank (take n s) ≡ take n s
  rstrip_take_other s n p h e = ap (rstrip_by blank) (take_last s n p h) ∙ rstrip_other (take (n - 1) s) (get_or s (n - 1) 0) e ∙ sym (take_last s n p h)

  pub rstrip_take_none : (s : Bytes) (n : ℕ) → n ≤ 0 → rstrip_by blank (take n s) ≡ rstrip_by blank s → [] ≡ rstrip_by blank s
  unfolding rstrip_by
  rstrip_take_none s n h e = let z : n ≡ 0 = omega arith in rw z at e

  -- ---- what is left is a part of the text

  keeping_prefix : (c : ℕ) (s r : Bytes) → take (length r) s ≡ r → take (length (keeping (blank c) c r)) (c ∷ s) ≡ keeping (blank c) c r
  keeping_prefix c s (d ∷ r) e = ap (λ (t : Bytes). c ∷ t) e
  keeping_prefix c s [] e = go (blank c)
    where
      go : (b : Bool) → take (length (keeping b c [])) (c ∷ s) ≡ keeping b c []
      go true = refl
      go false = refl

  pub rstrip_prefix : (s : Bytes) → take (length (rstrip_by blank s)) s ≡ rstrip_by blank s
  unfolding rstrip_by
  rstrip_prefix [] = refl
  rstrip_prefix (c ∷ s) = keeping_prefix c s (rstrip_by blank s) (rstrip_prefix s)

  pub rstrip_length : (s : Bytes) → length (rstrip_by blank s) ≤ length s
  rstrip_length s = omega (arith, sym (length-take (length (rstrip_by blank s)) s) ∙ ap length (rstrip_prefix s))

  pub trim_start_length : (s : Bytes) → length (trim_start_by blank s) ≤ length s
  unfolding trim_start_by
  trim_start_length [] = omega arith
  trim_start_length (c ∷ s) = let h = trim_start_length s in by_cond (λ (t : Bytes). length t ≤ suc (length s)) (blank c) (λ e. omega arith) (λ e. omega arith)

  pub trim_length : (s : Bytes) → length (trim_by blank s) ≤ length s
  unfolding trim_by
  trim_length s = omega (arith, rstrip_length (trim_start_by blank s), trim_start_length s)

  -- `rstrip` of the part behind the leading blanks
  module _ (s : Bytes) (a n : ℕ) (n_is : n ≡ length (rstrip_by blank (take (length s - a) (drop a s)))) where
    pub trim_part : drop a s ≡ trim_start_by blank s → take n (take (length s - a) (drop a s)) ≡ trim_by blank s
    unfolding trim_by
    trim_part e = rw n_is (rstrip_prefix (take (length s - a) (drop a s)) ∙ ap (rstrip_by blank) (part_from s a ∙ e))

    pub trim_part_length : n ≡ length (take n (take (length s - a) (drop a s)))
    trim_part_length = sym (length-take-le n _ (omega (arith, n_is, rstrip_length (take (length s - a) (drop a s)))))

  -- ---- idempotence

  -- the last byte, if there is one, is no blank
  abbrev Bare : Bytes → Type 0
  Bare s = rstrip_by blank s ≡ s

  keeping_bare : (c : ℕ) (r : Bytes) → Bare r → Bare (keeping (blank c) c r)
  unfolding rstrip_by
  keeping_bare c (d ∷ r) e = ap (keeping (blank c) c) e
  keeping_bare c [] e = go (blank c) refl
    where
      go : (b : Bool) → blank c ≡ b → Bare (keeping b c [])
      go true q = refl
      go false q = rw q

  pub rstrip_idempotent : (s : Bytes) → rstrip_by blank (rstrip_by blank s) ≡ rstrip_by blank s
  unfolding rstrip_by
  rstrip_idempotent [] = refl
  rstrip_idempotent (c ∷ s) = keeping_bare c (rstrip_by blank s) (rstrip_idempotent s)

  pub trim_start_idempotent : (s : Bytes) → trim_start_by blank (trim_start_by blank s) ≡ trim_start_by blank s
  unfolding trim_start_by
  trim_start_idempotent [] = refl
  trim_start_idempotent (c ∷ s) = let h = trim_start_idempotent s in go (blank c) refl h
    where
      go : (b : Bool) → blank c ≡ b → trim_start_by blank (trim_start_by blank s) ≡ trim_start_by blank s → trim_start_by blank (cond b (trim_start_by blank s) (c ∷ s)) ≡ cond b (trim_start_by blank s) (c ∷ s)
      go true q h = h
      go false q h = rw q

  -- a text that begins with another byte than a blank still does without the blanks at its end
  trim_start_keeping : (c : ℕ) (r : Bytes) → blank c ≡ false → trim_start_by blank (keeping (blank c) c r) ≡ keeping (blank c) c r
  unfolding trim_start_by
  trim_start_keeping c (d ∷ r) e = rw e
  trim_start_keeping c [] e = rw (e, e)

  trim_start_rstrip : (s : Bytes) → trim_start_by blank s ≡ s → trim_start_by blank (rstrip_by blank s) ≡ rstrip_by blank s
  unfolding trim_start_by rstrip_by
  trim_start_rstrip [] e = refl
  trim_start_rstrip (c ∷ s) e =
      by_test (blank c)
      (λ q. absurd (omega (arith, ap length (rw q at e), trim_start_length s)))
      (λ q. trim_start_keeping c (rstrip_by blank s) q)

  pub trim_idempotent : (s : Bytes) → trim_by blank (trim_by blank s) ≡ trim_by blank s
  unfolding trim_by
  trim_idempotent s =
      ap (rstrip_by blank) (trim_start_rstrip (trim_start_by blank s) (trim_start_idempotent s)) ∙ rstrip_idempotent (trim_start_by blank s)
