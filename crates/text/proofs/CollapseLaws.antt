-- `collapse`: of a concatenation, its length, idempotence, and that it leaves single U+0020.
use mathlib.Core.Path.{◌≡◌, refl, sym, ap, ◌∙◌}
use mathlib.Core.Bool.{Bool, true, false, cond}
use mathlib.Core.List.{[], ◌∷◌, ◌++◌, append_assoc}
use Prim.Native.Nat.{ℕ, zero, suc, ◌+◌, ◌≤◌, ◌<◌}
use native.Mathlib.Omega.{arith}
use native.Mathlib.Numerals.{add-one}
use lib.ListN.{length, get_or, drop, length-append, drop_of_length-le}
use lib.Seq.{drop-cons}
use Rattle.common.specs.Bytes.{Bytes}
use Rattle.common.proofs.Choice.{absurd_test}
use Rattle.text.specs.Collapsed.{Collapsed}
use Rattle.text.specs.Text.{squeezed, trim_start_by, collapse_from, space_after, collapse_by}

pub squeezed_length : (b space : Bool) (c d : ℕ) → length (squeezed b space c) ≡ length (squeezed b space d)
squeezed_length true true c d = refl
squeezed_length true false c d = refl
squeezed_length false space c d = refl

squeezed_short : (b space : Bool) (c : ℕ) → length (squeezed b space c) ≤ 1
squeezed_short true true c = omega arith
squeezed_short true false c = omega arith
squeezed_short false space c = omega arith

module _ (blank : ℕ → Bool) where
  pub collapse_append : (space : Bool) (s t : Bytes) → collapse_from blank space (s ++ t) ≡ collapse_from blank space s ++ collapse_from blank (space_after blank space s) t
  unfolding collapse_from
  collapse_append space [] t = refl
  collapse_append space (c ∷ s) t =
      ap (λ (r : Bytes). squeezed (blank c) space c ++ r) (collapse_append (blank c) s t) ∙ sym (append_assoc (squeezed (blank c) space c) _ _)

  -- one byte more, as a loop has it
  pub collapse_then : {b : Bool} (space : Bool) (s : Bytes) (i : ℕ) → i < length s → b ≡ blank (get_or s i 0)
      → collapse_from blank space (drop i s) ≡ squeezed b space (get_or s i 0) ++ collapse_from blank b (drop (i + 1) s)
  unfolding collapse_from
  collapse_then space s i h e = rw (add-one, drop-cons s i 0 h, e)

  -- a loop that counts: n bytes so far, and those of what is left
  pub collapse_count : {b : Bool} (space : Bool) (s : Bytes) (i n k m : ℕ) → i < length s → b ≡ blank (get_or s i 0) → k ≡ length (squeezed b space 0)
      → n + length (collapse_from blank space (drop i s)) ≡ m → n + k + length (collapse_from blank b (drop (i + 1) s)) ≡ m
  collapse_count {b} space s i n k m h e l q =
      omega (arith, q, l, ap length (collapse_then space s i h e), length-append (squeezed b space (get_or s i 0)) (collapse_from blank b (drop (i + 1) s)), squeezed_length b space (get_or s i 0) 0)

  pub collapse_done : (space : Bool) (s : Bytes) (i : ℕ) → length s ≤ i → collapse_from blank space (drop i s) ≡ []
  unfolding collapse_from
  collapse_done space s i h = rw (drop_of_length-le s {i = i} h)

  pub space_then : {b : Bool} (space : Bool) (s : Bytes) (i : ℕ) → i < length s → b ≡ blank (get_or s i 0) → space_after blank b (drop (i + 1) s) ≡ space_after blank space (drop i s)
  space_then space s i h e = rw (add-one, drop-cons s i 0 h, e)

  pub space_done : (space : Bool) (s : Bytes) (i : ℕ) → length s ≤ i → space_after blank space (drop i s) ≡ space
  space_done space s i h = rw (drop_of_length-le s {i = i} h)

  pub space_append : (space : Bool) (s t : Bytes) → space_after blank space (s ++ t) ≡ space_after blank (space_after blank space s) t
  space_append space [] t = refl
  space_append space (c ∷ s) t = space_append (blank c) s t

  -- behind a blank, the leading blanks add nothing
  pub collapse_behind : (s : Bytes) → collapse_from blank true s ≡ collapse_from blank false (trim_start_by blank s)
  unfolding trim_start_by collapse_from
  collapse_behind [] = refl
  collapse_behind (c ∷ s) = go (blank c) refl (collapse_behind s)
    where
      go : (b : Bool) → blank c ≡ b → collapse_from blank true s ≡ collapse_from blank false (trim_start_by blank s)
          → squeezed b true c ++ collapse_from blank b s ≡ collapse_from blank false (cond b (trim_start_by blank s) (c ∷ s))
      go true e h = h
      go false e h = rw e

  pub collapse_from_length : (space : Bool) (s : Bytes) → length (collapse_from blank space s) ≤ length s
  unfolding collapse_from
  collapse_from_length space [] = omega arith
  collapse_from_length space (c ∷ s) =
      omega (arith, collapse_from_length (blank c) s, squeezed_short (blank c) space c, length-append (squeezed (blank c) space c) (collapse_from blank (blank c) s))

  pub collapse_length : (s : Bytes) → length (collapse_by blank s) ≤ length s
  unfolding collapse_by
  collapse_length s = collapse_from_length false s

  module _ (space_blank : blank 0x20 ≡ true) where
    -- the leading blanks of a collapsed text away is the text collapsed as if a blank stood before it
    pub trim_start_collapse : (space : Bool) (s : Bytes) → trim_start_by blank (collapse_from blank space s) ≡ collapse_from blank true s
    unfolding trim_start_by collapse_from
    trim_start_collapse space [] = refl
    trim_start_collapse space (c ∷ s) = go (blank c) space refl (trim_start_collapse true s)
      where
        go : (b space : Bool) → blank c ≡ b → trim_start_by blank (collapse_from blank true s) ≡ collapse_from blank true s
            → trim_start_by blank (squeezed b space c ++ collapse_from blank b s) ≡ squeezed b true c ++ collapse_from blank b s
        go true true e h = h
        go true false e h = rw space_blank h
        go false space e h = rw e

    -- ---- a collapsed text

    -- single blanks, the first not behind a blank where `space`
    abbrev pub Single : Bool → Bytes → Type 0
    Single space [] = Unit {0}
    Single space (c ∷ s) = (blank c ≡ true → (space ≡ false) × (c ≡ 0x20)) × Single (blank c) s

    single_collapse : (space : Bool) (s : Bytes) → Single space (collapse_from blank space s)
    unfolding collapse_from
    single_collapse space [] = tt
    single_collapse space (c ∷ s) = go (blank c) space refl (single_collapse (blank c) s)
      where
        go : (b space : Bool) → blank c ≡ b → Single b (collapse_from blank b s) → Single space (squeezed b space c ++ collapse_from blank b s)
        go true true e h = h
        go true false e h = (λ q. (refl, refl), rw space_blank h)
        go false space e h = (λ q. absurd_test q e, rw e h)

    pub collapse_single : (space : Bool) (s : Bytes) → Single space s → collapse_from blank space s ≡ s
    unfolding collapse_from
    collapse_single space [] h = refl
    collapse_single space (c ∷ s) h = go (blank c) space refl h.0 (collapse_single (blank c) s h.1)
      where
        go : (b space : Bool) → blank c ≡ b → (blank c ≡ true → (space ≡ false) × (c ≡ 0x20)) → collapse_from blank (blank c) s ≡ s → squeezed b space c ++ collapse_from blank b s ≡ c ∷ s
        go true true e f k = absurd_test refl (f e).0
        go true false e f k = rw (← e, k, (f e).1)
        go false space e f k = rw (← e) (ap (λ (r : Bytes). c ∷ r) k)

    pub collapse_idempotent : (s : Bytes) → collapse_by blank (collapse_by blank s) ≡ collapse_by blank s
    unfolding collapse_by
    collapse_idempotent s = collapse_single false (collapse_from blank false s) (single_collapse false s)

    single_spaces : (space : Bool) (s : Bytes) → Single space s → (i : ℕ) → i < length s → blank (get_or s i 0) ≡ true → get_or s i 0 ≡ 0x20
    single_spaces space [] h i l e = absurd (omega arith)
    single_spaces space (c ∷ s) h zero l e = (h.0 e).1
    single_spaces space (c ∷ s) h (suc i) l e = single_spaces (blank c) s h.1 i (omega arith) e

    single_apart : (space : Bool) (s : Bytes) → Single space s → (i : ℕ) → suc i < length s → blank (get_or s i 0) ≡ true → blank (get_or s (suc i) 0) ≡ true → ⊥
    single_apart space [] h i l e f = omega arith
    single_apart space (c ∷ []) h i l e f = omega arith
    single_apart space (c ∷ d ∷ s) h zero l e f = absurd_test e (h.1.0 f).0
    single_apart space (c ∷ d ∷ s) h (suc i) l e f = single_apart (blank c) (d ∷ s) h.1 i (omega arith) e f

    pub collapse_collapsed : (s : Bytes) → Collapsed blank (collapse_by blank s)
    unfolding collapse_by
    collapse_collapsed s = let h = single_collapse false s in record { spaces = single_spaces false (collapse_from blank false s) h; apart = single_apart false (collapse_from blank false s) h }
