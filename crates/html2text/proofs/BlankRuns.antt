-- Texts whose blanks are U+0020 and never three together: what `rstrip`, `collapse` and a blank more make of them.
use mathlib.Core.Path.{◌≡◌, refl, ap, ◌∙◌}
use mathlib.Core.Bool.{Bool, true, false, cond}
use mathlib.Core.List.{[], ◌∷◌, ◌++◌}
use Prim.Native.Nat.{ℕ, zero, suc, ◌≤◌, ◌<◌}
use native.Mathlib.Numerals.{add-one, add-two}
use native.Mathlib.Omega.{arith}
use lib.ListN.{length, get_or}
use Rattle.common.specs.Bytes.{Bytes}
use Rattle.text.specs.Text.{is_space, is_ascii_whitespace, squeezed, keeping, trim_start_by, rstrip_by, rstrip, collapse_from, collapse_by, collapse}
use Rattle.html2text.specs.Demand.{BlanksRight}
use Rattle.html2text.specs.Serialize.{ends_blank}

-- k blanks and then a byte
abbrev grown : Bool → ℕ → ℕ
grown true k = suc k
grown false k = 0

-- how many blanks stand at the end of k blanks and the text
abbrev pub run : ℕ → Bytes → ℕ
run k [] = k
run k (c ∷ s) = run (grown (is_space c) k) s

abbrev CalmAt : Bool → ℕ → ℕ → Type 0
CalmAt true k c = (k < 2) × (c ≡ 0x20)
CalmAt false k c = Unit {0}

-- behind k blanks, every blank is U+0020 and never three stand together
abbrev pub Calm : ℕ → Bytes → Type 0
Calm k [] = Unit {0}
Calm k (c ∷ s) = CalmAt (is_space c) k c × Calm (grown (is_space c) k) s

run_append : (k : ℕ) (s t : Bytes) → run k (s ++ t) ≡ run (run k s) t
run_append k [] t = refl
run_append k (c ∷ s) t = run_append (grown (is_space c) k) s t

pub calm_append : (k : ℕ) (s t : Bytes) → Calm k s → Calm (run k s) t → Calm k (s ++ t)
calm_append k [] t h g = g
calm_append k (c ∷ s) t h g = (h.0, calm_append (grown (is_space c) k) s t h.1 g)

-- ---- one blank more

pub calm_space : (s : Bytes) → Calm 0 s → run 0 s ≡ 0 → Calm 0 (s ++ 0x20 ∷ [])
unfolding is_space is_ascii_whitespace
calm_space s h e = calm_append 0 s (0x20 ∷ []) h ((omega arith, refl), tt)

pub run_space : (s : Bytes) → run 0 s ≡ 0 → run 0 (s ++ 0x20 ∷ []) ≡ 1
unfolding is_space is_ascii_whitespace
run_space s e = run_append 0 s (0x20 ∷ []) ∙ ap suc e

-- ---- `rstrip`

calm_keeping : (k c : ℕ) (r : Bytes) → CalmAt (is_space c) k c → Calm (grown (is_space c) k) r → Calm k (keeping (is_space c) c r)
calm_keeping k c (d ∷ r) a h = (a, h)
calm_keeping k c [] a h = go (is_space c) refl
  where
    go : (b : Bool) → is_space c ≡ b → Calm k (keeping b c [])
    go true e = tt
    go false e = (a, tt)

pub calm_rstrip : (k : ℕ) (s : Bytes) → Calm k s → Calm k (rstrip s)
unfolding rstrip_by
calm_rstrip k [] h = tt
calm_rstrip k (c ∷ s) h = calm_keeping k c (rstrip s) h.0 (calm_rstrip (grown (is_space c) k) s h.1)

-- no blank stands last
pub ends_rstrip : (s : Bytes) → ends_blank (rstrip s) ≡ false
unfolding rstrip_by ends_blank
ends_rstrip [] = refl
ends_rstrip (c ∷ s) = go (is_space c) refl (rstrip s) (ends_rstrip s)
  where
    go : (b : Bool) → is_space c ≡ b → (r : Bytes) → ends_blank r ≡ false → ends_blank (keeping b c r) ≡ false
    go b e (d ∷ r) h = h
    go true e [] h = refl
    go false e [] h = e

ends_run_cons : (k c : ℕ) (s : Bytes) → ends_blank (c ∷ s) ≡ false → run k (c ∷ s) ≡ 0
unfolding ends_blank
ends_run_cons k c [] h = rw h
ends_run_cons k c (d ∷ s) h = ends_run_cons (grown (is_space c) k) d s h

pub ends_run : (s : Bytes) → ends_blank s ≡ false → run 0 s ≡ 0
ends_run [] h = refl
ends_run (c ∷ s) h = ends_run_cons 0 c s h

pub run_rstrip : (s : Bytes) → run 0 (rstrip s) ≡ 0
run_rstrip s = ends_run (rstrip s) (ends_rstrip s)

-- ---- `collapse`

-- as many blanks may stand before, where `collapse`'s variable is `space`
abbrev most : Bool → ℕ
most true = 2
most false = 1

calm_squeezed : (b space : Bool) (k c : ℕ) (s : Bytes) → is_space c ≡ b → ((j : ℕ) → j ≤ most b → Calm j s) → k ≤ most space → Calm k (squeezed b space c ++ s)
unfolding is_space is_ascii_whitespace
calm_squeezed true true k c s e h l = h k l
calm_squeezed true false k c s e h l = ((omega arith, refl), h (suc k) (omega arith))
calm_squeezed false space k c s e h l = rw e (tt, h 0 (omega arith))

calm_collapse_from : (space : Bool) (k : ℕ) (s : Bytes) → k ≤ most space → Calm k (collapse_from is_space space s)
unfolding collapse_from
calm_collapse_from space k [] l = tt
calm_collapse_from space k (c ∷ s) l =
    calm_squeezed (is_space c) space k c (collapse_from is_space (is_space c) s) refl (λ j. calm_collapse_from (is_space c) j s) l

-- behind one blank at most
pub calm_collapse : (k : ℕ) (s : Bytes) → k ≤ 1 → Calm k (collapse s)
unfolding collapse_by
calm_collapse k s l = calm_collapse_from false k s l

pub calm_trim_start : (j k : ℕ) (s : Bytes) → Calm j s → Calm k (trim_start_by is_space s)
unfolding trim_start_by
calm_trim_start j k [] h = tt
calm_trim_start j k (c ∷ s) h = go (is_space c) refl h.1 (λ i g. calm_trim_start i k s g)
  where
    go : (b : Bool) → is_space c ≡ b → Calm (grown b j) s → ((i : ℕ) → Calm i s → Calm k (trim_start_by is_space s)) → Calm k (cond b (trim_start_by is_space s) (c ∷ s))
    go true e g f = f (suc j) g
    go false e g f = rw e (tt, g)

-- ---- what it says of a text

calm_spaces : (k : ℕ) (t : Bytes) → Calm k t → (i : ℕ) → i < length t → is_space (get_or t i 0) ≡ true → get_or t i 0 ≡ 0x20
calm_spaces k [] h i l e = absurd (omega arith)
calm_spaces k (c ∷ t) h zero l e = (rw e at h.0).1
calm_spaces k (c ∷ t) h (suc i) l e = calm_spaces (grown (is_space c) k) t h.1 i (omega arith) e

calm_apart : (k : ℕ) (t : Bytes) → Calm k t → (i : ℕ) → suc (suc i) < length t
    → is_space (get_or t i 0) ≡ true → is_space (get_or t (suc i) 0) ≡ true → is_space (get_or t (suc (suc i)) 0) ≡ true → ⊥
calm_apart k [] h i l x y z = omega arith
calm_apart k (c ∷ t) h (suc i) l x y z = calm_apart (grown (is_space c) k) t h.1 i (omega arith) x y z
calm_apart k (c ∷ []) h zero l x y z = omega arith
calm_apart k (c ∷ d ∷ []) h zero l x y z = omega arith
calm_apart k (c ∷ d ∷ e ∷ t) h zero l x y z = let g = (rw (x, y, z) at h.1.1.0).0 in omega arith

ends_last : (t : Bytes) → ends_blank t ≡ false → (i : ℕ) → suc i ≡ length t → is_space (get_or t i 0) ≡ false
unfolding ends_blank
ends_last [] h i l = absurd (omega arith)
ends_last (c ∷ []) h zero l = h
ends_last (c ∷ []) h (suc i) l = absurd (omega arith)
ends_last (c ∷ d ∷ t) h zero l = absurd (omega arith)
ends_last (c ∷ d ∷ t) h (suc i) l = ends_last (d ∷ t) h i (omega arith)

pub blanks_of_calm : (s : Bytes) → Calm 0 s → BlanksRight (rstrip s)
blanks_of_calm s h =
    let g = calm_rstrip 0 s h in
    record {
      spaces = calm_spaces 0 (rstrip s) g;
      apart = λ i l x y z. calm_apart 0 (rstrip s) g i (omega arith) x (rw add-one at y) (rw add-two at z);
      last = ends_last (rstrip s) (ends_rstrip s);
    }
