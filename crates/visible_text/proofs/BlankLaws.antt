-- The five blanks: which they are, `collapse_whitespace` as text's `collapse_by`, and the last byte of a text by lengths.
use mathlib.Core.Path.{◌≡◌, refl, sym, ap, ◌∙◌, subst}
use mathlib.Core.Bool.{Bool, true, false, ◌&&◌, ◌||◌, not, cond}
use mathlib.Core.List.{[], ◌∷◌}
use Prim.Native.Nat.{ℕ, suc, ◌≤◌}
use native.Mathlib.Omega.{arith}
use lib.Dec.{eqb}
use lib.ListN.{length}
use borrow.Author.Tests.{eq-eqb, ne_eqb, eqb-true, eqb-false}
use Rattle.common.specs.Bytes.{Bytes}
use Rattle.common.proofs.Choice.{by_test, absurd_test}
use Rattle.common.proofs.TestLaws.{or_cases}
use Rattle.text.specs.Text.{is_ascii_whitespace, is_space, squeezed, keeping, rstrip_by, collapse_from, collapse_by}
use Rattle.text.proofs.RunLaws.{collapse_runs}
use Rattle.visible_text.specs.CollapseWhitespace.{spaced, kept, kept_from, collapse_whitespace, last_or, ends_blank, trim_end}
use Rattle.visible_text.specs.Theorems.{Collapsing}

-- two tests of equality that hold together are equal
pub eqb_same : (a b c d : ℕ) → (a ≡ b → c ≡ d) → (c ≡ d → a ≡ b) → eqb a b ≡ eqb c d
eqb_same a b c d f g =
    by_test (eqb a b) (λ e. e ∙ sym (eq-eqb c d (f (eqb-true a b e)))) (λ e. e ∙ sym (ne_eqb c d (λ h. eqb-false a b e (g h))))

-- what holds of a number holds of one that is found equal
pub is_at : (P : ℕ → Type 0) (n v : ℕ) → P v → eqb n v ≡ true → P n
is_at P n v p e = subst P (sym (eqb-true n v e)) p

-- ---- which they are

pub five_other : (c : ℕ) → (c ≡ 9 → ⊥) → (c ≡ 10 → ⊥) → (c ≡ 12 → ⊥) → (c ≡ 13 → ⊥) → (c ≡ 32 → ⊥) → false ≡ is_ascii_whitespace c
unfolding is_ascii_whitespace
five_other c a b d e f = sym (simp (ne_eqb c 9 a, ne_eqb c 10 b, ne_eqb c 12 d, ne_eqb c 13 e, ne_eqb c 32 f))

pub five_space : is_ascii_whitespace 0x20 ≡ true
unfolding is_ascii_whitespace
five_space = refl

-- what holds of each of the five
pub five_each : (P : ℕ → Type 0) → P 9 → P 10 → P 12 → P 13 → P 32 → (c : ℕ) → is_ascii_whitespace c ≡ true → P c
unfolding is_ascii_whitespace
five_each P p9 p10 p12 p13 p32 c =
    or_cases _ (eqb c 32)
    (or_cases _ (eqb c 13)
    (or_cases _ (eqb c 12) (or_cases (eqb c 9) (eqb c 10) (is_at P c 9 p9) (is_at P c 10 p10)) (is_at P c 12 p12))
    (is_at P c 13 p13))
    (is_at P c 32 p32)

pub five_small : (c : ℕ) → is_ascii_whitespace c ≡ true → c ≤ 32
five_small = five_each (λ c. c ≤ 32) (omega arith) (omega arith) (omega arith) (omega arith) (omega arith)

-- ---- `collapse_whitespace`

spaced_blank : (c : ℕ) (b : Bool) → is_ascii_whitespace c ≡ b → eqb (cond b 0x20 c) 0x20 ≡ b
spaced_blank c true e = refl
spaced_blank c false e = ne_eqb c 0x20 (λ q. absurd_test five_space (sym (ap is_ascii_whitespace q) ∙ e))

kept_squeezed : (last c : ℕ) (b : Bool) → is_ascii_whitespace c ≡ b → kept last (cond b 0x20 c) ≡ squeezed b (eqb last 0x20) c
kept_squeezed last c true e = go (eqb last 0x20)
  where
    go : (t : Bool) → cond (true && t) [] (0x20 ∷ []) ≡ squeezed true t c
    go true = refl
    go false = refl
kept_squeezed last c false e = rw (spaced_blank c false e)

kept_collapsed : (last : ℕ) (s : Bytes) → kept_from last s ≡ collapse_from is_ascii_whitespace (eqb last 0x20) s
unfolding kept_from collapse_from
kept_collapsed last [] = refl
kept_collapsed last (c ∷ s) =
    let b = is_ascii_whitespace c in
    rw (kept_squeezed last c b refl, kept_collapsed (spaced c) s, spaced_blank c b refl)

pub collapses_by_five : (s : Bytes) → collapse_whitespace s ≡ collapse_by is_ascii_whitespace s
unfolding collapse_whitespace collapse_by
collapses_by_five s = kept_collapsed 0x78 s

pub collapsing : Collapsing
collapsing = record { five = collapses_by_five; theirs = collapse_runs is_ascii_whitespace; ours = collapse_runs is_space }

-- ---- the last byte

keeping_full : (b : Bool) (c : ℕ) (r : Bytes) (n : ℕ) → eqb (length (keeping b c r)) (suc (suc n)) ≡ eqb (length r) (suc n)
keeping_full true c [] n = eqb_same 0 (suc (suc n)) 0 (suc n) (λ e. omega arith) (λ e. omega arith)
keeping_full false c [] n = eqb_same 1 (suc (suc n)) 0 (suc n) (λ e. omega arith) (λ e. omega arith)
keeping_full b c (d ∷ r) n = eqb_same (suc (suc (length r))) (suc (suc n)) (suc (length r)) (suc n) (λ e. omega arith) (λ e. omega arith)

last_blank : (c : ℕ) (s : Bytes) → is_ascii_whitespace (last_or c s) ≡ not (eqb (length (trim_end (c ∷ s))) (length (c ∷ s)))
unfolding rstrip_by
last_blank c [] = go (is_ascii_whitespace c)
  where
    go : (b : Bool) → b ≡ not (eqb (length (keeping b c [])) 1)
    go true = refl
    go false = refl
last_blank c (d ∷ s) = last_blank d s ∙ ap not (sym (keeping_full (is_ascii_whitespace c) c (trim_end (d ∷ s)) (length s)))

pub ends_blank_law : (t : Bytes) → ends_blank t ≡ (eqb (length t) 0 || not (eqb (length (trim_end t)) (length t)))
unfolding ends_blank rstrip_by
ends_blank_law [] = five_space
ends_blank_law (c ∷ s) = rw (ne_eqb (suc (length s)) 0 (λ e. omega arith)) (last_blank c s)
