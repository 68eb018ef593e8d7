-- A text as it is shown, escaped so often: of a concatenation, of one byte, and behind blanks that are not shown.
use mathlib.Core.Path.{◌≡◌, refl, sym, ap, ◌∙◌}
use mathlib.Core.Bool.{Bool, true, false, ◌&&◌, cond}
use mathlib.Core.List.{[], ◌∷◌, ◌++◌}
use Prim.Native.Nat.{ℕ, zero, suc, ◌≤◌, ◌<◌}
use native.Mathlib.Omega.{arith}
use lib.Dec.{eqb}
use lib.ListN.{length}
use borrow.Author.Tests.{eqb-true, eqb-false, not-true, not-false}
use Rattle.common.specs.Bytes.{Bytes, codes}
use Rattle.common.proofs.Choice.{by_test, and_parts}
use Rattle.text.specs.Text.{is_space, is_ascii_whitespace, space_after, squeezed, collapse_from, trim_start_by, rstrip, rstrip_by, escape, escaped}
use Rattle.text.proofs.CollapseLaws.{space_append, collapse_behind}
use Rattle.text.proofs.EscapeLaws.{escape_append, escape_length, escaped_cases, escaped_length, escaped_single, escaped_blank}
use Rattle.text.proofs.TrimLaws.{rstrip_other}
use Rattle.writer.specs.Shown.{escaped_if, shown, shown_times, escaped_times, is_escaped}
use Rattle.writer.proofs.ShownLaws.{after, escape_one, shown_append, shown_one, shown_nil, shown_escape}

-- ---- of a concatenation

-- where nothing is squeezed, it does not matter whether a blank stands before
shown_behind : (squeeze space escapes : Bool) (s t : Bytes) → shown squeeze (after squeeze space s) escapes t ≡ shown squeeze (space_after is_space space s) escapes t
unfolding shown
shown_behind true space escapes s t = refl
shown_behind false space escapes s t = refl

-- `escape` neither makes nor takes a blank
space_escaped : (space : Bool) (c : ℕ) → space_after is_space space (escaped c) ≡ is_space c
unfolding codes is_space is_ascii_whitespace
space_escaped space = escaped_cases (λ c s. space_after is_space space s ≡ is_space c) refl refl refl refl (λ c. refl)

pub space_escape : (space : Bool) (s : Bytes) → space_after is_space space (escape s) ≡ space_after is_space space s
unfolding escape
space_escape space [] = refl
space_escape space (c ∷ s) = space_append is_space space (escaped c) (escape s) ∙ rw (space_escaped space c) (space_escape (is_space c) s)

pub times_append : (squeeze space : Bool) (times : ℕ) (s t : Bytes)
    → shown_times squeeze space times (s ++ t) ≡ shown_times squeeze space times s ++ shown_times squeeze (space_after is_space space s) times t
unfolding shown_times
times_append squeeze space zero s t = shown_append squeeze space false s t ∙ ap (λ (l : Bytes). shown squeeze space false s ++ l) (shown_behind squeeze space false s t)
times_append squeeze space (suc zero) s t = shown_append squeeze space true s t ∙ ap (λ (l : Bytes). shown squeeze space true s ++ l) (shown_behind squeeze space true s t)
times_append squeeze space (suc (suc k)) s t =
    ap (shown squeeze space true) (escape_append s t)
    ∙ shown_append squeeze space true (escape s) (escape t)
    ∙ ap (λ (l : Bytes). shown squeeze space true (escape s) ++ l)
    (shown_behind squeeze space true (escape s) (escape t) ∙ ap (λ (b : Bool). shown squeeze b true (escape t)) (space_escape space s))

pub times_nil : (squeeze space : Bool) (times : ℕ) → shown_times squeeze space times [] ≡ []
unfolding shown_times escape
times_nil squeeze space zero = shown_nil squeeze space false
times_nil squeeze space (suc zero) = shown_nil squeeze space true
times_nil squeeze space (suc (suc k)) = shown_nil squeeze space true

-- ---- as `serialize` and `collect` escape it

pub times_of_law : (squeeze space escapes escaped : Bool) (s : Bytes) → shown squeeze space escapes (escaped_if escaped s) ≡ shown_times squeeze space (cond escapes (cond escaped 2 1) (cond escaped 1 0)) s
unfolding shown_times
times_of_law squeeze space true true s = refl
times_of_law squeeze space true false s = refl
times_of_law squeeze space false true s = shown_escape squeeze space s
times_of_law squeeze space false false s = refl

-- ---- of one byte

twice_one : (squeeze space : Bool) (c : ℕ) → shown squeeze space true (escaped c) ≡ cond (squeeze && is_space c) (squeezed true space c) (escape (escaped c))
unfolding shown escape escaped codes is_space is_ascii_whitespace collapse_from
twice_one true space c =
    escaped_cases (λ c t. shown true space true t ≡ cond (is_space c) (squeezed true space c) (escape t)) refl refl refl refl (λ c. shown_one true space true c ∙ rw (escape_one c)) c
twice_one false space c = refl

pub times_one : (squeeze space : Bool) (times c : ℕ) → shown_times squeeze space times (c ∷ []) ≡ cond (squeeze && is_space c) (squeezed true space c) (escaped_times times c)
unfolding shown_times escaped_times
times_one squeeze space zero c = shown_one squeeze space false c
times_one squeeze space (suc zero) c = shown_one squeeze space true c
times_one squeeze space (suc (suc k)) c = ap (shown squeeze space true) (escape_one c) ∙ twice_one squeeze space c

-- one that has no entity stands for itself
pub times_bare : (times c : ℕ) → escaped c ≡ c ∷ [] → escaped_times times c ≡ c ∷ []
unfolding escaped_times
times_bare zero c e = refl
times_bare (suc zero) c e = e
times_bare (suc (suc k)) c e = ap escape e ∙ escape_one c ∙ e

pub times_once : (times c : ℕ) → times ≡ 1 → escaped_times times c ≡ escaped c
unfolding escaped_times
times_once times c e = rw e

pub times_twice : (times c : ℕ) → 0 < times → (times ≡ 1 → ⊥) → escaped_times times c ≡ escape (escaped c)
unfolding escaped_times
times_twice zero c h n = absurd (omega arith)
times_twice (suc zero) c h n = absurd (n refl)
times_twice (suc (suc k)) c h n = refl

-- a byte that is escaped is no blank; another stands for itself
pub is_escaped_true : (times c : ℕ) → is_escaped times c ≡ true → (0 < times) × (is_space c ≡ false)
is_escaped_true times c e =
    let p = and_parts _ _ e in
    (omega (arith, eqb-false times 0 (not-true _ p.0)), by_test (is_space c) (λ t. absurd (eqb-false (length (escaped c)) 1 (not-true _ p.1) (ap length (escaped_blank c t)))) (λ t. t))

pub is_escaped_false : (times c : ℕ) → is_escaped times c ≡ false → escaped_times times c ≡ c ∷ []
unfolding escaped_times
is_escaped_false times c e =
    by_test (eqb times 0) (λ t. rw (eqb-true times 0 t))
    (λ t. times_bare times c (escaped_single c (eqb-true _ 1 (not-false _ (rw t at e)))))

pub times_some : (times c : ℕ) → 1 ≤ length (escaped_times times c)
unfolding escaped_times
times_some zero c = omega arith
times_some (suc zero) c = omega (arith, escaped_length c)
times_some (suc (suc k)) c = omega (arith, escaped_length c, escape_length (escaped c))

-- nothing is lost of it without the blanks at its end
once_kept : (c : ℕ) → is_space c ≡ false → rstrip (escaped c) ≡ escaped c
unfolding rstrip_by codes is_space is_ascii_whitespace
once_kept = escaped_cases (λ c t. is_space c ≡ false → rstrip t ≡ t) (λ e. refl) (λ e. refl) (λ e. refl) (λ e. refl) (rstrip_other is_space [])

pub times_kept : (times c : ℕ) → is_space c ≡ false → rstrip (escaped_times times c) ≡ escaped_times times c
unfolding escaped_times rstrip_by codes is_space is_ascii_whitespace escape escaped
times_kept zero c e = rstrip_other is_space [] c e
times_kept (suc zero) c e = once_kept c e
times_kept (suc (suc k)) c e =
    escaped_cases (λ c t. is_space c ≡ false → rstrip (escape t) ≡ escape t) (λ e. refl) (λ e. refl) (λ e. refl) (λ e. refl) (λ c e. rw (escape_one c) (once_kept c e)) c e

-- ---- the entities, escaped once more

pub twice_ampersand : (c : ℕ) → c ≡ 38 → escape (escaped c) ≡ codes "&amp;amp;"
unfolding escape escaped codes
twice_ampersand c e = rw e

pub twice_quote : (c : ℕ) → c ≡ 34 → escape (escaped c) ≡ codes "&amp;quot;"
unfolding escape escaped codes
twice_quote c e = rw e

pub twice_less : (c : ℕ) → c ≡ 60 → escape (escaped c) ≡ codes "&amp;lt;"
unfolding escape escaped codes
twice_less c e = rw e

pub twice_greater : (c : ℕ) → c ≡ 62 → escape (escaped c) ≡ codes "&amp;gt;"
unfolding escape escaped codes
twice_greater c e = rw e

pub twice_other : (c : ℕ) → escaped c ≡ c ∷ [] → escape (escaped c) ≡ c ∷ []
twice_other c e = ap escape e ∙ escape_one c ∙ e

-- ---- behind blanks

-- a second time is once more behind all else
twice_is : (squeeze space : Bool) (s : Bytes) → shown squeeze space true (escape s) ≡ escape (shown squeeze space true s)
unfolding shown
twice_is squeeze space s = ap escape (shown_escape squeeze space s)

once_behind : (squeeze space escapes : Bool) (s t : Bytes) → t ≡ cond (squeeze && space) (trim_start_by is_space s) s → shown squeeze space escapes s ≡ shown squeeze false escapes t
unfolding shown
once_behind true true escapes s t e = ap (escaped_if escapes) (collapse_behind is_space s) ∙ rw e
once_behind true false escapes s t e = rw e
once_behind false space escapes s t e = rw e

pub times_behind : (squeeze space : Bool) (times : ℕ) (s t : Bytes) → t ≡ cond (squeeze && space) (trim_start_by is_space s) s → shown_times squeeze space times s ≡ shown_times squeeze false times t
unfolding shown_times
times_behind squeeze space zero s t e = once_behind squeeze space false s t e
times_behind squeeze space (suc zero) s t e = once_behind squeeze space true s t e
times_behind squeeze space (suc (suc k)) s t e = twice_is squeeze space s ∙ ap escape (once_behind squeeze space true s t e) ∙ sym (twice_is squeeze false t)
