-- A text as it is shown, one byte after the other; and that it is `collapse`, `trim_start_matches` and `escape`.
use mathlib.Core.Path.{◌≡◌, refl, sym, ap, ◌∙◌}
use mathlib.Core.Bool.{Bool, true, false, ◌&&◌, cond}
use mathlib.Core.List.{[], ◌∷◌, ◌++◌, append-nil, append_assoc}
use Prim.Native.Nat.{ℕ, ◌*◌, ◌≤◌}
use native.Mathlib.Omega.{arith}
use lib.ListN.{length}
use Rattle.common.specs.Bytes.{Bytes, codes}
use Rattle.text.specs.Text.{is_space, is_ascii_whitespace, squeezed, trim_start_by, collapse, collapse_by, collapse_from, escape, escaped, space_after}
use Rattle.text.proofs.CollapseLaws.{collapse_from_length, trim_start_collapse}
use Rattle.text.proofs.EscapeLaws.{escape_append, escape_length, escaped_cases}
use Rattle.text.proofs.SpaceLaws.{space_32}
use Rattle.writer.specs.Shown.{collapsed_if, escaped_if, shown, shown_byte}

-- ---- a byte in front

pub byte_plain : (blank space : Bool) (c : ℕ) → shown_byte blank space false c ≡ squeezed blank space c
byte_plain true space c = refl
byte_plain false space c = refl

pub escape_one : (c : ℕ) → escape (c ∷ []) ≡ escaped c
unfolding escape
escape_one c = append-nil (escaped c)

byte_escaped : (blank space : Bool) (c : ℕ) → shown_byte blank space true c ≡ escape (squeezed blank space c)
unfolding escape
byte_escaped true true c = refl
byte_escaped true false c = refl
byte_escaped false space c = sym (escape_one c)

collapsed_cons : (squeeze space : Bool) (c : ℕ) (s : Bytes) → collapsed_if squeeze space (c ∷ s) ≡ squeezed (squeeze && is_space c) space c ++ collapsed_if squeeze (squeeze && is_space c) s
unfolding collapse_from
collapsed_cons true space c s = refl
collapsed_cons false space c s = refl

shown_cons : (squeeze space escapes : Bool) (c : ℕ) (s : Bytes) → shown squeeze space escapes (c ∷ s) ≡ shown_byte (squeeze && is_space c) space escapes c ++ shown squeeze (squeeze && is_space c) escapes s
unfolding shown
shown_cons squeeze space true c s =
    ap escape (collapsed_cons squeeze space c s)
    ∙ escape_append (squeezed (squeeze && is_space c) space c) (collapsed_if squeeze (squeeze && is_space c) s)
    ∙ ap (λ (l : Bytes). l ++ escape (collapsed_if squeeze (squeeze && is_space c) s)) (sym (byte_escaped (squeeze && is_space c) space c))
shown_cons squeeze space false c s =
    collapsed_cons squeeze space c s
    ∙ ap (λ (l : Bytes). l ++ collapsed_if squeeze (squeeze && is_space c) s) (sym (byte_plain (squeeze && is_space c) space c))

pub shown_nil : (squeeze space escapes : Bool) → shown squeeze space escapes [] ≡ []
unfolding shown collapse_from escape
shown_nil true space true = refl
shown_nil true space false = refl
shown_nil false space true = refl
shown_nil false space false = refl

pub shown_one : (squeeze space escapes : Bool) (c : ℕ) → shown squeeze space escapes (c ∷ []) ≡ shown_byte (squeeze && is_space c) space escapes c
shown_one squeeze space escapes c = shown_cons squeeze space escapes c [] ∙ rw (shown_nil squeeze (squeeze && is_space c) escapes) (append-nil (shown_byte (squeeze && is_space c) space escapes c))

-- ---- of a concatenation

-- whether a blank to squeeze stands last
abbrev pub after : Bool → Bool → Bytes → Bool
after squeeze = space_after (λ c. squeeze && is_space c)

pub shown_append : (squeeze space escapes : Bool) (s t : Bytes) → shown squeeze space escapes (s ++ t) ≡ shown squeeze space escapes s ++ shown squeeze (after squeeze space s) escapes t
shown_append squeeze space escapes [] t = rw (shown_nil squeeze space escapes)
shown_append squeeze space escapes (c ∷ s) t =
    let blank = squeeze && is_space c in
    let first = shown_byte blank space escapes c in
    shown_cons squeeze space escapes c (s ++ t)
    ∙ ap (λ (l : Bytes). first ++ l) (shown_append squeeze blank escapes s t)
    ∙ sym (append_assoc first (shown squeeze blank escapes s) _)
    ∙ ap (λ (l : Bytes). l ++ shown squeeze (after squeeze blank s) escapes t) (sym (shown_cons squeeze space escapes c s))

-- ---- of an escaped text: `escape` neither makes nor takes a blank

after_escaped : (squeeze space : Bool) (c : ℕ) → after squeeze space (escaped c) ≡ (squeeze && is_space c)
unfolding codes is_space is_ascii_whitespace
after_escaped true space c = escaped_cases (λ c s. after true space s ≡ is_space c) refl refl refl refl (λ c. refl) c
after_escaped false space c = escaped_cases (λ c s. after false space s ≡ false) refl refl refl refl (λ c. refl) c

shown_escaped : (squeeze space : Bool) (c : ℕ) → shown squeeze space false (escaped c) ≡ shown_byte (squeeze && is_space c) space true c
unfolding shown collapse_from codes is_space is_ascii_whitespace
shown_escaped true space c = escaped_cases (λ c s. shown true space false s ≡ cond (is_space c) (squeezed true space c) s) refl refl refl refl (shown_one true space false) c
shown_escaped false space c = refl

pub shown_escape : (squeeze space : Bool) (s : Bytes) → shown squeeze space false (escape s) ≡ shown squeeze space true s
unfolding escape
shown_escape squeeze space [] = shown_nil squeeze space false ∙ sym (shown_nil squeeze space true)
shown_escape squeeze space (c ∷ s) =
    let blank = squeeze && is_space c in
    shown_append squeeze space false (escaped c) (escape s)
    ∙ rw (after_escaped squeeze space c, shown_escaped squeeze space c, shown_escape squeeze blank s) (sym (shown_cons squeeze space true c s))

-- ---- with the functions of the Rust

-- as `serialize` puts them together: `trim` is whether the leading blanks go
pub shown_shortened : (squeeze trim escapes : Bool) (s : Bytes)
    → shown squeeze trim escapes s ≡ escaped_if escapes (cond squeeze (cond trim (trim_start_by is_space (collapse s)) (collapse s)) s)
unfolding shown collapse_by
shown_shortened true true escapes s = ap (escaped_if escapes) (sym (trim_start_collapse is_space (space_32 32 refl) false s))
shown_shortened true false escapes s = refl
shown_shortened false trim escapes s = refl

-- ---- at most six bytes a byte

collapsed_length : (squeeze space : Bool) (s : Bytes) → length (collapsed_if squeeze space s) ≤ length s
collapsed_length true space s = collapse_from_length is_space space s
collapsed_length false space s = omega arith

pub shown_length : (squeeze space escapes : Bool) (s : Bytes) → length (shown squeeze space escapes s) ≤ 6 * length s
unfolding shown
shown_length squeeze space true s = omega (arith, escape_length (collapsed_if squeeze space s), collapsed_length squeeze space s)
shown_length squeeze space false s = omega (arith, collapsed_length squeeze space s)
