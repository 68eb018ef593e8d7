-- A text as `serialize` shows it: `collapse`d where `squeeze`, as if a blank stood before it where `space`; `escape`d where `escapes`.
use Rattle.std.specs.Prelude.{Bool, true, false, ◌&&◌, not, cond, [], ◌∷◌, ℕ, zero, suc, eqb, length}
use Rattle.common.specs.Bytes.{Bytes}
use Rattle.text.specs.Text.{is_space, collapse_from, escape, escaped, squeezed}

abbrev pub collapsed_if : Bool → Bool → Bytes → Bytes
collapsed_if squeeze space s = cond squeeze (collapse_from is_space space s) s

abbrev pub escaped_if : Bool → Bytes → Bytes
escaped_if escapes s = cond escapes (escape s) s

unfoldable pub shown : Bool → Bool → Bool → Bytes → Bytes
shown squeeze space escapes s = escaped_if escapes (collapsed_if squeeze space s)

-- the same, `escape`d so often: a second time is that of `collect`, before all else
unfoldable pub shown_times : Bool → Bool → ℕ → Bytes → Bytes
shown_times squeeze space zero s = shown squeeze space false s
shown_times squeeze space (suc zero) s = shown squeeze space true s
shown_times squeeze space (suc (suc k)) s = shown squeeze space true (escape s)

-- a byte, `escape`d so often
unfoldable pub escaped_times : ℕ → ℕ → Bytes
escaped_times zero c = c ∷ []
escaped_times (suc zero) c = escaped c
escaped_times (suc (suc k)) c = escape (escaped c)

-- whether that is another text than the byte
abbrev pub is_escaped : ℕ → ℕ → Bool
is_escaped times c = not (eqb times 0) && not (eqb (length (escaped c)) 1)

-- what a byte adds to that, by whether it is a blank to squeeze and whether one stood before it
abbrev pub shown_byte : Bool → Bool → Bool → ℕ → Bytes
shown_byte blank space escapes c = cond blank (squeezed true space c) (cond escapes (escaped c) (c ∷ []))
