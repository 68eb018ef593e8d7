-- Whether a text matches a pattern.
use Rattle.std.specs.Prelude.{◌≡◌, ◌↔◌, Bool, [], ℕ, T}
use Rattle.common.specs.Bytes.{Bytes}
use Rattle.byte_regex.specs.Regex.{Found}
use Rattle.byte_regex.specs.Match.{finds}
use Rattle.patterns.specs.Patterns.{pattern}

unfoldable pub matches_of : ℕ → Bytes → Bool
matches_of p s = finds (pattern p) s

-- Document 01, module 3: "a match is yes exactly when some run of the bytes fits", "empty bytes give no".
abbrev pub MatchesExactly : Type 0
MatchesExactly = (p : ℕ) (s : Bytes) → T (matches_of p s) ↔ ((s ≡ [] → ⊥) × Found (pattern p) s)
