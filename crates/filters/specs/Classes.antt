-- Patterns that are asked together of a class and an id.
use Rattle.std.specs.Prelude.{Bool, false, ◌||◌, List, [], ◌∷◌, ℕ, ◌+◌, ◌<◌, length}
use Rattle.common.specs.Bytes.{Bytes, length_limit}
use Rattle.patterns.specs.Match.{matches_of}

-- one of the patterns with these numbers matches
unfoldable pub any_match : List ℕ → Bytes → Bool
unfolding matches_of
any_match [] s = false
any_match (p ∷ []) s = matches_of p s
any_match (p ∷ q ∷ ps) s = matches_of p s || any_match (q ∷ ps) s

-- texts that can be joined
abbrev pub Joinable : Bytes → Bytes → Type 0
Joinable class id = length class + length id < length_limit
