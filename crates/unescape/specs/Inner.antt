-- What the inner functions promise.
use Rattle.std.specs.Prelude.{◌≡◌, ℕ, ◌≤◌, ◌<◌, length, get_or, Result, Ok, Err, Option, None, Some}
use Rattle.common.specs.Bytes.{Bytes}
use Rattle.text.specs.Text.{escaped}
use Rattle.unescape.specs.Unescape.{ampersand, Reading, text, no_entity}
use Rattle.unescape.specs.declared.Part.{Part}
use Rattle.unescape.specs.declared.UnescapeError.{UnescapeError}
use Rattle.unescape.specs.declared.UnescapeError.TheVariants.{NoEntity}

-- no ampersand stands from `from` on before `to`
pub record FreeOf (s : Bytes) (from to : ℕ) : Type 0 where
  pub ordered : from ≤ to
  pub within : to ≤ length s
  pub none_between : (k : ℕ) → from ≤ k → k < to → get_or s k 0 ≡ ampersand → ⊥

-- and one stands at `to`, or the text ends there
pub record NextAmpersand (s : Bytes) (from to : ℕ) : Type 0 where
  pub free : FreeOf s from to
  pub there : to < length s → get_or s to 0 ≡ ampersand

-- what an ampersand starts
abbrev pub part_of : Option ℕ → Part
part_of None = record { character = ampersand; len = 1 }
part_of (Some c) = record { character = c; len = length (escaped c) }

-- the answer where there is room for every text
abbrev pub measure : Reading → Result ℕ UnescapeError
measure (text t) = Ok (length t)
measure (no_entity at) = Err (NoEntity at)
