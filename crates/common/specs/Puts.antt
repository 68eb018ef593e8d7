-- A text is stored into a lent buffer from one place on.
use Rattle.std.specs.Prelude.{◌≡◌, ℕ, ◌+◌, length}
use Rattle.std.proofs.lemmas.List.Edits.{sets}
use Rattle.common.specs.Bytes.{Bytes}

-- `text` is stored from `at` on, nothing else is changed, and `past` is the place behind it
pub record Puts (before : Bytes) (at : ℕ) (text after : Bytes) (past : ℕ) : Type 0 where
  pub bytes : after ≡ sets before at text
  pub place : past ≡ at + length text
