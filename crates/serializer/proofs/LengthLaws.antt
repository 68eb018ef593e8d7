-- The length of an entry's text with a piece more.
use mathlib.Core.Path.{◌≡◌}
use mathlib.Core.Bool.{Bool, true}
use Prim.Native.Nat.{ℕ, ◌+◌, ◌<◌}
use native.Mathlib.Omega.{arith}
use lib.ListN.{length}
use Rattle.common.specs.Answer.{capped}
use Rattle.common.specs.Bytes.{Bytes, length_limit}
use Rattle.text.specs.Text.{escape}
use Rattle.writer.specs.Shown.{escaped_if}

-- an escaped length that fits is no capped one
pub longer_escaped : {escaped : Bool} {n : ℕ} (len : ℕ) (s : Bytes) → n ≡ capped (length (escape s)) → escaped ≡ true → len + length (escaped_if escaped s) < length_limit → n ≡ length (escaped_if escaped s)
longer_escaped len s e t h = rw t (omega (arith, e, rw t at h))
