-- `escaped_len` meets its contract.
use Prim.Native.Nat.{◌+◌, ◌^◌, ◌<◌}
use mathlib.Core.Path.{◌≡◌}
use lib.ListN.{length, drop}
use Rattle.common.specs.Answer.{capped}
use Rattle.text.specs.Text.{escape}
use Rattle.text.proofs.escaped_len.Given as goal

abbrev pub invariant-loop-b : goal.invariant-loop-b
invariant-loop-b l = (l.n < 2 ^ 64) × (capped (l.n + length (escape (drop l.b-index l.s))) ≡ capped (length (escape l.s)))
