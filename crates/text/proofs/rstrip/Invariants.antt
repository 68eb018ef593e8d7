-- `rstrip` meets its contract.
use mathlib.Core.Path.{◌≡◌}
use lib.ListN.{take}
use Rattle.text.specs.Text.{rstrip}
use Rattle.text.proofs.rstrip.Given as goal

abbrev pub invariant-loop-n : goal.invariant-loop-n
invariant-loop-n l = rstrip (take l.n l.s) ≡ rstrip l.s
