-- `field::more_digits` meets its contract.
use Prim.Native.Nat.{◌-◌, ◌^◌, ◌≤◌, ◌<◌}
use mathlib.Core.Path.{◌≡◌}
use lib.ListN.{take, drop}
use Rattle.sheet.specs.Columns.{Value, columns_from}
use Rattle.sheet.proofs.field.more_digits.Given as goal

abbrev pub invariant-loop-i : goal.invariant-loop-i
invariant-loop-i l =
    (l.at ≤ l.i) × (l.i ≤ l.end) × (0 < l.n) × (l.n < 10 ^ (19 - (l.end - l.i))) × (columns_from (Value l.n) (take (l.end - l.i) (drop l.i l.s)) ≡ columns_from (Value l.n-2) (take (l.end - l.at) (drop l.at l.s)))

abbrev pub decreases-loop-i : goal.decreases-loop-i
decreases-loop-i l = l.end - l.i
