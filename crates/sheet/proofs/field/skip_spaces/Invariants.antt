-- `field::skip_spaces` meets its contract.
use Prim.Native.Nat.{◌-◌, ◌≤◌}
use mathlib.Core.Path.{◌≡◌}
use lib.ListN.{take, drop}
use Rattle.sheet.specs.Columns.{Blank, columns_from}
use Rattle.sheet.proofs.field.skip_spaces.Given as goal

abbrev pub invariant-loop-i : goal.invariant-loop-i
invariant-loop-i l = (l.at ≤ l.i) × (l.i ≤ l.end) × (columns_from Blank (take (l.end - l.i) (drop l.i l.s)) ≡ columns_from Blank (take (l.end - l.at) (drop l.at l.s)))

abbrev pub decreases-loop-i : goal.decreases-loop-i
decreases-loop-i l = l.end - l.i
