-- `read::digits_at` meets its contract.
use Prim.Native.Nat.{◌+◌, ◌-◌, ◌*◌, ◌^◌, ◌≤◌}
use mathlib.Core.Path.{◌≡◌}
use lib.ListN.{take, drop}
use Rattle.sheet.specs.Reading.{plain_from, plain}
use Rattle.sheet.proofs.read.digits_at.Given as goal

abbrev pub invariant-loop-i : goal.invariant-loop-i
invariant-loop-i l = (l.at ≤ l.i) × (l.i ≤ l.end) × (l.n + 2 ≤ 2 * 10 ^ (l.i - l.at)) × (plain_from l.n (take (l.end - l.i) (drop l.i l.s)) ≡ plain (take (l.end - l.at) (drop l.at l.s)))

abbrev pub decreases-loop-i : goal.decreases-loop-i
decreases-loop-i l = l.end - l.i
