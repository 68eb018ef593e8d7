-- `attributes::Slots::gather` meets its contract.
use Prim.Native.Nat.{◌+◌, ◌-◌, ◌≤◌}
use Rattle.filters.specs.Gathered.{SlotsOf}
use Rattle.filters.proofs.attributes.Slots.gather.Given as goal

abbrev pub invariant-loop-n : goal.invariant-loop-n
invariant-loop-n l = (l.n ≤ l.count) × SlotsOf l.s l.l (l.from + l.n) (l.count - l.n) l.self.spans

abbrev pub decreases-loop-n : goal.decreases-loop-n
decreases-loop-n l = l.n
