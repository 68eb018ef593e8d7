-- `cursor::skip` meets its contract.
use Prim.Native.Nat.{◌-◌, ◌<◌}
use mathlib.Core.Path.{◌≡◌}
use lib.ListN.{length, drop}
use Rattle.tree.specs.Rows.{past_from}
use Rattle.walk.proofs.cursor.skip.Given as goal

abbrev pub invariant-loop-k : goal.invariant-loop-k
invariant-loop-k l = record { same : past_from l.d l.k (drop l.k l.depths) ≡ past_from l.d l.from (drop l.from l.depths); far : length l.depths < l.k → l.k ≡ l.from }

abbrev pub decreases-loop-k : goal.decreases-loop-k
decreases-loop-k l = length l.depths - l.k
