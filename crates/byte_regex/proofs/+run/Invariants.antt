-- `run` meets its contract.
use Prim.Native.Nat.{◌-◌}
use Rattle.byte_regex.specs.Joined.{joined}
use Rattle.byte_regex.specs.Meaning.{steps_of}
use Rattle.byte_regex.proofs.MoveLaws.{left, Running}
use Rattle.byte_regex.proofs.+run.Given as goal

abbrev pub invariant-loop-step : goal.invariant-loop-step
invariant-loop-step l = Running (steps_of l.steps) (joined l.class l.id) l.first l.from l.i l.at

abbrev pub decreases-loop-step : goal.decreases-loop-step
decreases-loop-step l = left (joined l.class l.id) l.i l.at

abbrev pub decreases-run : goal.decreases-run
decreases-run l = 65536 - l.first
