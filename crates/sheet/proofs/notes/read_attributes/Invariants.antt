-- `notes::read_attributes` meets its contract.
use Prim.Native.Nat.{◌-◌}
use Rattle.sheet.proofs.AttributePass.{Attributes}
use Rattle.sheet.proofs.notes.read_attributes.Given as goal

abbrev pub invariant-loop-j : goal.invariant-loop-j
invariant-loop-j l = Attributes l.s l.fn.l l.n l.at l.j

abbrev pub decreases-loop-j : goal.decreases-loop-j
decreases-loop-j l = l.fn.l.attributes - l.j
