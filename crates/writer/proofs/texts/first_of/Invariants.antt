-- `first_of` meets its contract.
use mathlib.Core.Path.{◌≡◌}
use lib.ListN.{drop}
use Rattle.writer.proofs.FirstLaws.{trimmed_if}
use Rattle.writer.proofs.texts.first_of.Given as goal

abbrev pub invariant-loop-i : goal.invariant-loop-i
invariant-loop-i l = (l.read ≡ l.i) × (trimmed_if l.trim (drop l.i l.s) ≡ trimmed_if l.trim l.s)
