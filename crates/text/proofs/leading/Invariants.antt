-- `leading` meets its contract.
use mathlib.Core.Path.{◌≡◌}
use lib.ListN.{drop}
use Rattle.text.specs.Text.{is_space, trim_start_by}
use Rattle.text.proofs.leading.Given as goal

abbrev pub invariant-loop-i : goal.invariant-loop-i
invariant-loop-i l = trim_start_by is_space (drop l.i l.s) ≡ trim_start_by is_space l.s
