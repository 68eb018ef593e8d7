-- `trim_end` meets its contract.
use mathlib.Core.Path.{◌≡◌}
use lib.ListN.{take}
use Rattle.visible_text.specs.CollapseWhitespace.{trim_end}
use Rattle.visible_text.proofs.texts.trim_end.Given as goal

abbrev pub invariant-loop-i : goal.invariant-loop-i
invariant-loop-i l = trim_end (take l.i l.s) ≡ trim_end l.s
