-- `line::read_short_line` meets its contract.
use mathlib.Core.Path.{◌∙◌}
use Rattle.sheet.proofs.LineLaws.{short_no_end, short_end}
use Rattle.sheet.proofs.line.read_short_line.Goals as goal

pub returns-then-s-end-ne10 : goal.returns-then-s-end-ne10
returns-then-s-end-ne10 c = short_no_end _ _ _ c.if-s-end-ne10.true

pub returns : goal.returns
returns c = c.read_four.ensures ∙ short_end _ _ _ c.if-s-end-ne10.false
