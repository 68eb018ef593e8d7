-- `line::read_line` meets its contract.
use mathlib.Core.Path.{sym, ◌∙◌}
use Rattle.options.proofs.LineLaws.{line_long}
use Rattle.options.proofs.line.read_line.Goals as goal

pub options_in-requires : goal.options_in-requires
options_in-requires c = line_long _ (sym c.line_right.ensures ∙ c.if-not-line_right.false)
