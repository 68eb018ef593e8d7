-- `verdict::is_whole` meets its contract.
use mathlib.Core.Path.{ap, ◌∙◌}
use Rattle.utf8.specs.Valid.{valid}
use Rattle.sheet.proofs.LayoutLaws.{pool_start_law, pool_part}
use Rattle.sheet.proofs.verdict.is_whole.Goals as goal

pub returns : goal.returns
returns c = c.valid.ensures ∙ ap valid (pool_part _ c.args.l (pool_start_law c.requires))
