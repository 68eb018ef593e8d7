-- `relatives::past` meets its contract.
use mathlib.Core.Path.{sym, ◌∙◌}
use native.Mathlib.Omega.{arith}
use Rattle.sheet.specs.Layout.{depths}
use Rattle.tree.proofs.Column.{below_length, past_length, depth_is}
use Rattle.tree.proofs.Scans.{past_start, past_stop, past_more, past_done}
use Rattle.tree.proofs.relatives.past.Goals as goal

pub depth_at-requires : goal.depth_at-requires
depth_at-requires c = let p = c.requires in (p.0.lined, p.1)

pub returns : goal.returns
returns c =
    let a = c.args in
    c.past_from.ensures ∙ rw (depth_is _ _ _ c.requires.1 c.depth_at.ensures) (sym (past_start (depths a.s.now a.l) a.i))
