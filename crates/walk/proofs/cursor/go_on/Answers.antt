-- `cursor::go_on` meets its contract.
use mathlib.Core.Path.{sym, ◌∙◌}
use Rattle.tree.proofs.Forests.{stands_there}
use Rattle.walk.proofs.Advancing.{all_done, reach_below, end_below}
use Rattle.walk.proofs.cursor.go_on.Goals as goal

pub returns-then-above-eq0 : goal.returns-then-above-eq0
returns-then-above-eq0 c = all_done _ c.args.left.now _ _ _ _ c.if-above-eq0.true

pub reach-requires : goal.reach-requires
reach-requires c = record { column_right = (c.requires.0, c.requires.1); k_in_bounds = stands_there _ _ _ (sym c.stands_at.ensures ∙ c.if-stands_at.true) }

pub returns-then-stands_at : goal.returns-then-stands_at
returns-then-stands_at c = let a = c.args in rw (reach_below _ a.left.now a.stack.now _ _ _ _ c.if-above-eq0.false c.skip-next.ensures (sym c.if-stands_at.true ∙ c.stands_at.ensures)) c.reach.ensures

pub returns : goal.returns
returns c = let a = c.args in end_below _ a.left.now a.stack.now _ _ _ _ c.if-above-eq0.false c.skip-next.ensures c.requires.2 (sym c.if-stands_at.false ∙ c.stands_at.ensures)
