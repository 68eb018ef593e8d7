-- `cursor::reach` meets its contract.
use mathlib.Core.Path.{sym, ◌∙◌}
use native.Mathlib.Omega.{arith}
use Rattle.walk.proofs.Advancing.{reach_left_out, reach_alone, reach_open}
use Rattle.walk.proofs.cursor.reach.Goals as goal

pub returns-then-left-k : goal.returns-then-left-k
returns-then-left-k c = reach_left_out _ c.args.left.now c.args.stack.now _ _ _ c.requires.column_right.0 c.requires.k_in_bounds.0 c.requires.k_in_bounds.1 c.if-left-k.true

pub offset_bounds-stack-above : goal.offset_bounds-stack-above
offset_bounds-stack-above c = let p = c.requires in omega (arith, p.column_right.0.deep _ p.k_in_bounds.0)

pub bounds-stack-above : goal.bounds-stack-above
bounds-stack-above c = let p = c.requires in omega (arith, p.column_right.0.deep _ p.k_in_bounds.0)

pub returns-then-children : goal.returns-then-children
returns-then-children c = rw c.if-children.true (reach_open _ c.args.left.now c.args.stack.now _ _ _ c.requires.column_right.0 c.requires.k_in_bounds.0 c.requires.k_in_bounds.1 c.if-left-k.false (sym c.if-children.true ∙ c.stands_at-children.ensures))

pub returns : goal.returns
returns c = rw c.if-children.false (reach_alone _ c.args.left.now c.args.stack.now _ _ _ c.requires.column_right.0 c.requires.k_in_bounds.0 c.requires.k_in_bounds.1 c.if-left-k.false (sym c.if-children.false ∙ c.stands_at-children.ensures))
