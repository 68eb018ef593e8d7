-- `cursor::advance` meets its contract.
use native.Mathlib.Omega.{arith}
use Rattle.walk.specs.Turns.{flagged}
use Rattle.walk.proofs.Advancing.{fits_of, left_of, left_at_root}
use Rattle.walk.proofs.cursor.advance.Goals as goal

pub offset_bounds-depths-row : goal.offset_bounds-depths-row
offset_bounds-depths-row c = omega (arith, fits_of _ _ c.in-Root.is c.requires.2)

pub bounds-depths-row : goal.bounds-depths-row
bounds-depths-row c = fits_of _ _ c.in-Root.is c.requires.2

pub reach-requires : goal.reach-requires
reach-requires c = let p = c.requires in record { column_right = (p.0, p.1); k_in_bounds = (fits_of _ _ c.in-Root.is p.2, omega arith) }

pub go_on-requires : goal.go_on-requires
go_on-requires c = let p = c.requires in (p.0, p.1, fits_of _ _ c.in-Below.is p.2)

pub returns-in-Root : goal.returns-in-Root
returns-in-Root c = let a = c.args in rw (left_at_root a.depths.now a.left.now a.stack.now c.in-Root.row c.in-Root.is) (rw c.from-base.ensures at c.reach.ensures)

pub returns-in-Below : goal.returns-in-Below
returns-in-Below c = let a = c.args in rw (left_of a.depths.now (flagged a.left.now) a.stack.now c.in-Below.is) c.go_on.ensures
