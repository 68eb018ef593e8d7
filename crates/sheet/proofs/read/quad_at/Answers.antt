-- `read::quad_at` meets its contract.
use native.Mathlib.Omega.{arith}
use Rattle.sheet.proofs.DigitLaws.{column_at}
use Rattle.sheet.proofs.read.quad_at.Goals as goal

pub digits_at-requires : goal.digits_at-requires
digits_at-requires c = let p = c.requires in (omega (arith, p.0), p.1, column_at (p.2 0 (omega arith)) (omega arith))

pub digits_at-requires-2 : goal.digits_at-requires-2
digits_at-requires-2 c = let p = c.requires in (omega (arith, p.0), p.1, column_at (p.2 1 (omega arith)) (omega arith))

pub digits_at-requires-3 : goal.digits_at-requires-3
digits_at-requires-3 c = let p = c.requires in (omega (arith, p.0), p.1, column_at (p.2 2 (omega arith)) (omega arith))

pub digits_at-requires-4 : goal.digits_at-requires-4
digits_at-requires-4 c = let p = c.requires in (omega (arith, p.0), p.1, column_at (p.2 3 (omega arith)) (omega arith))

pub returns : goal.returns
returns c =
    λ i. record { first = c.digits_at.ensures i; second = c.digits_at-2.ensures i; third = c.digits_at-3.ensures i; fourth = c.digits_at-4.ensures i }
