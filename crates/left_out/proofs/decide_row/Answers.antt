-- `decide_row` meets its contract.
use mathlib.Core.Path.{refl}
use native.Mathlib.Omega.{arith}
use Rattle.left_out.proofs.DecidingLaws.{row_left_out, row_kept}
use Rattle.left_out.proofs.LeftOutLaws.{row_decided, row_inside, rows_above}
use Rattle.left_out.proofs.decide_row.Goals as goal

pub bounds-depths-k : goal.bounds-depths-k
bounds-depths-k c = row_inside c.requires

pub overflow_cast-attributes : goal.overflow_cast-attributes
overflow_cast-attributes c = omega (arith, c.type_inv.attributes c.args.k)

pub leaves_out-out-requires : goal.leaves_out-out-requires
leaves_out-out-requires c =
    let p = c.requires in
    let n = c.requires.noted in
    (n.accepted, p.row, n.tag_is _ p.row, n.first_is _ p.row, rows_above p)

pub offset_bounds-stack-depth : goal.offset_bounds-stack-depth
offset_bounds-stack-depth c = omega (arith, c.type_inv.depths c.args.k)

pub bounds-stack-depth : goal.bounds-stack-depth
bounds-stack-depth c = let u = c.requires in omega (arith, u.fits.place c.args.k (row_inside u))

pub returns-then-out : goal.returns-then-out
returns-then-out c =
    let a = c.args in
    let r = row_left_out a.depths.now a.left.now a.k (row_decided c.requires refl c.leaves_out-out.ensures) c.if-out.true c.skip.ensures in
    (r.0, r.1, refl)

pub returns-else-out : goal.returns-else-out
returns-else-out c =
    let a = c.args in
    let r = row_kept a.depths.now a.left.now a.k (row_decided c.requires refl c.leaves_out-out.ensures) c.if-out.false refl in
    (r.0, r.1, refl)
