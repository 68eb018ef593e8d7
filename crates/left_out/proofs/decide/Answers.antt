-- `decide` meets its contract.
use mathlib.Core.Path.{refl}
use native.Mathlib.Omega.{arith}
use Rattle.left_out.proofs.LeftOutLaws.{body_inside, left_as_noted}
use Rattle.left_out.proofs.decide.Goals as goal

pub offset_bounds-depths-body : goal.offset_bounds-depths-body
offset_bounds-depths-body c = omega (arith, body_inside c.requires.0 c.body_above-body.ensures)

pub bounds-depths-body : goal.bounds-depths-body
bounds-depths-body c = body_inside c.requires.0 c.body_above-body.ensures

pub overflow_cast-depths : goal.overflow_cast-depths
overflow_cast-depths c = omega (arith, c.type_inv.depths c.body_above-body.result)

pub decide_tree-requires : goal.decide_tree-requires
decide_tree-requires c =
    let p = c.requires in
    record { noted = p; main_content_value = (c.if-o.true, rw (p.0.depths_are, c.body_above-body.ensures)) }

pub returns : goal.returns
returns c = (left_as_noted _ c.requires.0.accepted c.requires.1 c.if-o.false, refl)
