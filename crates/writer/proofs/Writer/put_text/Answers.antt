-- `put_text` meets its contract.
use mathlib.Core.Path.{sym, ◌∙◌}
use Prim.Native.Nat.{◌+◌, ◌-◌}
use native.Mathlib.Omega.{arith}
use lib.ListN.{length, drop, length-take, length-drop}
use Rattle.writer.proofs.OutLaws.{greater_max}
use Rattle.writer.proofs.PutLaws.{first_room, rest_room, text_put}
use Rattle.writer.proofs.Writer.put_text.Goals as goal

pub put_shown-past-requires : goal.put_shown-past-requires
put_shown-past-requires c =
    let a = c.args in
    let p = c.requires in
    first_room a.squeeze a.times a.s.now a.first p.at_in_bounds.0 p.at_in_bounds.1 p.ready
    c.is_space-blank.ensures c.squeezed-shown.ensures

pub put_rest-r-requires : goal.put_rest-r-requires
put_rest-r-requires c =
    let a = c.args in
    let p = c.requires in
    rest_room a.squeeze a.times a.s.now a.first p.at_in_bounds.0 p.at_in_bounds.1 p.ready
    c.is_space-blank.ensures c.squeezed-shown.ensures c.put_shown-past.ensures

pub overflow_add-result : goal.overflow_add-result
overflow_add-result c =
    let s = c.args.s.now in
    let k = c.args.first.at + 1 in
    omega (arith, c.well_formed, c.requires.at_in_bounds.2, c.put_rest-r.ensures.read_is, length-take (length s - k) (drop k s), length-drop k s)

pub returns : goal.returns
returns c =
    let a = c.args in
    let p = c.requires in
    text_put a.squeeze a.times a.s.now a.first p.at_in_bounds.0 p.at_in_bounds.1 p.ready
    c.is_space-blank.ensures c.squeezed-shown.ensures c.put_shown-past.ensures
    c.kept_after-kept.ensures
    c.put_rest-r.ensures (c.max.ensures ∙ sym (greater_max _ _))
