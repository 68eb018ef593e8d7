-- `put_rest` meets its contract.
use Prim.Native.Nat.{◌-◌, ◌%◌}
use native.Mathlib.Omega.{arith}
use lib.ListN.{length, length-take}
use Rattle.writer.proofs.WordsLaws.{words_room, rest_room, parts_put}
use Rattle.writer.proofs.texts.put_rest.Goals as goal

pub slice_bounds-put_words-end : goal.slice_bounds-put_words-end
slice_bounds-put_words-end c = simp length-take (omega arith)

pub put_words-a-requires : goal.put_words-a-requires
put_words-a-requires c =
    let a = c.args in
    let s = c.args.s.now in
    (simp length-take (omega arith), words_room s (length s - length s % 8) a.squeeze a.space a.times c.requires)

pub put_bytes-b-requires : goal.put_bytes-b-requires
put_bytes-b-requires c =
    let s = c.args.s.now in
    rest_room s (length s - length s % 8) c.put_words-a.ensures c.requires

pub overflow_add-result : goal.overflow_add-result
overflow_add-result c =
    let s = c.args.s.now in
    let p = parts_put s (length s - length s % 8) c.put_words-a.ensures c.put_bytes-b.ensures in
    omega (arith, c.well_formed, p.read_is)

pub returns : goal.returns
returns c =
    let s = c.args.s.now in
    parts_put s (length s - length s % 8) c.put_words-a.ensures c.put_bytes-b.ensures
