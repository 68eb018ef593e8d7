-- `trim` meets its contract.
use Rattle.text.specs.Text.{is_space}
use Rattle.text.proofs.TrimLaws.{trim_part, trim_part_length}
use Rattle.text.proofs.trim.Goals as goal

pub slice_bounds-result-end : goal.slice_bounds-result-end
slice_bounds-result-end c =
    let a = c.args in
    trim_part_length is_space a.s.now c.leading-from.result c.rstrip-n.result c.rstrip-n.ensures

pub returns : goal.returns
returns c =
    let a = c.args in
    trim_part is_space a.s.now c.leading-from.result c.rstrip-n.result c.rstrip-n.ensures c.leading-from.ensures.1
