-- `pair` meets its contract.
use Rattle.patterns.proofs.CandidateLaws.{mask_read}
use Rattle.patterns.proofs.pair.Goals as goal

pub returns : goal.returns
returns c =
    let a = c.args in
    mask_read _ c.lent_masks.ensures a.group a.x a.y c.code_of.result c.code_of-2.result c.requires c.code_of.ensures c.code_of-2.ensures
