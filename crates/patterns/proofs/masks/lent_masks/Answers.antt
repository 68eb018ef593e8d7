-- `masks::lent_masks` meets its contract.
use Rattle.patterns.proofs.MaskNumbers.{mask_numbers, masks_are}
use Rattle.patterns.proofs.masks.lent_masks.Goals as goal

pub returns : goal.returns
unfolding mask_numbers
returns c = masks_are
