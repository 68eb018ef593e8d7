-- `after_off` meets its contract.
use mathlib.Core.Path.{sym}
use Rattle.serializer.proofs.StepLaws.{after_off_none}
use Rattle.serializer.proofs.WorksLaws.{works_by}
use Rattle.serializer.proofs.step.after_off.Goals as goal

pub returns : goal.returns
returns c = record { at = λ write a. works_by (c.block_margin.ensures.at write a) (λ under S h. sym (after_off_none _ _ S)) }
