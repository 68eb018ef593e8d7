-- `block_before` meets its contract.
use Rattle.serializer.proofs.step.block_before.Goals as goal

pub returns-in-MinimalHtml : goal.returns-in-MinimalHtml
returns-in-MinimalHtml c = rw c.in-MinimalHtml.is c.block_after_tag.ensures
