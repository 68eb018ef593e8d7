-- `showing_of` meets its contract.
use Rattle.serializer.proofs.texts.showing_of.Goals as goal

pub returns : goal.returns
returns c = rw (c.collapses-squeeze.ensures, c.trims-space.ensures)
