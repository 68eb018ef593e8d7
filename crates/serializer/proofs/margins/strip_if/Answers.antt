-- `strip_if` meets its contract.
use Rattle.serializer.proofs.margins.strip_if.Goals as goal

pub returns-then-bare : goal.returns-then-bare
returns-then-bare c = rw c.if-bare.true c.trim_end.ensures
