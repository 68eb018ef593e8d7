-- `put_text` meets its contract.
use mathlib.Core.Path.{refl}
use Rattle.common.proofs.Puts.{puts_then, puts_one}
use Rattle.printing.proofs.put_text.Goals as goal

pub returns : goal.returns
returns c = puts_then c.put-end.ensures (puts_one _ refl)
