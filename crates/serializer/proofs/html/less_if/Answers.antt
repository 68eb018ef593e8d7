-- `less_if` meets its contract.
use mathlib.Core.Path.{sym}
use native.Mathlib.Nat.{sub-zero}
use Rattle.serializer.proofs.html.less_if.Goals as goal

pub returns-then-list : goal.returns-then-list
returns-then-list c = rw c.if-list.true c.less_one.ensures

pub returns : goal.returns
returns c = rw c.if-list.false (sym (sub-zero _))
