-- `tag_margins` meets its contract.
use mathlib.Core.Path.{sym, ◌∙◌}
use native.Mathlib.Omega.{arith}
use Rattle.serializer.proofs.HtmlLaws.{one_most}
use Rattle.writer.proofs.OutLaws.{greater_max}
use Rattle.serializer.proofs.html.tag_margins.Goals as goal

pub overflow_add-size : goal.overflow_add-size
overflow_add-size c = omega (arith, one_most c.args.block c.one.ensures, one_most c.args.n.big_block c.one-2.ensures)

pub returns-then-n : goal.returns-then-n
returns-then-n c = rw c.if-n.true (rw (c.one.ensures, c.one-2.ensures) at (c.max.ensures ∙ sym (greater_max _ _)))

pub overflow_add-result : goal.overflow_add-result
overflow_add-result c = omega (arith, one_most c.args.block c.one.ensures, one_most c.args.n.big_block c.one-2.ensures, c.requires)

pub returns : goal.returns
returns c = rw (c.if-n.false, c.one.ensures, c.one-2.ensures)
