-- `names::longest_names` meets its contract.
use mathlib.Core.Path.{sym, ◌∙◌}
use native.Mathlib.Omega.{arith}
use Rattle.tree.proofs.AttributeLines.{counts_fit}
use Rattle.walk.proofs.NameLaws.{longest_start, longest_more, longest_all}
use Rattle.writer.proofs.OutLaws.{greater_max}
use Rattle.walk.proofs.names.longest_names.Goals as goal

pub loop-i-init : goal.loop-i-init
loop-i-init c = longest_start _ _

pub row_at-r-requires : goal.row_at-r-requires
row_at-r-requires c = (c.requires.lined, c.loop-i-test.true)

pub names_len-requires : goal.names_len-requires
names_len-requires c = (c.requires, rw c.loop-i.invariant.first_is (counts_fit _ _ c.requires c.loop-i.i c.loop-i-test.true c.row_at-r.ensures))

pub overflow_add-first : goal.overflow_add-first
overflow_add-first c = omega (arith, c.loop-i.invariant.first_is, counts_fit _ _ c.requires c.loop-i.i c.loop-i-test.true c.row_at-r.ensures, c.requires.sized.attributes)

pub loop-i-smaller : goal.loop-i-smaller
loop-i-smaller c = omega arith

pub loop-i-preserved : goal.loop-i-preserved
loop-i-preserved c = longest_more _ _ c.loop-i-test.true c.row_at-r.ensures (c.names_len.ensures c.loop-i.i c.row_at-r.ensures c.loop-i.invariant.first_is) (grind (arith, greater_max)) c.loop-i.invariant

pub returns : goal.returns
returns c = longest_all _ _ (omega (arith, c.loop-i.invariant.inside)) c.loop-i.invariant
