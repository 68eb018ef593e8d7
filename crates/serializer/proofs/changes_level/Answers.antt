-- `changes_level` meets its contract.
use mathlib.Core.Path.{sym, ◌∙◌}
use borrow.Author.Tests.{eq-eqb, ne_eqb}
use Rattle.serializer.proofs.changes_level.Goals as goal

pub returns-then-is_list : goal.returns-then-is_list
returns-then-is_list c = rw (sym c.is_list.ensures ∙ c.if-is_list.true) c.if-is_list.true

pub returns-then-tag-eq-LI : goal.returns-then-tag-eq-LI
returns-then-tag-eq-LI c = rw (sym c.is_list.ensures ∙ c.if-is_list.false, eq-eqb _ _ c.if-tag-eq-LI.true)

pub returns-else-tag-eq-LI : goal.returns-else-tag-eq-LI
returns-else-tag-eq-LI c = rw (sym c.is_list.ensures ∙ c.if-is_list.false, ne_eqb _ _ c.if-tag-eq-LI.false)
