-- `attributes::attribute_of` meets its contract.
use mathlib.Core.Path.{sym, ◌∙◌}
use native.Mathlib.Omega.{arith}
use Rattle.common.proofs.PassedOn.{passed_on}
use Rattle.tree.proofs.AttributeLines.{counts_fit, attribute_is, attribute_found}
use Rattle.tree.proofs.QuestionsLaws.{asked_known}
use Rattle.tree.proofs.attributes.attribute_of.Goals as goal

pub returns-in_err-l : goal.returns-in_err-l
returns-in_err-l c = attribute_is _ _ _ (passed_on c.from_residual.result c.from_residual.ensures.1) (sym c.in_err-l.was ∙ c.ask.ensures)

pub attributes_from-from-requires : goal.attributes_from-from-requires
attributes_from-from-requires c = let known = asked_known _ _ (sym c.in_ok-l.was ∙ c.ask.ensures) in (known.0, omega (arith, known.1))

pub find-requires : goal.find-requires
find-requires c = let known = asked_known _ _ (sym c.in_ok-l.was ∙ c.ask.ensures) in (known.0, omega (arith, c.attributes_from-from.ensures, counts_fit _ _ known.0 _ known.1 known.2))

pub returns : goal.returns
returns c = attribute_found _ _ _ c.find.ensures c.attributes_from-from.ensures (sym c.in_ok-l.was ∙ c.ask.ensures)
