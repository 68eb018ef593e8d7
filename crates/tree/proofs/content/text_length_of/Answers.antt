-- `content::text_length_of` meets its contract.
use Rattle.std.specs.Prelude.{Ok}
use mathlib.Core.Path.{sym, ap, ◌∙◌}
use Rattle.common.proofs.PassedOn.{passed_on}
use Rattle.tree.proofs.QuestionsLaws.{asked_known}
use Rattle.tree.proofs.TextLengths.{length_is}
use Rattle.tree.proofs.content.text_length_of.Goals as goal

pub returns-in_err-l : goal.returns-in_err-l
returns-in_err-l c = length_is _ _ (passed_on c.from_residual.result c.from_residual.ensures.1) (sym c.in_err-l.was ∙ c.ask.ensures)

pub text_length-requires : goal.text_length-requires
text_length-requires c = let known = asked_known _ _ (sym c.in_ok-l.was ∙ c.ask.ensures) in (known.0, known.1)

pub returns : goal.returns
returns c = length_is _ _ (ap Ok c.text_length.ensures) (sym c.in_ok-l.was ∙ c.ask.ensures)
