-- `pass_by` meets its contract.
use mathlib.Core.Path.{refl, ap, ◌∙◌, sym}
use Rattle.writer.specs.Out.{greater}
use Rattle.writer.proofs.OutLaws.{greater_max}
use Rattle.serializer.proofs.texts.pass_by.Goals as goal

pub returns : goal.returns
returns c = record { serializer = refl; showing = refl; len = λ e. c.longer-len.ensures e; need = λ e. c.max-need.ensures ∙ sym (greater_max _ _) ∙ ap (greater c.args.p.need) (c.longer-len.ensures e); read_is = refl }
