-- `values::among` meets its contract.
use mathlib.Core.Path.{sym, ◌∙◌}
use Rattle.tags.specs.Words.{words_of}
use Rattle.filters.proofs.ValueLaws.{absent_among}
use Rattle.filters.proofs.values.among.Goals as goal

pub returns-else-is_there : goal.returns-else-is_there
returns-else-is_there c = c.if-is_there.false ∙ absent_among c.args.s.now c.args.l _ (words_of c.args.words.now) (sym c.is_there.ensures ∙ c.if-is_there.false) c.requires.3
