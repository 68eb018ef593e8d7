-- `put_shown` meets its contract.
use mathlib.Core.Path.{sym, ◌∙◌}
use Rattle.writer.proofs.PlacesLaws.{room_as, stored_as}
use Rattle.writer.proofs.TimesLaws.{is_escaped_true, is_escaped_false}
use Rattle.writer.proofs.texts.put_shown.Goals as goal

pub put_special-requires : goal.put_special-requires
put_special-requires c = ((is_escaped_true _ _ (sym c.is_escaped.ensures ∙ c.if-is_escaped.true)).0, c.requires)

pub put_one-requires : goal.put_one-requires
put_one-requires c = room_as (is_escaped_false _ _ (sym c.is_escaped.ensures ∙ c.if-is_escaped.false)) c.requires

pub returns : goal.returns
returns c = stored_as (is_escaped_false _ _ (sym c.is_escaped.ensures ∙ c.if-is_escaped.false)) c.put_one.ensures
