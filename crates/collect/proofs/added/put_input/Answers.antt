-- `put_input` meets its contract.
use mathlib.Core.Path.{sym, ◌∙◌}
use Rattle.serializer.proofs.ShowingLaws.{shows_none}
use Rattle.collect.proofs.added.put_input.Goals as goal

pub returns-then-is_unshown : goal.returns-then-is_unshown
returns-then-is_unshown c = rw (sym c.is_unshown.ensures ∙ c.if-is_unshown.true) (shows_none c.requires.show_ready.below)

pub put_field-requires : goal.put_field-requires
put_field-requires c = record { visits = c.requires.visits; show_ready = rw (sym c.is_unshown.ensures ∙ c.if-is_unshown.false) at c.requires.show_ready }

pub returns : goal.returns
returns c = rw (sym c.is_unshown.ensures ∙ c.if-is_unshown.false) c.put_field.ensures
