-- `push_squeezed` meets its contract.
use mathlib.Core.Path.{refl}
use Rattle.writer.proofs.DoesLaws.{does_nothing}
use Rattle.visible_text.proofs.texts.push_squeezed.Goals as goal

pub returns-then-space : goal.returns-then-space
returns-then-space c = rw (c.if-blank.true, c.if-space.true) (does_nothing refl)

pub push-requires : goal.push-requires
push-requires c = rw (c.if-blank.true, c.if-space.false) at c.requires

pub returns-then-blank : goal.returns-then-blank
returns-then-blank c = rw (c.if-blank.true, c.if-space.false)
    c.push.ensures

pub push-requires-2 : goal.push-requires-2
push-requires-2 c = rw c.if-blank.false at c.requires

pub returns : goal.returns
returns c = rw c.if-blank.false c.push-2.ensures
