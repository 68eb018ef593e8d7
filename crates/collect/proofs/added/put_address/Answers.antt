-- `put_address` meets its contract.
use mathlib.Core.Path.{refl}
use Rattle.common.specs.Bytes.{codes}
use Rattle.collect.proofs.PieceLaws.{shows_nothing, between_first, between_text, between_last, between_shows}
use Rattle.collect.proofs.added.put_address.Goals as goal

pub say-a-requires : goal.say-a-requires
unfolding codes
say-a-requires c = between_first (codes " (") c.args.href.now (codes ")") 0 (rw c.if-end.true at c.requires)

pub say-b-requires : goal.say-b-requires
unfolding codes
say-b-requires c = between_text (codes " (") c.args.href.now (codes ")") 0 (rw c.if-end.true at c.requires) c.say-a.ensures

pub say-requires : goal.say-requires
unfolding codes
say-requires c = between_last (codes " (") c.args.href.now (codes ")") 0 (rw c.if-end.true at c.requires) c.say-a.ensures refl c.say-b.ensures

pub returns-then-end : goal.returns-then-end
unfolding codes
returns-then-end c = rw c.if-end.true (between_shows (codes " (") c.args.href.now (codes ")") 0 (rw c.if-end.true at c.requires) c.say-a.ensures refl c.say-b.ensures c.say.ensures)

pub returns : goal.returns
returns c = rw c.if-end.false (shows_nothing refl refl (rw c.if-end.false at c.requires))
