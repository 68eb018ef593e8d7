-- `put_between` meets its contract.
use Rattle.serializer.specs.Progress.{read_of}
use Rattle.writer.specs.Shown.{escaped_if}
use Rattle.collect.proofs.PieceLaws.{between_first, between_text, between_last, between_shows}
use Rattle.collect.proofs.ReadLaws.{read_behind}
use Rattle.collect.proofs.added.put_between.Goals as goal

pub say-a-requires : goal.say-a-requires
say-a-requires c = between_first c.args.before.now (escaped_if c.args.escapes c.args.text.now) c.args.after.now (read_of c.args.p.showing c.args.escapes c.args.text.now) c.requires

pub show-b-requires : goal.show-b-requires
show-b-requires c = between_text c.args.before.now (escaped_if c.args.escapes c.args.text.now) c.args.after.now (read_of c.args.p.showing c.args.escapes c.args.text.now) c.requires c.say-a.ensures

pub say-requires : goal.say-requires
say-requires c = between_last c.args.before.now (escaped_if c.args.escapes c.args.text.now) c.args.after.now (read_of c.args.p.showing c.args.escapes c.args.text.now) c.requires c.say-a.ensures (read_behind c.args.p.showing c.args.before.now c.args.escapes c.args.text.now c.say-a.ensures.showing) c.show-b.ensures

pub returns : goal.returns
returns c = between_shows c.args.before.now (escaped_if c.args.escapes c.args.text.now) c.args.after.now (read_of c.args.p.showing c.args.escapes c.args.text.now) c.requires c.say-a.ensures (read_behind c.args.p.showing c.args.before.now c.args.escapes c.args.text.now c.say-a.ensures.showing) c.show-b.ensures c.say.ensures
