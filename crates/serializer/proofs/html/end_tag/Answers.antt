-- `end_tag` meets its contract.
use mathlib.Core.Path.{sym}
use Rattle.common.specs.Bytes.{codes}
use Rattle.writer.proofs.DoesLaws.{ready_by, does_by}
use Rattle.serializer.proofs.HtmlLaws.{tag_end_line, tag_end_plain}
use Rattle.serializer.proofs.html.end_tag.Goals as goal

pub put-requires : goal.put-requires
unfolding codes
put-requires c = ready_by c.requires (λ under o h. tag_end_line c.if-line.true o)

pub returns-then-line : goal.returns-then-line
unfolding codes
returns-then-line c = does_by c.put.ensures (λ under o h. sym (tag_end_line c.if-line.true o))

pub put-requires-2 : goal.put-requires-2
unfolding codes
put-requires-2 c = ready_by c.requires (λ under o h. tag_end_plain c.if-line.false o)

pub returns : goal.returns
unfolding codes
returns c = does_by c.put-2.ensures (λ under o h. sym (tag_end_plain c.if-line.false o))
