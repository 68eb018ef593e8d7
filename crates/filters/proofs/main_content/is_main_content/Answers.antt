-- `main_content::is_main_content` meets its contract.
use Rattle.tree.proofs.AttributeLines.{counts_fit}
use Rattle.filters.proofs.StageLaws.{tag_named, content_text, content_comment, content_element}
use Rattle.filters.proofs.main_content.is_main_content.Goals as goal

pub returns-then-row-eq3 : goal.returns-then-row-eq3
returns-then-row-eq3 c = content_text _ _ _ c.row_at-row.ensures _ _ c.if-row-eq3.true c.part.ensures c.trim.ensures c.is_icon.ensures

pub returns-then-row-ne1 : goal.returns-then-row-ne1
returns-then-row-ne1 c = content_comment _ _ _ c.row_at-row.ensures _ _ c.if-row-ne1.true c.if-row-eq3.false

pub by_name-requires : goal.by_name-requires
by_name-requires c = (c.requires.0, c.requires.1, tag_named _ _ _ c.row_at-row.ensures c.if-row-ne1.false c.requires.2 c.part-2.ensures, rw c.requires.3 (counts_fit _ _ c.requires.0 _ c.requires.1 c.row_at-row.ensures), c.requires.4)

pub returns : goal.returns
returns c = content_element _ _ _ c.row_at-row.ensures _ _ c.if-row-ne1.false c.part-2.ensures c.requires.3 c.by_name.ensures
