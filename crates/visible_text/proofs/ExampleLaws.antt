-- The worked examples hold: one test, which is computed.
use Rattle.common.specs.Bytes.{codes, same}
use Rattle.sheet.specs.Columns.{field_of}
use Rattle.sheet.specs.Layout.{row_at, attribute_at, depths_from}
use Rattle.sheet.specs.Lines.{field_at}
use Rattle.sheet.specs.Verdict.{verdict_of, judged, counts_right, counts_from, body_right, kind_right, text_right, node_format, node_kind, node_tree}
use Rattle.sheet.specs.Verdict.{node_range, node_text, attribute_format, attribute_range, attribute_text}
use Rattle.tags.specs.Words.{words, first_word, other_words, one_of}
use Rattle.text.specs.Text.{is_ascii_whitespace, rstrip_by}
use Rattle.tree.specs.Attributes.{attributes_from}
use Rattle.tree.specs.Forest.{preorder}
use Rattle.tree.specs.Node.{tag}
use Rattle.tree.specs.Page.{kind_of, node_at}
use Rattle.tree.specs.Rows.{build, numbered, scan_of}
use Rattle.tree.specs.TextContent.{text_data, concatenated, text_content}
use Rattle.utf8.specs.Valid.{expect, valid}
use Rattle.writer.specs.Out.{greater, push, push_all, strip_by}
use Rattle.visible_text.specs.Answers.{visible_text_in, visible_text_out}
use Rattle.visible_text.specs.CollapseWhitespace.{kept_from, collapse_whitespace, ends_blank}
use Rattle.visible_text.specs.Examples.{is_right, are_right, pages, is_call_right, are_calls_right, calls, ExamplesRight}
use Rattle.visible_text.specs.VisibleText.{is_block_element, insert_block, is_silent, begin_element, begin, enters, walk, visible}
use Rattle.visible_text.specs.VisibleText.{climb, loop_from}
use Rattle.visible_text.specs.WhiteSpace.{white_two, white_three, white_length, trim_from}

pub examples_right : ExamplesRight
unfolding
    pages calls are_right is_right are_calls_right is_call_right visible_text_in visible_text_out
    visible walk begin begin_element enters insert_block is_silent is_block_element climb loop_from
    kept_from collapse_whitespace ends_blank white_two white_three white_length trim_from is_ascii_whitespace rstrip_by greater push push_all strip_by
    build numbered scan_of preorder tag text_data concatenated text_content codes same words first_word other_words one_of
    verdict_of judged counts_right counts_from body_right kind_right text_right node_format node_kind node_tree node_range node_text
    attribute_format attribute_range attribute_text row_at attribute_at depths_from field_at field_of valid expect kind_of node_at attributes_from
examples_right = tt
