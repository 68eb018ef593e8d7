-- The worked examples hold: one test, which is computed.
use Rattle.common.specs.Bytes.{codes, same}
use Rattle.sheet.specs.Columns.{field_of}
use Rattle.sheet.specs.Layout.{row_at, attribute_at, depths_from}
use Rattle.sheet.specs.Lines.{field_at}
use Rattle.sheet.specs.Verdict.{verdict_of, judged, counts_right, kind_right, node_format, attribute_format, node_kind, body_right, node_tree, node_range, attribute_range, text_right, node_text, attribute_text, counts_from}
use Rattle.tags.specs.Tags.{tag_names, tag_of, name_of}
use Rattle.tags.specs.Words.{words, first_word, other_words, one_of, number_from}
use Rattle.text.specs.Text.{is_space, is_ascii_whitespace, trim_start_by, rstrip_by, trim_by, collapse_from, collapse_by, escaped, escape}
use Rattle.tree.specs.Attributes.{attributes_from}
use Rattle.tree.specs.Node.{tag, attribute}
use Rattle.tree.specs.Page.{kind_of, node_at}
use Rattle.tree.specs.Rows.{build, numbered}
use Rattle.utf8.specs.Valid.{expect, valid}
use Rattle.writer.specs.Digits.{digits, digits_in}
use Rattle.writer.specs.Out.{greater, push, push_all, strip_by}
use Rattle.html2text.specs.Collect.{added_by_element, added, collect, collect_all}
use Rattle.html2text.specs.Examples.{is_right, are_right, pages, is_call_right, are_calls_right, calls, is_sheet_right, are_sheets_right, sheets, ExamplesAreRight}
use Rattle.html2text.specs.Extract.{serialized, longest_text, names_length, longest_names, extraction, out_after, work_after, extraction_of, out_after_of, work_after_of}
use Rattle.html2text.specs.Serialize.{ends_blank, separated, margin_out, margin, rows, between, beside_cell, in_row, cell, count_uncollapsed, level, number_of, item, item_out, html_item, html_pre, html_br, html_marks, before_tag, tag_out, html_tag, block_margin, indent_text, lead, put_text, after_off, after_basic, finish_html, after_html, step_by}
use Rattle.html2text.specs.Walk.{events, visits}

pub examples_are_right : ExamplesAreRight
unfolding
    pages calls sheets are_right is_right are_calls_right is_call_right are_sheets_right is_sheet_right extraction_of out_after_of work_after_of extraction out_after work_after serialized longest_text names_length longest_names
    ends_blank separated margin_out margin rows between beside_cell in_row cell count_uncollapsed level number_of item item_out html_item html_pre html_br html_marks
    before_tag tag_out html_tag block_margin indent_text lead put_text after_off after_basic finish_html after_html step_by
    added_by_element added collect collect_all events visits build numbered tag attribute digits digits_in greater push push_all strip_by
    codes same words first_word other_words one_of tag_names tag_of name_of number_from
    is_space is_ascii_whitespace trim_start_by rstrip_by trim_by collapse_from collapse_by escaped escape
    verdict_of judged node_format attribute_format node_kind kind_right body_right node_tree node_range attribute_range text_right node_text attribute_text counts_from
    counts_right row_at attribute_at depths_from field_at field_of valid expect kind_of node_at attributes_from
examples_are_right = tt
