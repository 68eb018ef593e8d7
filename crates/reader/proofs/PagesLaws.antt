-- The marked pages of document 01 are right: one test, which is computed.
use mathlib.Core.Path.{refl}
use Rattle.common.specs.Bytes.{codes, same}
use Rattle.text.specs.Text.{is_ascii_whitespace, is_space, trim_start_by, rstrip_by, trim_by, collapse_from, collapse_by, escaped, escape}
use Rattle.utf8.specs.Character.{is_character}
use Rattle.utf8.specs.Encoding.{encode}
use Rattle.utf8.specs.Valid.{expect, valid}
use Rattle.sheet.specs.Columns.{columns, field_of}
use Rattle.sheet.specs.Layout.{row_at, attribute_at, depths_from}
use Rattle.sheet.specs.Lines.{field_at, four_of, short_line_of, node_line_of}
use Rattle.sheet.specs.Verdict.{counts_right, kind_right, node_format, attribute_format, node_kind, body_right, node_tree, node_range, attribute_range, text_right, node_text, attribute_text, counts_from, judged, verdict_of}
use Rattle.tree.specs.Attributes.{attributes_from}
use Rattle.tree.specs.Forest.{preorder}
use Rattle.tree.specs.Node.{tag, attribute}
use Rattle.tree.specs.Page.{kind_of, node_at}
use Rattle.tree.specs.Rows.{build, numbered, scan_of}
use Rattle.tree.specs.TextLength.{text_length}
use Rattle.tree.specs.TextContent.{text_data, concatenated, text_content}
use Rattle.tags.specs.Tags.{is_block, tag_names, tag_of, name_of}
use Rattle.tags.specs.Words.{first_word, other_words, words, one_of, number_from}
use Rattle.writer.specs.Digits.{digits_in, digits}
use Rattle.writer.specs.Out.{greater, push, push_all, strip_by}
use Rattle.byte_regex.specs.Match.{fit, finds}
use Rattle.byte_regex.specs.Regex.{lower, is_dash, is_hex_digit, in_class, word, exact}
use Rattle.patterns.specs.Patterns.{patterns}
use Rattle.links.specs.Links.{is_link, links_among, link_bytes, measure_of, link_cluster}
use Rattle.filters.specs.Filters.{hidden_by_attribute, not_displayed, skip_link, signin_meta_or_social, ad_attribute, logo_or_ad, not_block, rel_main, role_outside, comment_section, article, landmark, by_block, by_class_and_id, by_attributes, by_name, is_main_content, filter_depth, filtered}
use Rattle.filters.specs.Footer.{is_body, is_not_text, body_from, followed_from}
use Rattle.filters.specs.Icon.{in_legacy_range, is_legacy_icon, is_icon_character, is_icon}
use Rattle.html2text.specs.Collect.{added_by_element, added, collect, collect_all}
use Rattle.html2text.specs.Extract.{serialized, longest_text, names_length, longest_names, extraction, out_after, extraction_of, out_after_of}
use Rattle.html2text.specs.Serialize.{ends_blank, separated, margin_out, margin, rows, between, beside_cell, in_row, cell, count_uncollapsed, level, number_of, item, item_out, html_item, html_pre, html_br, html_marks, before_tag, tag_out, html_tag, block_margin, indent_text, lead, put_text, after_off, after_basic, finish_html, after_html, step_by}
use Rattle.html2text.specs.Walk.{events, visits}
use Rattle.sheet.specs.Writing.{line}
use Rattle.reader.specs.Pages.{cases, all_right, attribute_pool, pool_of, node_lines, lines_of, attribute_lines, attribute_count, sheet_of, PagesRight}

pub pages_right : PagesRight
unfolding
    cases all_right line attribute_pool pool_of node_lines lines_of attribute_lines attribute_count sheet_of extraction_of out_after_of
    codes same
    is_ascii_whitespace is_space trim_start_by rstrip_by trim_by collapse_from collapse_by escaped escape
    expect valid
    columns field_of
    row_at attribute_at depths_from
    field_at four_of short_line_of node_line_of
    counts_right kind_right node_format attribute_format node_kind body_right node_tree node_range attribute_range text_right node_text attribute_text counts_from judged verdict_of
    attributes_from
    preorder
    tag attribute
    kind_of node_at
    build numbered scan_of
    text_data concatenated text_content
    is_block tag_names tag_of name_of
    first_word other_words words one_of number_from
    digits_in digits
    greater push push_all strip_by
    fit finds
    lower is_dash is_hex_digit in_class word exact
    patterns
    is_link text_length links_among link_bytes measure_of link_cluster
    hidden_by_attribute not_displayed skip_link signin_meta_or_social ad_attribute logo_or_ad not_block rel_main role_outside comment_section article landmark by_block by_class_and_id by_attributes by_name is_main_content filter_depth filtered
    is_body is_not_text body_from followed_from
    in_legacy_range is_legacy_icon is_icon_character is_character encode is_icon
    added_by_element added collect collect_all
    serialized longest_text names_length longest_names extraction out_after
    ends_blank separated margin_out margin rows between beside_cell in_row cell count_uncollapsed level number_of item item_out html_item html_pre html_br html_marks before_tag tag_out html_tag block_margin indent_text lead put_text after_off after_basic finish_html after_html step_by
    events visits
pages_right = refl
