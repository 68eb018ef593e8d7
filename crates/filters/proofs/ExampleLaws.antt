-- The worked examples hold: one test, which is computed.
use lib.Ieee.{lt, of_bits, div, of_int}
use Rattle.common.specs.Bytes.{codes, same}
use Rattle.links.specs.Links.{is_link, links_among, link_bytes, measure_of, link_cluster}
use Rattle.byte_regex.specs.Regex.{lower, is_dash, is_hex_digit, in_class, word, exact}
use Rattle.byte_regex.specs.Match.{fit, finds}
use Rattle.tags.specs.Tags.{is_block}
use Rattle.tags.specs.Words.{words, first_word, other_words, one_of}
use Rattle.text.specs.Text.{is_space, is_ascii_whitespace, trim_start_by, rstrip_by, trim_by, collapse_from, collapse_by}
use Rattle.tree.specs.Forest.{preorder}
use Rattle.tree.specs.Node.{tag, attribute}
use Rattle.tree.specs.Rows.{build, numbered, scan_of}
use Rattle.tree.specs.TextLength.{text_length}
use Rattle.tree.specs.TextContent.{text_data, concatenated, text_content}
use Rattle.utf8.specs.Character.{is_character}
use Rattle.utf8.specs.Encoding.{encode}
use Rattle.filters.specs.Examples.{filtered_from, is_right, are_right, icons, pages, ExamplesAreRight}
use Rattle.filters.specs.Filters.{hidden_by_attribute, not_displayed, skip_link, signin_meta_or_social, ad_attribute, logo_or_ad, not_block, rel_main, role_outside, comment_section, article, landmark, by_block, by_class_and_id, by_attributes, by_name, is_main_content, filter_depth, filtered}
use Rattle.filters.specs.Footer.{is_body, is_not_text, body_from, followed_from}
use Rattle.filters.specs.Icon.{in_legacy_range, is_legacy_icon, is_icon_character, is_icon}

pub examples_are_right : ExamplesAreRight
unfolding
    icons pages are_right is_right filtered_from filtered filter_depth is_main_content by_name by_attributes by_class_and_id by_block
    landmark article comment_section role_outside rel_main not_block logo_or_ad ad_attribute signin_meta_or_social skip_link not_displayed hidden_by_attribute
    is_body is_not_text body_from followed_from in_legacy_range is_legacy_icon is_icon_character is_character encode is_icon
    link_cluster measure_of link_bytes links_among text_length is_link text_content concatenated text_data preorder build numbered scan_of tag attribute
    codes same words first_word other_words one_of is_block finds fit word exact in_class lower is_dash is_hex_digit
    is_space is_ascii_whitespace trim_start_by rstrip_by trim_by collapse_from collapse_by lt of_bits div of_int
examples_are_right = tt
