-- The worked counts hold: one test, which is computed.
use Rattle.common.specs.Bytes.{codes, same}
use Rattle.tags.specs.Tags.{tag_names, tag_of}
use Rattle.tags.specs.Words.{words, first_word, other_words, one_of, number_from}
use Rattle.text.specs.Text.{is_space, is_ascii_whitespace, trim_start_by, rstrip_by, trim_by, escaped, escape}
use Rattle.tree.specs.Node.{tag, attribute}
use Rattle.tree.specs.Rows.{build, numbered}
use Rattle.html2text.specs.Collect.{added_by_element, added, collect}
use Rattle.html2text.specs.Counts.{counts, are_counted, CountsAreRight}
use Rattle.html2text.specs.Escapes.{escaped_of_element, escaped_of, bytes_escaped, escaped_length}
use Rattle.html2text.specs.Walk.{events}

pub counts_are_right : CountsAreRight
unfolding
    counts are_counted escaped_length bytes_escaped escaped_of escaped_of_element added_by_element added collect events build numbered tag attribute
    codes same words first_word other_words one_of tag_names tag_of number_from is_space is_ascii_whitespace trim_start_by rstrip_by trim_by escaped escape
counts_are_right = tt
