-- The worked examples hold, computed.
use Rattle.std.proofs.Common.{refl}
use lib.Ieee.{lt, div, of_int, of_bits}
use Rattle.common.specs.Bytes.{codes, same}
use Rattle.text.specs.Text.{is_ascii_whitespace, is_space, collapse_from, collapse_by}
use Rattle.tree.specs.Forest.{preorder}
use Rattle.tree.specs.Node.{tag}
use Rattle.tree.specs.Rows.{build, numbered, rows_from}
use Rattle.tree.specs.TextContent.{text_data, concatenated, text_content}
use Rattle.tree.specs.TextLength.{text_length}
use Rattle.links.specs.Links.{is_link, links_among, link_bytes, measure_of}
use Rattle.links.specs.Examples.{ExamplesHold, CountsHold}

pub examples_hold : ExamplesHold
unfolding measure_of lt div of_int of_bits
examples_hold = refl

pub counts_hold : CountsHold
unfolding text_length text_content concatenated text_data collapse_by collapse_from is_space is_ascii_whitespace preorder build numbered rows_from link_bytes links_among is_link tag same codes
counts_hold = refl
