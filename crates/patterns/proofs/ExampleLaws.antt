-- The worked examples hold: one test, which is computed.
use Rattle.common.specs.Bytes.{codes}
use Rattle.text.specs.Text.{is_space, is_ascii_whitespace}
use Rattle.byte_regex.specs.Regex.{lower, is_dash, is_hex_digit, in_class, word, exact}
use Rattle.byte_regex.specs.Match.{fit, finds}
use Rattle.patterns.specs.Patterns.{patterns}
use Rattle.patterns.specs.Match.{matches_of}
use Rattle.patterns.specs.Examples.{examples, ExamplesAreRight}

pub examples_are_right : ExamplesAreRight
unfolding examples codes matches_of finds fit patterns word exact in_class lower is_dash is_hex_digit is_space is_ascii_whitespace
examples_are_right = tt
