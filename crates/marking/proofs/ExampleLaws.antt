-- The examples are right: one list, which is computed.
use mathlib.Core.Path.{refl}
use Rattle.common.specs.Bytes.{codes, same}
use Rattle.tags.specs.Words.{words, first_word, other_words, one_of}
use Rattle.tree.specs.Rows.{past_from}
use Rattle.marking.specs.Examples.{chosen_from, ExamplesRight}
use Rattle.marking.specs.Marks.{is_listed, to_mark}

pub examples_right : ExamplesRight
unfolding chosen_from to_mark is_listed past_from one_of words first_word other_words codes same
examples_right = refl
