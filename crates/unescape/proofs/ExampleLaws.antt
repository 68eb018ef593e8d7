-- The examples are right: one list, which is computed.
use mathlib.Core.Path.{refl}
use Rattle.common.specs.Bytes.{codes}
use Rattle.text.specs.Text.{escaped}
use Rattle.unescape.specs.Examples.{examples, ExamplesRight}
use Rattle.unescape.specs.Unescape.{starts_with, entity_among, no_entity_from, unescaped_from, unescape}

pub examples_right : ExamplesRight
unfolding examples unescape no_entity_from unescaped_from entity_among starts_with escaped codes
examples_right = refl
