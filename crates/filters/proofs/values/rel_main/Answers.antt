-- `values::rel_main` meets its contract.
use mathlib.Core.Path.{refl}
use native.Mathlib.Omega.{arith}
use Rattle.common.specs.Bytes.{codes, same}
use Rattle.tags.specs.Words.{words, first_word, other_words, one_of}
use Rattle.filters.specs.Filters.{rel_main}
use Rattle.filters.proofs.ValueLaws.{among_held}
use Rattle.filters.proofs.values.rel_main.Goals as goal

pub among-requires : goal.among-requires
unfolding words first_word other_words codes one_of same
among-requires c = (c.requires.0, c.requires.1, omega arith, refl)

pub returns : goal.returns
unfolding rel_main words codes
returns c = λ attributes g. among_held g.rel (words "main") c.among.ensures
