-- The steps of the patterns, and the table of their numbers.
use Rattle.std.specs.Prelude.{List, map, ℕ, T}
use Rattle.byte_regex.specs.Steps.{Step, program, encode, stay_inside}
use Rattle.patterns.specs.Patterns.{patterns}

unfoldable pub all_steps : List Step
all_steps = program patterns

unfoldable pub step_codes : List ℕ
step_codes = map encode all_steps

-- Document 01, module 3: "each step's successors stay inside its own pattern".
abbrev pub StayInside : Type 0
StayInside = T (stay_inside all_steps)
