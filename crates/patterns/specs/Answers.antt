-- What the entry point answers, and document 01's numbers for it.
use Rattle.std.specs.Prelude.{Bool, cond, ℕ, Result, Ok, Err, ltb}
use Rattle.common.specs.Bytes.{Bytes}
use Rattle.common.specs.Answer.{Answer, refused, accepted}
use Rattle.common.specs.Refusals.{no_pattern}
use Rattle.patterns.specs.Match.{matches_of}
use Rattle.patterns.specs.Patterns.{last_pattern}
use Rattle.patterns.specs.declared.NoPattern.{NoPattern}

-- 0 with second number 1 for yes and 0 for no
abbrev pub said : Bool → Answer
said b = accepted (cond b 1 0) 0 0

-- the numbers of each case; "36: pattern number above 20; second number that"
abbrev pub numbers : Result Bool NoPattern → Answer
numbers (Ok b) = said b
numbers (Err e) = refused no_pattern e.0

-- in document 01's numbers
abbrev pub answer_of : ℕ → Bytes → Answer
answer_of p s = cond (ltb last_pattern p) (refused no_pattern p) (said (matches_of p s))

-- the cases themselves
abbrev pub matched : ℕ → Bytes → Result Bool NoPattern
matched p s = cond (ltb last_pattern p) (Err (record { 0 = p })) (Ok (matches_of p s))
