-- What the entry point answers for every text and output, the output after it, and the numbers.
use Rattle.std.specs.Prelude.{cond, ℕ, ltb, length, Result, Ok, Err}
use Rattle.common.specs.Answer.{Answer, refused, written, out_after}
use Rattle.common.specs.Bytes.{Bytes}
use Rattle.common.specs.Refusals as refusals
use Rattle.unescape.specs.Unescape.{Reading, text, no_entity, unescape}
use Rattle.unescape.specs.declared.UnescapeError.{UnescapeError}
use Rattle.unescape.specs.declared.UnescapeError.TheVariants.{NoEntity, TooShort}

-- "51 and its offset; then output too short, with 52 and the need", of an output of `room` bytes
abbrev pub answered_in : Reading → ℕ → Result ℕ UnescapeError
answered_in (text t) room = cond (ltb room (length t)) (Err (TooShort (length t))) (Ok (length t))
answered_in (no_entity at) room = Err (NoEntity at)

-- "when accepted it holds the bytes and zeros behind"; "output unchanged for both"
abbrev pub holding : Reading → Bytes → Bytes
holding (text t) out = out_after t out
holding (no_entity at) out = out

abbrev pub unescaped_in : Bytes → ℕ → Result ℕ UnescapeError
unescaped_in s room = answered_in (unescape s) room

abbrev pub unescaped_out : Bytes → Bytes → Bytes
unescaped_out s out = holding (unescape s) out

-- the numbers of each case
abbrev pub numbers : Result ℕ UnescapeError → Answer
numbers (Ok n) = written n
numbers (Err (NoEntity at)) = refused refusals.no_entity at
numbers (Err (TooShort need)) = refused refusals.unescape_out_too_short need
