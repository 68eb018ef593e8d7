-- What a call says in document 01's numbers ("Who can cause which number", "The program reads an option line").
use Rattle.std.specs.Prelude.{cond, ℕ, ◌-◌, ◌^◌, min, ltb, length, Result, Ok, Err}
use Rattle.common.specs.Bytes.{Bytes, padded}
use Rattle.common.specs.Refusals.{out_too_short}
use Rattle.common.specs.declared.Answer as declared
use Rattle.common.specs.declared.TooShort.{TooShort}

-- a number, its second number, visits and length
abbrev pub Answer : Type 0
Answer = declared.Answer

-- "A refusal has visits 0 and length 0."
abbrev pub refused : ℕ → ℕ → Answer
refused n m = record { number = n; second = m; visits = 0; length = 0 }

-- the number of an accepted call is 0
abbrev pub accepted : ℕ → ℕ → ℕ → Answer
accepted second visits length = record { number = 0; second = second; visits = visits; length = length }

-- a text of n bytes with no walk behind it
abbrev pub written : ℕ → Answer
written n = accepted 0 0 n

-- the numbers of a text of so many bytes, or of a buffer that is too short for it
abbrev pub numbers : Result ℕ TooShort → Answer
numbers (Ok n) = written n
numbers (Err e) = refused out_too_short e.need

-- a need as a number of 64 bits; the escape of a text of more than 2^60 bytes can need more
abbrev pub capped : ℕ → ℕ
capped n = min n (2 ^ 64 - 1)

-- a text that is written to a lent buffer of `room` bytes: 32 with the need where it does not fit
abbrev pub written_in : Bytes → ℕ → Answer
written_in text room = cond (ltb room (length text)) (refused out_too_short (capped (length text))) (written (length text))

-- the buffer after that: "After a refusal out is unchanged", and "any other byte output that an accepted call writes is followed by zeros to its end"
abbrev pub out_after : Bytes → Bytes → Bytes
out_after text out = cond (ltb (length out) (length text)) out (padded text (length out))
