-- What the program prints for each input (document 01, "The program reads an option line ..").
use Rattle.std.specs.Prelude.{cond, [], ◌∷◌, ◌++◌, ◌≡◌, ℕ, ◌≤◌, ltb, length, take, drop, replicate, Result, Ok, Err, Option, Some, None}
use Rattle.common.specs.Answer.{Answer, refused}
use Rattle.common.specs.Bytes.{Bytes}
use Rattle.common.specs.Refusals.{input_too_long}
use Rattle.html2text.specs.Extract.{numbers}
use Rattle.html2text.specs.declared.ExtractError.{ExtractError}
use Rattle.html2text.specs.declared.Extracted.{Extracted}
use Rattle.options.specs.Line.{line_length, line_of}
use Rattle.options.specs.Line as option_line
use Rattle.options.specs.declared.ExtractOptions.{ExtractOptions}
use Rattle.reader.specs.Extraction.{extraction_of, out_after_of}
use Rattle.sheet.specs.Writing.{line}

-- "out and work have 16,384 bytes", "34: its input exceeds 16,384 bytes"
abbrev pub room : ℕ
room = 16384

abbrev pub zeros : Bytes
zeros = replicate room 0

-- "number, second number, visits, length in 8 columns each, LF"
abbrev pub answer_line : Answer → Bytes
answer_line a = line 8 (a.number ∷ a.second ∷ a.visits ∷ a.length ∷ [])

-- "and for a text the text and LF"
abbrev pub text_in : Result Extracted ExtractError → Bytes → Bytes
text_in (Ok text) out = take text.len out ++ (10 ∷ [])
text_in (Err e) out = []

-- the text of an extraction lies in the buffer
abbrev pub TextFits : Result Extracted ExtractError → Bytes → Type 0
TextFits e out = (text : Extracted) → e ≡ Ok text → text.len ≤ length out

unfoldable pub shown : Result Extracted ExtractError → Bytes → Bytes
shown r out = answer_line (numbers r) ++ text_in r out

-- of a sheet and its options
abbrev pub answered : Bytes → ExtractOptions → Bytes
answered s o = shown (extraction_of s o room room) (out_after_of s o zeros zeros)

-- 33 comes "before the sheet"
abbrev pub behind_line : Option ExtractOptions → Bytes → Bytes
behind_line (Some o) s = answered s o
behind_line None s = answer_line (option_line.numbers None)

-- 34 is "tested before 33"; its second number is 0
unfoldable pub printed : Bytes → Bytes
printed input = cond (ltb room (length input)) (answer_line (refused input_too_long 0)) (behind_line (line_of input) (drop line_length input))

-- the numbers of the line
abbrev pub answer_behind : Option ExtractOptions → Bytes → Answer
answer_behind (Some o) s = numbers (extraction_of s o room room)
answer_behind None s = option_line.numbers None

unfoldable pub answer_to : Bytes → Answer
answer_to input = cond (ltb room (length input)) (refused input_too_long 0) (answer_behind (line_of input) (drop line_length input))
