-- Every number of the line that is printed has room in its columns, so that the line has 33 bytes and reads back.
use Rattle.std.specs.Prelude.{◌≡◌, ℕ, ◌<◌, length, take, Some}
use Rattle.common.specs.Answer.{Answer}
use Rattle.common.specs.Bytes.{Bytes}
use Rattle.sheet.specs.Lines.{short_line_of}
use Rattle.sheet.specs.declared.line.Quad.{Quad}
use Rattle.printing.specs.Printed.{answer_line, answer_to, printed}

-- 8 columns hold what is below 100,000,000
pub record NumbersFit (a : Answer) : Type 0 where
  pub number : a.number < 100000000
  pub second : a.second < 100000000
  pub visits : a.visits < 100000000
  pub length : a.length < 100000000

-- the four numbers as a line is read
abbrev pub quad_of : Answer → Quad
quad_of a = record { first = a.number; second = a.second; third = a.visits; fourth = a.length }

-- of one input: the line comes first in what is printed
pub record LineFits (input : Bytes) : Type 0 where
  pub fits : NumbersFit (answer_to input)
  pub long : length (answer_line (answer_to input)) ≡ 33
  pub first : take 33 (printed input) ≡ answer_line (answer_to input)
  pub reads_back : short_line_of 8 (printed input) 0 ≡ Some (quad_of (answer_to input))

-- what is to be shown
abbrev pub LinesFit : Type 0
LinesFit = (input : Bytes) → LineFits input
