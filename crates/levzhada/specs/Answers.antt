-- Calls with an option line: 33 comes before the sheet, and changes no buffer.
use Rattle.std.specs.Prelude.{Bool, not, ℕ, eqb, Option, Some, None}
use Rattle.common.specs.Answer.{Answer, refused}
use Rattle.common.specs.Bytes.{Bytes}
use Rattle.common.specs.Refusals.{wrong_options}
use Rattle.html2text.specs.Extract as extract
use Rattle.marking.specs.Answers.{marked_of, sheet_after}
use Rattle.marking.specs.Answers as marking
use Rattle.options.specs.Line.{line_of}
use Rattle.options.specs.declared.ExtractOptions.{ExtractOptions}
use Rattle.reader.specs.Extraction.{extraction_of, out_after_of, work_after_of}

abbrev pub on_line : {A : Type 0} → (ExtractOptions → A) → A → Option ExtractOptions → A
on_line f wrong (Some o) = f o
on_line f wrong None = wrong

abbrev pub extract_numbers : Bytes → Bytes → ℕ → ℕ → Answer
extract_numbers s line out work = on_line (λ o. extract.numbers (extraction_of s o out work)) (refused wrong_options 0) (line_of line)

abbrev pub extract_out : Bytes → Bytes → Bytes → Bytes → Bytes
extract_out s line out work = on_line (λ o. out_after_of s o out work) out (line_of line)

abbrev pub extract_work : Bytes → Bytes → Bytes → Bytes
extract_work s line work = on_line (λ o. work_after_of s o work) work (line_of line)

-- "noscript 0 is off, any other number on"
abbrev pub is_on : ℕ → Bool
is_on n = not (eqb n 0)

abbrev pub mark_numbers : Bytes → Bytes → ℕ → Answer
mark_numbers s line noscript = on_line (λ o. marking.numbers (marked_of s o (is_on noscript))) (refused wrong_options 0) (line_of line)

abbrev pub mark_sheet : Bytes → Bytes → ℕ → Bytes
mark_sheet s line noscript = on_line (λ o. sheet_after s o (is_on noscript)) s (line_of line)
