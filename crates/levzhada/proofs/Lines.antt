-- Calls with an option line, by what the line is.
use Rattle.std.specs.Prelude.{Result, Option, Some, None}
use mathlib.Core.Path.{◌≡◌, sym, ap, ◌∙◌}
use Prim.Native.Nat.{ℕ}
use lib.ListN.{length}
use Rattle.common.specs.Answer.{Answer, refused}
use Rattle.common.specs.Bytes.{Bytes}
use Rattle.common.specs.Refusals.{wrong_options}
use Rattle.html2text.specs.Extract as extract
use Rattle.html2text.specs.declared.ExtractError.{ExtractError}
use Rattle.html2text.specs.declared.Extracted.{Extracted}
use Rattle.marking.specs.Answers.{marked_of, sheet_after}
use Rattle.marking.specs.Answers as marking
use Rattle.sheet.specs.declared.verdict.SheetError.{SheetError}
use Rattle.options.specs.Line.{line_of}
use Rattle.options.specs.declared.ExtractOptions.{ExtractOptions}
use Rattle.reader.specs.Extraction.{extraction_of, out_after_of, work_after_of}
use Rattle.levzhada.specs.Answers.{extract_numbers, extract_out, extract_work, is_on, mark_numbers, mark_sheet}

module _ (s line out work : Bytes) where
  pub by_line : {o : ExtractOptions} {e : Result Extracted ExtractError} {a : Answer} {out' work' : Bytes} → Some o ≡ line_of line → a ≡ extract.numbers e
      → (e ≡ extraction_of s o (length out) (length work)) × (out' ≡ out_after_of s o out work) × (work' ≡ work_after_of s o work)
      → (a ≡ extract_numbers s line (length out) (length work)) × (out' ≡ extract_out s line out work) × (work' ≡ extract_work s line work)
  by_line l n x = (rw (← l) (n ∙ ap extract.numbers x.0), rw (← l) x.1, rw (← l) x.2)

  pub wrong_line : {a : Answer} → None ≡ line_of line → a ≡ refused wrong_options 0
      → (a ≡ extract_numbers s line (length out) (length work)) × (out ≡ extract_out s line out work) × (work ≡ extract_work s line work)
  wrong_line l n = (rw (← l) n, rw (← l), rw (← l))

-- ---- the marker

module _ (s line : Bytes) (noscript : ℕ) where
  pub marked_by_line : {o : ExtractOptions} {m : Result ℕ SheetError} {a : Answer} {s' : Bytes} → Some o ≡ line_of line → a ≡ marking.numbers m
      → (m ≡ marked_of s o (is_on noscript)) × (s' ≡ sheet_after s o (is_on noscript))
      → (a ≡ mark_numbers s line noscript) × (s' ≡ mark_sheet s line noscript)
  marked_by_line l n x = (rw (← l) (n ∙ ap marking.numbers x.0), rw (← l) x.1)

  pub unmarked_line : {a : Answer} → None ≡ line_of line → a ≡ refused wrong_options 0
      → (a ≡ mark_numbers s line noscript) × (s ≡ mark_sheet s line noscript)
  unmarked_line l n = (rw (← l) n, rw (← l))
