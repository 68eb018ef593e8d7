-- The texts of a sheet before and after it is marked by name: the rule on further marks, as demand 3 has it.
use Rattle.std.specs.Prelude.{◌≡◌, Bool, Ok}
use Rattle.common.specs.Bytes.{Bytes}
use Rattle.html2text.specs.Demand.{CellsRight, TextsArePieces}
use Rattle.html2text.specs.Demand3.{AlikeButMarks, Gives}
use Rattle.html2text.specs.Extract.{filtered_by}
use Rattle.marking.specs.Answers.{sheet_after}
use Rattle.options.specs.declared.ExtractOptions.{ExtractOptions}
use Rattle.options.specs.declared.Formatting.TheVariants.{Off}
use Rattle.sheet.specs.Verdict.{verdict}
use Rattle.sheet.specs.declared.line.Layout.{Layout}
use Rattle.tree.specs.Page.{page_of}
use Rattle.reader.specs.Extraction.{filters}

-- the sheet s, marked under the options `by` and noscript
module _ (s : Bytes) (l : Layout) (by : ExtractOptions) (noscript : Bool) where
  abbrev pub after : Bytes
  after = sheet_after s by noscript

  pub record TextsOfMarked : Type 0 where
    -- "alike but for further marks in the second, on any rows that are the root or below it"
    pub alike : AlikeButMarks s after l
    -- any text of the one and any of the other, under any options with formatting Off, `by` or others
    pub texts : (o : ExtractOptions) → o.formatting ≡ Off
        → (out₁ work₁ t₁ : Bytes) → Gives filters s o out₁ work₁ t₁
        → (out₂ work₂ t₂ : Bytes) → Gives filters after o out₂ work₂ t₂
        → CellsRight (page_of s l) → CellsRight (page_of after l)
        → TextsArePieces (filtered_by filters) o (page_of s l) (page_of after l) t₁ t₂

abbrev pub MarkedTexts : Type 0
MarkedTexts = (s : Bytes) (l : Layout) (by : ExtractOptions) (noscript : Bool) → verdict s ≡ Ok l → TextsOfMarked s l by noscript
