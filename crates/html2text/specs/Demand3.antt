-- Demand 3, of byte strings.
use Rattle.std.specs.Prelude.{◌≡◌, Bool, true, false, List, ◌⊎◌, ℕ, ◌<◌, length, take, Ok}
use Rattle.common.specs.Bytes.{Bytes}
use Rattle.options.specs.declared.ExtractOptions.{ExtractOptions}
use Rattle.options.specs.declared.Formatting.TheVariants.{Off}
use Rattle.sheet.specs.Column.{parent_of}
use Rattle.sheet.specs.Layout.{depths}
use Rattle.sheet.specs.declared.line.Layout.{Layout}
use Rattle.tree.specs.AlikeSheets.{AlikeButSkips}
use Rattle.tree.specs.Forest.{Descendant}
use Rattle.tree.specs.Node.{Node}
use Rattle.tree.specs.Page.{page_of}
use Rattle.html2text.specs.Demand.{BlanksRight, CellsRight, TextsArePieces}
use Rattle.html2text.specs.Extract.{filtered_by, extraction_of, out_after_of}

-- ---- two sheets that differ in marks

-- "alike but for further marks in the second, on any rows that are the root or below it"
pub record AlikeButMarks (s₁ s₂ : Bytes) (l : Layout) : Type 0 where
  pub bytes : AlikeButSkips s₁ s₂ l
  -- a row that is marked in the first is marked in the second
  pub kept : (i : ℕ) → i < l.nodes → (page_of s₁ l).marked i ≡ true → (page_of s₂ l).marked i ≡ true
  -- and one that is marked in the second alone is the root or stands below it
  pub below : (i : ℕ) → i < l.nodes → (page_of s₁ l).marked i ≡ false → (page_of s₂ l).marked i ≡ true
      → (i ≡ l.root) ⊎ Descendant (parent_of (depths s₁ l)) l.root i

-- ---- the claim, whatever rows main_content leaves out by the rows, their depths, the root and the options

module _ (filters : (ℕ → Node) → List ℕ → ℕ → ExtractOptions → ℕ → Bool) where
  -- "Accepted is an extraction that gives a text: out's bytes up to the returned length."
  pub record Gives (s : Bytes) (o : ExtractOptions) (out work t : Bytes) : Type 0 where
    pub visits : ℕ
    pub answer : extraction_of filters s o (length out) (length work) ≡ Ok (record { visits = visits; len = length t })
    pub text : take (length t) (out_after_of filters s o out work) ≡ t

  -- t₁ is a text of s₁: its blanks, and what it and any text of a second sheet, with further marks, say
  pub record TextRight (s₁ : Bytes) (o : ExtractOptions) (t₁ : Bytes) : Type 0 where
    pub blanks : BlanksRight t₁
    pub pieces : (s₂ out₂ work₂ t₂ : Bytes) → Gives s₂ o out₂ work₂ t₂ → (l : Layout) → AlikeButMarks s₁ s₂ l → CellsRight (page_of s₁ l) → CellsRight (page_of s₂ l)
        → TextsArePieces (filtered_by filters) o (page_of s₁ l) (page_of s₂ l) t₁ t₂

  -- for all sheets, options and further marks
  abbrev pub Demand3 : Type 0
  Demand3 = (s₁ : Bytes) (o : ExtractOptions) (out₁ work₁ t₁ : Bytes) → o.formatting ≡ Off → Gives s₁ o out₁ work₁ t₁ → TextRight s₁ o t₁
