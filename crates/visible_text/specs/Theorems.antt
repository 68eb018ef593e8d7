-- What is to be shown of the visible text (document 02, request 6).
use Rattle.std.specs.Prelude.{◌≡◌, List, ℕ, ◌≤◌, ◌<◌, length}
use Rattle.common.specs.Bytes.{Bytes}
use Rattle.sheet.specs.declared.line.Layout.{Layout}
use Rattle.text.specs.Text.{is_space, is_ascii_whitespace, collapse_by}
use Rattle.text.specs.Theorems.{CollapsesRuns}
use Rattle.tree.specs.AlikeSheets.{AlikeButSkips}
use Rattle.tree.specs.Node.{Node}
use Rattle.tree.specs.Rows.{WellFormed}
use Rattle.visible_text.specs.Answers.{visible_text_in, visible_text_out}
use Rattle.visible_text.specs.CollapseWhitespace.{collapse_whitespace}
use Rattle.visible_text.specs.VisibleText.{visible, loop}

-- "equal to the Rust on the same tree and row": the Rust's loops come to their end, each within as many passes as there are rows, with the
-- text of the recursion and its greatest length
abbrev pub LoopIsWalk : Type 0
LoopIsWalk = (node_of : ℕ → Node) (depths : List ℕ) → WellFormed depths → (row : ℕ) → row < length depths
    → (n : ℕ) → length depths ≤ n → loop node_of depths row n ≡ visible node_of depths row

-- "The fact about the collapsing step that both texts use (each run of blanks becomes one U+0020, all other bytes stay in order) is proved
-- for either set of blanks."
pub record Collapsing : Type 0 where
  -- the step of serialize.rs is `collapse` with its five blanks
  pub five : (s : Bytes) → collapse_whitespace s ≡ collapse_by is_ascii_whitespace s
  pub theirs : CollapsesRuns is_ascii_whitespace
  pub ours : CollapsesRuns is_space

-- "Skip marks .. do not touch this text": of sheets that differ in their skip columns alone, the answer and the output
pub record Untouched (s₁ s₂ : Bytes) : Type 0 where
  pub answer : (row room : ℕ) → visible_text_in s₂ row room ≡ visible_text_in s₁ row room
  pub out : (row : ℕ) (out : Bytes) → visible_text_out s₂ row out ≡ visible_text_out s₁ row out

abbrev pub MarksUntouched : Type 0
MarksUntouched = (s₁ s₂ : Bytes) (l : Layout) → AlikeButSkips s₁ s₂ l → Untouched s₁ s₂
