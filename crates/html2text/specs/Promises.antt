-- What the definitions promise for every page, entry and event; `theorems` (src/theorems.rt) has them as its contract.
use Rattle.std.specs.Prelude.{◌≡◌, Bool, true, false, List, ℕ, ◌≤◌, ◌<◌, length, Ok}
use Rattle.common.specs.Bytes.{Bytes}
use Rattle.options.specs.declared.ExtractOptions.{ExtractOptions}
use Rattle.options.specs.declared.Formatting.{Formatting}
use Rattle.sheet.specs.Verdict.{verdict}
use Rattle.sheet.specs.declared.line.Layout.{Layout}
use Rattle.tree.specs.Forest.{Forest}
use Rattle.tree.specs.Node.{Node}
use Rattle.tree.specs.Page.{Page, page_of, SamePage}
use Rattle.html2text.specs.Alike.{SameNumbers, Alike, SameWalk, PagesAlike, SameExtraction, SameAnswers}
use Rattle.html2text.specs.Bounds.{most_events, EachAdds, RunBounded, EventsBounded}
use Rattle.html2text.specs.Collect.{Event}
use Rattle.html2text.specs.Demand3.{Demand3}
use Rattle.html2text.specs.Fused.{Fused, Fusion}
use Rattle.html2text.specs.Levels.{StepLevels}
use Rattle.html2text.specs.Serialize.{State}
use Rattle.html2text.specs.Showing.{ShownInPieces, FedInTwo}
use Rattle.html2text.specs.Theorems.{HidesRows, PageRight, WalkOfTree, LevelMet}
use Rattle.html2text.specs.declared.ExtractNode.{ExtractNode}

-- the walk of `extract_plain_text`
pub record WalkRight : Type 0 where
  pub page : (s : Bytes) (l : Layout) → verdict s ≡ Ok l → PageRight (page_of s l)
  pub tree : (p : Page) (hidden_at : ℕ → ℕ → Bool) (hidden : ℕ → Bool) (o : ExtractOptions) → HidesRows p hidden_at hidden → PageRight p → WalkOfTree p hidden_at hidden o
  pub level : (p : Page) (hidden : ℕ → Bool) (o : ExtractOptions) → LevelMet p hidden o

-- what the passes of the code stand on: entries taken as they close, their texts shown in pieces, numbers that fit a word
pub record PassesRight : Type 0 where
  pub fusion : (o : ExtractOptions) (es : List Event) → Fusion o es
  pub pieces : (f : Formatting) (bullets : Bool) → ShownInPieces f bullets
  pub fed : (o : ExtractOptions) (e : Event) (F : Fused) → FedInTwo o e F
  pub levels : (f : Formatting) (bullets : Bool) (n : ExtractNode) (text : Bytes) (S : State) → StepLevels f bullets n text S
  pub events : (s : Bytes) (l : Layout) → verdict s ≡ Ok l → (hidden : ℕ → Bool) (o : ExtractOptions) → EventsBounded s l hidden o
  pub run : (o : ExtractOptions) (es : List Event) → length es ≤ most_events → EachAdds o es → RunBounded o es

-- trees and pages that are alike but for row numbers
pub record AlikeRight : Type 0 where
  pub numbers : SameNumbers
  pub walk : (old : ℕ → ℕ) (node₁ : ℕ → Node) (hidden₁ : ℕ → Bool) (node₂ : ℕ → Node) (hidden₂ : ℕ → Bool) (o : ExtractOptions) (f g : Forest ℕ)
      → Alike old node₁ hidden₁ node₂ hidden₂ f g → SameWalk old node₁ hidden₁ node₂ hidden₂ o f g
  pub extraction : (old : ℕ → ℕ) (filtered₁ : ℕ → Bool) (p₁ : Page) (filtered₂ : ℕ → Bool) (p₂ : Page) (o : ExtractOptions)
      → PagesAlike old filtered₁ p₁ filtered₂ p₂ o → SameExtraction old filtered₁ p₁ filtered₂ p₂ o
  -- the same rows and, with main_content, the same of them filtered out
  pub page : (filtered₁ : ℕ → Bool) (p₁ : Page) (filtered₂ : ℕ → Bool) (p₂ : Page) (o : ExtractOptions)
      → SamePage p₁ p₂ → p₁.root < length p₁.depths → (o.main_content ≡ true → (i : ℕ) → i < length p₁.depths → filtered₁ i ≡ filtered₂ i)
      → PagesAlike (λ i. i) filtered₁ p₁ filtered₂ p₂ o
  pub sheets : (filters : (ℕ → Node) → List ℕ → ℕ → ExtractOptions → ℕ → Bool) (s₁ s₂ : Bytes) (l₁ l₂ : Layout) (o : ExtractOptions)
      → verdict s₁ ≡ Ok l₁ → verdict s₂ ≡ Ok l₂ → SamePage (page_of s₁ l₁) (page_of s₂ l₂) → o.main_content ≡ false
      → SameAnswers filters s₁ s₂ o

-- demand 3, whatever rows main_content leaves out
abbrev pub Demand3ForAll : Type 0
Demand3ForAll = (filters : (ℕ → Node) → List ℕ → ℕ → ExtractOptions → ℕ → Bool) → Demand3 filters
