-- Two sheets that differ in their marks alone.
use Rattle.std.specs.Prelude.{◌≡◌, ℕ, ◌+◌, ◌*◌, ◌≤◌, ◌<◌, length, get_or, Ok}
use Rattle.common.specs.Bytes.{Bytes}
use Rattle.sheet.specs.Layout.{node_start}
use Rattle.sheet.specs.Verdict.{verdict}
use Rattle.sheet.specs.declared.line.Layout.{Layout}

-- place k of the sheet lies in the third column of a node line: "depth, kind, skip, .."
pub record InSkip (l : Layout) (k : ℕ) : Type 0 where
  pub row : ℕ
  pub there : row < l.nodes
  pub from : node_start l row + 2 * l.width ≤ k
  pub to : k < node_start l row + 3 * l.width

-- two accepted sheets that are the same in every other byte
pub record AlikeButSkips (s₁ s₂ : Bytes) (l : Layout) : Type 0 where
  pub first : verdict s₁ ≡ Ok l
  pub second : verdict s₂ ≡ Ok l
  pub size : length s₂ ≡ length s₁
  pub same : (k : ℕ) → (InSkip l k → ⊥) → get_or s₂ k 0 ≡ get_or s₁ k 0
