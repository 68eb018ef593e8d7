-- Two sheets that are alike but for further marks show pages that are alike but for further marks.
use mathlib.Core.Path.{◌≡◌, refl, ap, ◌∙◌, fun_ext}
use Prim.Native.Nat.{ℕ, ◌≤◌}
use lib.Dec.{eqb, ltb}
use borrow.Author.Tests.{le-ltb, ltb-true, ltb-false}
use Rattle.common.specs.Bytes.{Bytes}
use Rattle.common.proofs.Choice.{by_test}
use Rattle.sheet.specs.Layout.{row_at}
use Rattle.sheet.specs.declared.line.Layout.{Layout}
use Rattle.tree.specs.Page.{page_of}
use Rattle.tree.proofs.AlikeSheets.{node_same, depths_same}
use Rattle.html2text.specs.Demand.{FurtherMarks}
use Rattle.html2text.specs.Demand3.{AlikeButMarks}

module _ {s₁ s₂ : Bytes} {l : Layout} (alike : AlikeButMarks s₁ s₂ l) where
  -- behind the last row no mark is new
  skip_same : (i : ℕ) → l.nodes ≤ i → (row_at s₂ l i).skip ≡ (row_at s₁ l i).skip
  unfolding row_at
  skip_same i h = rw (le-ltb i l.nodes h)

  pub further_marks : FurtherMarks (page_of s₁ l) (page_of s₂ l)
  further_marks = record {
    depths = depths_same alike.bytes 0 l.nodes;
    node = fun_ext (node_same alike.bytes);
    root = refl;
    kept = λ i e.
        by_test (ltb i l.nodes)
        (λ h. alike.kept i (ltb-true i l.nodes h) e)
        (λ h. ap (λ (k : ℕ). eqb k 1) (skip_same i (ltb-false i l.nodes h)) ∙ e);
  }
