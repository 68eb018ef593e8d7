-- A row's kind by its number, its begin step, and the text below it.
use mathlib.Core.Path.{◌≡◌, sym, ap, ◌∙◌}
use Prim.Native.Nat.{ℕ, ◌+◌, ◌<◌}
use lib.Dec.{eqb}
use borrow.Author.Tests.{ne_eqb, eqb-true, eqb-false}
use Rattle.common.specs.Bytes.{Bytes}
use Rattle.common.proofs.Choice.{by_test}
use Rattle.sheet.specs.Accepted.{Accepted}
use Rattle.sheet.specs.Layout.{depths, range, row_at}
use Rattle.sheet.specs.declared.line.Layout.{Layout}
use Rattle.sheet.specs.declared.line.Row.{Row}
use Rattle.tree.specs.Forest.{Forest}
use Rattle.tree.specs.Node.{element, text, comment}
use Rattle.tree.specs.Page.{kind_of, node_at}
use Rattle.tree.specs.Rows.{children_of}
use Rattle.tree.specs.TextContent.{text_content}
use Rattle.tree.proofs.Column.{depth_is}
use Rattle.tree.proofs.PageLaws.{row_kind, kind_text, is_element, value_is}
use Rattle.tree.proofs.SheetColumn.{well_formed}
use Rattle.tree.proofs.TextLaws.{text_below}
use Rattle.tree.proofs.TextLengths.{text_below_of}
use Rattle.writer.specs.Out.{Out}
use Rattle.visible_text.specs.Inner.{step_at, begin_by}
use Rattle.visible_text.specs.VisibleText.{add_text, begin}
use Rattle.visible_text.proofs.StepLaws.{element_no_text, comment_no_text, begin_text, begin_step}

module _ (s : Bytes) (l : Layout) {r : Row} (i : ℕ) (r_is : r ≡ row_at s l i) where
  pub is_text : r.kind ≡ 3 → (node_at s l i).kind ≡ text
  is_text k = row_kind s l i r_is ∙ kind_text r.kind k

  pub is_comment : (r.kind ≡ 1 → ⊥) → (r.kind ≡ 3 → ⊥) → (node_at s l i).kind ≡ comment
  unfolding kind_of
  is_comment n m = row_kind s l i r_is ∙ rw (ne_eqb r.kind 1 n, ne_eqb r.kind 3 m)

  not_text : (r.kind ≡ 3 → ⊥) → (node_at s l i).kind ≡ text → ⊥
  not_text n =
      by_test (eqb r.kind 1)
      (λ t. element_no_text (node_at s l) i (is_element s l i r_is (eqb-true r.kind 1 t)))
      (λ t. comment_no_text (node_at s l) i (is_comment (eqb-false r.kind 1 t) n))

  -- the begin step of a text, and of any other row
  module _ (children : Forest ℕ) where
    pub begins_text : {value : Bytes} → r.kind ≡ 3 → value ≡ range s l r.value_at r.value_len
        → (o : Out) → begin (node_at s l) i children o ≡ add_text value o
    begins_text k e o =
        begin_text (node_at s l) i children (is_text k) o ∙ ap (λ (v : Bytes). add_text v o) (value_is s l i r_is ∙ sym e)

    pub begins_by : {step : ℕ} → step ≡ step_at (node_at s l) i → (r.kind ≡ 3 → ⊥)
        → (o : Out) → begin (node_at s l) i children o ≡ begin_by step (text_content (node_at s l) i children) o
    begins_by e n o = begin_step (node_at s l) i children (not_text n) o ∙ ap (λ (k : ℕ). begin_by k (text_content (node_at s l) i children) o)
        (sym e)

-- the texts of the rows from row i + 1 on, up to the first that is not deeper
pub content_below : {s : Bytes} {l : Layout} {d i : ℕ} → Accepted s l → i < l.nodes → (node_at s l i).kind ≡ element → d ≡ (row_at s l i).depth
    → text_content (node_at s l) i (children_of (depths s l) i) ≡ text_below (node_at s l) (depths s l) d (i + 1)
content_below {s} {l} {d} {i} a h k e =
    text_below_of (node_at s l) (depths s l) (well_formed a) i k
    ∙ ap (λ (x : ℕ). text_below (node_at s l) (depths s l) x (i + 1)) (sym (depth_is s l i h e))
