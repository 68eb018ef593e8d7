-- Skip marks do not touch the visible text: two sheets that differ in them alone have the same answer and the same output.
use Rattle.std.specs.Prelude.{Result, Err}
use mathlib.Core.Path.{◌≡◌, sym, ap, ap₂, ◌∙◌, fun_ext}
use mathlib.Core.Bool.{cond}
use mathlib.Core.List.{List}
use Prim.Native.Nat.{ℕ}
use lib.Dec.{ltb}
use Rattle.common.specs.Bytes.{Bytes}
use Rattle.sheet.specs.Layout.{depths}
use Rattle.sheet.specs.declared.line.Layout.{Layout}
use Rattle.sheet.specs.declared.verdict.SheetError.{SheetError}
use Rattle.tree.specs.AlikeSheets.{AlikeButSkips}
use Rattle.tree.specs.Node.{Node}
use Rattle.tree.specs.Page.{node_at}
use Rattle.tree.specs.Questions.{on_sheet, by_sheet}
use Rattle.tree.proofs.AlikeSheets.{node_same, depths_same}
use Rattle.writer.specs.Out.{Out}
use Rattle.visible_text.specs.declared.VisibleTextError.TheVariants.{Refused}
use Rattle.visible_text.specs.Answers.{answered_in, holding, visible_text_in, visible_text_out}
use Rattle.visible_text.specs.Theorems.{MarksUntouched}
use Rattle.visible_text.specs.VisibleText.{visible}

module _ {s₁ s₂ : Bytes} {l : Layout} (alike : AlikeButSkips s₁ s₂ l) where
  visible_same : (row : ℕ) → visible (node_at s₂ l) (depths s₂ l) row ≡ visible (node_at s₁ l) (depths s₁ l) row
  visible_same row =
      ap₂ (λ (n : ℕ → Node) (ds : List ℕ). visible n ds row) (fun_ext (node_same alike)) (depths_same alike 0 l.nodes)

  module _ {A : Type 0} (there : Out → A) (missing : A) (refuse : SheetError → A) (row : ℕ) where
    abbrev at : Bytes → A
    at s = by_sheet (λ l. there (visible (node_at s l) (depths s l) row)) missing refuse s row

    abbrev judged : Bytes → Result Layout SheetError → A
    judged s v = on_sheet (λ l. cond (ltb row l.nodes) (there (visible (node_at s l) (depths s l) row)) missing) refuse v

    answer_same : at s₂ ≡ at s₁
    answer_same =
        ap (judged s₂) alike.second
        ∙ ap (λ (o : Out). cond (ltb row l.nodes) (there o) missing) (visible_same row)
        ∙ sym (ap (judged s₁) alike.first)

pub marks_untouched : MarksUntouched
unfolding visible_text_in visible_text_out
marks_untouched s₁ s₂ l alike = record {
  answer = λ row room. answer_same alike (λ o. answered_in o room) _ (λ e. Err (Refused e)) row;
  out = λ row out. answer_same alike (λ o. holding o out) _ (λ e. out) row;
}
