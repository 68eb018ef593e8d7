-- The numbers of a refusal do not depend on the width.
use Rattle.sheet.specs.declared.line.Layout.{Layout}
use Rattle.std.specs.Prelude.{Option, None, Some, Result, Ok, Err}
use mathlib.Core.Path.{◌≡◌, refl, sym, ap, ◌∙◌}
use mathlib.Core.Bool.{Bool, true, false, not, cond}
use Prim.Native.Nat.{ℕ, ◌+◌}
use lib.Dec.{eqb}
use lib.ListN.{length}
use Rattle.common.proofs.Choice.{by_test}
use Rattle.sheet.specs.Layout.{pool_limit}
use Rattle.sheet.specs.Verdict.{stage, numbers, verdict_of}
use Rattle.sheet.specs.declared.verdict.SheetError.{SheetError}
use Rattle.sheet.specs.declared.verdict.SheetError.TheVariants.{Kind, Tree, Range, Encoding}
use Rattle.sheet_form.specs.Encoding.{encode, Fits}
use Rattle.sheet_form.specs.Decoded.{Decoded, counts_of, row_in, layout_for}
use Rattle.sheet_form.specs.Judged.{kind_in, tree_in, row_range_in, attribute_range_in, row_text_in, attribute_text_in, rows_in, attributes_in, judged_in, counts_in, verdict_in}
use Rattle.sheet_form.proofs.Verdicts.{verdict_encode}

stage_numbers : (o : Option ℕ) (refuse : ℕ → SheetError) (a b : Result Layout SheetError) → numbers a ≡ numbers b → numbers (stage o refuse a) ≡ numbers (stage o refuse b)
stage_numbers None refuse a b e = e
stage_numbers (Some i) refuse a b e = refl

cond_numbers : (t : Bool) (refuse a b : Result Layout SheetError) → numbers a ≡ numbers b → numbers (cond t refuse a) ≡ numbers (cond t refuse b)
cond_numbers true refuse a b e = refl
cond_numbers false refuse a b e = e

module _ (d : Decoded) where
  pub judged_numbers : (a b : Result Layout SheetError) → numbers a ≡ numbers b → numbers (judged_in d a) ≡ numbers (judged_in d b)
  unfolding judged_in
  judged_numbers a b e =
      stage_numbers (rows_in d (kind_in d)) (λ i. Kind (i + 1)) _ _
      (stage_numbers (rows_in d (tree_in d)) (λ i. Tree (i + 1)) _ _
      (cond_numbers (not (eqb (row_in d d.root).kind 1)) (Err (Tree 0)) _ _
      (stage_numbers (rows_in d (row_range_in d)) (λ i. Range (i + 1)) _ _
      (stage_numbers (attributes_in d (attribute_range_in d)) (λ j. Range (length d.rows + j + 1)) _ _
      (cond_numbers (not (eqb (counts_of d.rows) (length d.attributes))) (Err (Range 0)) _ _
      (stage_numbers (rows_in d (row_text_in d)) (λ i. Encoding (i + 1)) _ _
      (stage_numbers (attributes_in d (attribute_text_in d)) (λ j. Encoding (length d.rows + j + 1)) a b e)))))))

  -- at two widths that hold the numbers and agree on the counts
  pub same_refusal : {w v : ℕ} → Fits w d → Fits v d → counts_in d (pool_limit w) ≡ counts_in d (pool_limit v) → numbers (verdict_of w (encode w d)) ≡ numbers (verdict_of v (encode v d))
  unfolding verdict_in
  same_refusal {w} {v} a b e =
      ap numbers (verdict_encode w d a)
      ∙ by_test (counts_in d (pool_limit v)) (λ t. rw (e, t) (judged_numbers (Ok (layout_for w d)) (Ok (layout_for v d)) refl)) (λ t. rw (e, t))
      ∙ ap numbers (sym (verdict_encode v d b))
