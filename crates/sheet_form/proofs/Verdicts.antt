-- The verdict on a decoded sheet's bytes is the verdict on its numbers, whatever the width.
use Rattle.std.specs.Prelude.{Ok, Err}
use mathlib.Core.Path.{◌≡◌, refl, sym, ap, ap₂, ◌∙◌, subst, fun_ext}
use mathlib.Core.Bool.{not, cond}
use mathlib.Core.List.{List, ◌∷◌, map}
use Prim.Native.Nat.{ℕ, zero, suc, ◌+◌}
use native.Mathlib.Omega.{arith}
use lib.ListN.{length}
use borrow.Author.Tests.{le-ltb, eq-eqb}
use Rattle.common.specs.Bytes.{Bytes}
use Rattle.sheet.specs.Layout.{no_row, header_length, size_of, layout_of, row_at, depths_from, depths}
use Rattle.sheet.specs.Lines.{quad_from}
use Rattle.sheet.specs.Notes.{Lined}
use Rattle.sheet.specs.Verdict.{counts_right, kind_right, row_ranges, row_texts, attribute_ranges, attribute_texts, place_right, node_kind, node_tree, node_range, attribute_range, node_text, attribute_text, counts_from, judged, verdict_of}
use Rattle.sheet.specs.declared.line.Layout.{Layout}
use Rattle.sheet.specs.declared.line.Row.{Row}
use Rattle.sheet.specs.declared.verdict.SheetError.TheVariants.{Counts}
use Rattle.sheet_form.specs.Encoding.{encode, listed, Fits}
use Rattle.sheet_form.specs.Decoded.{Decoded, counts_of, depths_in, layout_for}
use Rattle.sheet_form.specs.Judged.{kind_in, tree_in, row_range_in, attribute_range_in, row_text_in, attribute_text_in, rows_in, attributes_in, judged_in, counts_in, verdict_in}
use Rattle.sheet_form.proofs.DecodeEncode.{pool_is, row_is, attribute_is, encode_lined}
use Rattle.sheet_form.proofs.Lists.{listed_is}

-- ---- what 11 and 12 do not refuse is judged by its counts and its lines

module _ (w : ℕ) (s : Bytes) where
  abbrev k : Layout
  k = layout_of w (quad_from w s 0)

  here : Lined s k → verdict_of w s ≡ cond (not (counts_right k)) (Err Counts) (judged s k)
  unfolding verdict_of
  here lined = rw (le-ltb (length s) (header_length w) (omega (arith, lined.size)), lined.header, eq-eqb (length s) (size_of k) lined.size)

lined_verdict : {s : Bytes} {l : Layout} → Lined s l → verdict_of l.width s ≡ cond (not (counts_right l)) (Err Counts) (judged s l)
lined_verdict {s} {l} lined =
    subst (λ (x : Layout). verdict_of l.width s ≡ cond (not (counts_right x)) (Err Counts) (judged s x)) (sym lined.layout) (here l.width s (subst (Lined s) lined.layout lined))

-- ---- columns of the rows

module _ (s : Bytes) (l : Layout) where
  depths_listed : (i n : ℕ) → depths_from s l i n ≡ map (λ (r : Row). r.depth) (listed (row_at s l) i n)
  unfolding depths_from listed
  depths_listed i zero = refl
  depths_listed i (suc n) = ap (λ (ds : List ℕ). (row_at s l i).depth ∷ ds) (depths_listed (suc i) n)

  pub counts_listed : (i n : ℕ) → counts_from s l i n ≡ counts_of (listed (row_at s l) i n)
  unfolding counts_from listed counts_of
  counts_listed i zero = refl
  counts_listed i (suc n) = ap (λ (c : ℕ). (row_at s l i).attributes + c) (counts_listed (suc i) n)

-- ---- each test

module _ (w : ℕ) (d : Decoded) (fits : Fits w d) where
  abbrev s : Bytes
  s = encode w d

  abbrev l : Layout
  l = layout_for w d

  rows_listed : listed (row_at s l) 0 (length d.rows) ≡ d.rows
  rows_listed = listed_is (row_at s l) no_row d.rows (λ i h. row_is w d fits i)

  pub depths_is : depths s l ≡ depths_in d
  depths_is = depths_listed s l 0 (length d.rows) ∙ ap (map (λ (r : Row). r.depth)) rows_listed

  pub counts_is : counts_from s l 0 (length d.rows) ≡ counts_of d.rows
  counts_is = counts_listed s l 0 (length d.rows) ∙ ap counts_of rows_listed

  kind_same : (i : ℕ) → node_kind s l i ≡ kind_in d i
  unfolding node_kind kind_in
  kind_same i = ap kind_right (row_is w d fits i)

  tree_same : (i : ℕ) → node_tree s l i ≡ tree_in d i
  unfolding node_tree tree_in
  tree_same i =
      ap (λ (pool : Bytes). place_right pool (row_at s l) (depths s l) i) (pool_is w d)
      ∙ ap₂ (λ (row : ℕ → Row) (ds : List ℕ). place_right d.pool row ds i) (fun_ext (row_is w d fits)) depths_is

  row_range_same : (i : ℕ) → node_range s l i ≡ row_range_in d i
  unfolding node_range row_range_in
  row_range_same i = ap₂ row_ranges (pool_is w d) (row_is w d fits i)

  attribute_range_same : (j : ℕ) → attribute_range s l j ≡ attribute_range_in d j
  unfolding attribute_range attribute_range_in
  attribute_range_same j = ap₂ attribute_ranges (pool_is w d) (attribute_is w d fits j)

  row_text_same : (i : ℕ) → node_text s l i ≡ row_text_in d i
  unfolding node_text row_text_in
  row_text_same i = ap₂ row_texts (pool_is w d) (row_is w d fits i)

  attribute_text_same : (j : ℕ) → attribute_text s l j ≡ attribute_text_in d j
  unfolding attribute_text attribute_text_in
  attribute_text_same j = ap₂ attribute_texts (pool_is w d) (attribute_is w d fits j)

  -- ---- the stages

  judged_same : judged s l ≡ judged_in d (Ok l)
  unfolding judged judged_in
  judged_same =
      let lined = encode_lined w d fits in
      rw (
        lined.formats.of_nodes,
        lined.formats.of_attributes,
        ap (rows_in d) (fun_ext kind_same),
        ap (rows_in d) (fun_ext tree_same),
        row_is w d fits d.root,
        ap (rows_in d) (fun_ext row_range_same),
        ap (attributes_in d) (fun_ext attribute_range_same),
        counts_is,
        ap (rows_in d) (fun_ext row_text_same),
        ap (attributes_in d) (fun_ext attribute_text_same),
      )

  pub verdict_encode : verdict_of w (encode w d) ≡ verdict_in w d
  unfolding verdict_in counts_right counts_in
  verdict_encode = lined_verdict (encode_lined w d fits) ∙ rw judged_same
