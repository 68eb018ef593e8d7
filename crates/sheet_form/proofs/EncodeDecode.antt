-- A sheet's bytes, decoded and written again, are its bytes.
use mathlib.Core.Path.{◌≡◌, refl, sym, ap, ap₂, ◌∙◌, subst}
use mathlib.Core.Bool.{true}
use mathlib.Core.List.{◌++◌}
use Prim.Native.Nat.{ℕ, zero, suc, ◌+◌, ◌*◌, ◌^◌, ◌≤◌, ◌<◌}
use native.Mathlib.Nat.{mul-le-mul_left, mul-suc, zero-add}
use native.Mathlib.Omega.{arith}
use lib.Dec.{eqb}
use lib.ListN.{get_or, take, drop, take-append-drop}
use Rattle.common.specs.Bytes.{Bytes}
use Rattle.common.proofs.Choice.{absurd_test, and_parts}
use Rattle.sheet.specs.Columns.{field_of}
use Rattle.sheet.specs.Layout.{no_row, no_attribute, node_start, attribute_start, layout_of, row_at, attribute_at, pool_of}
use Rattle.sheet.specs.Lines.{field_at, numbers_right, after, line_right, quad_from}
use Rattle.sheet.specs.Notes.{Lined}
use Rattle.sheet.specs.Verdict.{node_format, attribute_format}
use Rattle.sheet.specs.Writing.{line}
use Rattle.sheet.specs.declared.line.Attribute.{Attribute}
use Rattle.sheet.specs.declared.line.Layout.{Layout}
use Rattle.sheet.specs.declared.line.Row.{Row}
use Rattle.sheet.proofs.FirstWrong.{all_right}
use Rattle.sheet.proofs.LayoutLaws.{number_small, row_there, attribute_there}
use Rattle.sheet.proofs.LinedLaws.{pool_length}
use Rattle.sheet_form.specs.Decoded.{row_numbers, attribute_numbers, header_numbers, layout_for}
use Rattle.sheet_form.specs.Encoding.{lines, encode, listed, decode, Below, none, some, Fits}
use Rattle.sheet_form.specs.Theorems.{OfLined}
use Rattle.sheet_form.proofs.LineBack.{numbers_at, line_form}
use Rattle.sheet_form.proofs.Lists.{listed_length, listed_at, lines_form}

-- ---- a number that is read has room in its columns

numbers_small : (w : ℕ) (s : Bytes) (at k : ℕ) → Below (10 ^ w) (numbers_at w s at k)
numbers_small w s at zero = none
numbers_small w s at (suc k) = some (number_small w s at) (numbers_small w s (at + w) k)

-- an empty field holds no number
some_column : (w : ℕ) (s : Bytes) → line_right w s 0 4 ≡ true → 1 ≤ w
unfolding field_at field_of
some_column zero s e = absurd_test (and_parts (eqb (get_or s (after 0 0 4) 0) 10) (numbers_right 0 s 0 4) e).1 refl
some_column (suc w) s e = omega arith

-- ---- the lines, by the layout that the header says

module _ (w : ℕ) (s : Bytes) where
  abbrev l : Layout
  l = layout_of w (quad_from w s 0)

  module _ (lined : Lined s l) where
    row_form : (i : ℕ) → i < l.nodes → take (8 * w + 1) (drop (node_start l i) s) ≡ line w (row_numbers (row_at s l i))
    unfolding node_format
    row_form i h =
        rw (row_there s l i h)
        (line_form w s (node_start l i) 8 (omega (arith, lined.size, mul-le-mul_left (8 * w + 1) h)) (all_right (node_format s l) l.nodes lined.formats.of_nodes i h))

    attribute_form : (j : ℕ) → j < l.attributes → take (4 * w + 1) (drop (attribute_start l j) s) ≡ line w (attribute_numbers (attribute_at s l j))
    unfolding attribute_format
    attribute_form j h =
        rw (attribute_there s l j h)
        (line_form w s (attribute_start l j) 4 (omega (arith, lined.size, mul-le-mul_left (4 * w + 1) h)) (all_right (attribute_format s l) l.attributes lined.formats.of_attributes j h))

    layout_is : layout_for w (decode l s) ≡ l
    unfolding decode
    layout_is = rw (listed_length (row_at s l) 0 l.nodes, listed_length (attribute_at s l) 0 l.attributes, pool_length lined)

    header_form : take (4 * w + 1) s ≡ line w (header_numbers (layout_for w (decode l s)))
    header_form = line_form w s 0 4 (omega (arith, lined.size)) lined.header ∙ ap (λ (k : Layout). line w (header_numbers k)) (sym layout_is)

    rows_form : drop (4 * w + 1) s ≡ lines row_numbers w (listed (row_at s l) 0 l.nodes) ++ drop (node_start l l.nodes) s
    rows_form =
        let start : 4 * w + 1 ≡ node_start l 0 = omega arith in
        let next : (i : ℕ) → node_start l (suc i) ≡ node_start l i + (8 * w + 1) = λ i. omega (arith, mul-suc (8 * w + 1) i) in
        ap (λ (p : ℕ). drop p s) start
        ∙ lines_form row_numbers w (8 * w + 1) s (row_at s l) (node_start l) next 0 l.nodes (λ j h k. row_form j (omega arith))
        ∙ ap (λ (n : ℕ). lines row_numbers w (listed (row_at s l) 0 l.nodes) ++ drop (node_start l n) s) (zero-add l.nodes)

    attributes_form : drop (node_start l l.nodes) s ≡ lines attribute_numbers w (listed (attribute_at s l) 0 l.attributes) ++ pool_of s l
    attributes_form =
        let start : node_start l l.nodes ≡ attribute_start l 0 = omega arith in
        let next : (j : ℕ) → attribute_start l (suc j) ≡ attribute_start l j + (4 * w + 1) = λ j. omega (arith, mul-suc (4 * w + 1) j) in
        ap (λ (p : ℕ). drop p s) start
        ∙ lines_form attribute_numbers w (4 * w + 1) s (attribute_at s l) (attribute_start l) next 0 l.attributes (λ j h k. attribute_form j (omega arith))
        ∙ ap (λ (n : ℕ). lines attribute_numbers w (listed (attribute_at s l) 0 l.attributes) ++ drop (attribute_start l n) s) (zero-add l.attributes)

    bytes_are : encode w (decode l s) ≡ s
    unfolding encode decode
    bytes_are =
        sym
        (sym (take-append-drop (4 * w + 1) s)
        ∙ ap₂ (λ (a b : Bytes). a ++ b) header_form (rows_form ∙ ap (λ (b : Bytes). lines row_numbers w (listed (row_at s l) 0 l.nodes) ++ b) attributes_form))

    numbers_fit : Fits w (decode l s)
    unfolding decode
    numbers_fit =
        record {
          some_column = some_column w s lined.header;
          most_columns = lined.width;
          header = subst (λ (k : Layout). Below (10 ^ w) (header_numbers k)) (sym layout_is) (numbers_small w s 0 4);
          row = λ i h.
              let there : i < l.nodes = omega (arith, listed_length (row_at s l) 0 l.nodes) in
              let here = listed_at (row_at s l) no_row l.nodes i there ∙ row_there s l i there in
              subst (λ (r : Row). Below (10 ^ w) (row_numbers r)) (sym here) (numbers_small w s (node_start l i) 8);
          attribute = λ j h.
              let there : j < l.attributes = omega (arith, listed_length (attribute_at s l) 0 l.attributes) in
              let here = listed_at (attribute_at s l) no_attribute l.attributes j there ∙ attribute_there s l j there in
              subst (λ (a : Attribute). Below (10 ^ w) (attribute_numbers a)) (sym here) (numbers_small w s (attribute_start l j) 4);
        }

pub of_lined : {s : Bytes} {l : Layout} → Lined s l → OfLined s l
of_lined {s} {l} lined =
    let w = l.width in
    let here = subst (Lined s) lined.layout lined in
    subst (OfLined s) (sym lined.layout) (record { bytes = bytes_are w s here; layout = layout_is w s here; fits = numbers_fit w s here })
