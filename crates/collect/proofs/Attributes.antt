-- An attribute of a visit's row: its range, and its value.
use Rattle.std.specs.Prelude.{Option, None, Some, unwrap_or}
use mathlib.Core.Path.{◌≡◌, refl, sym, ap, ap₂, subst, ◌∙◌}
use Prim.Native.Nat.{ℕ, ◌+◌, ◌≤◌}
use Rattle.common.specs.Bytes.{Bytes, codes}
use Rattle.options.specs.declared.ExtractOptions.{ExtractOptions}
use Rattle.sheet.specs.Layout.{row_at, range}
use Rattle.sheet.specs.Verdict.{counts_from}
use Rattle.sheet.specs.declared.line.Layout.{Layout}
use Rattle.sheet.specs.declared.line.Row.{Row}
use Rattle.tree.specs.Attributes.{find_of, value_in, RangeInside, range_of}
use Rattle.tree.specs.Node.{attribute, or_empty}
use Rattle.tree.specs.Page.{node_at}
use Rattle.tree.specs.declared.attributes.Span.{Span}
use Rattle.tree.proofs.AttributeLines.{counts_fit, find_inside}
use Rattle.tree.proofs.SheetLaws.{range_is_value}
use Rattle.html2text.specs.Collect.{attr, missing_alt, alt_text}
use Rattle.collect.specs.Visits.{Visits}
use Rattle.collect.specs.declared.Visit.{Visit}

module _ {s : Bytes} {l : Layout} {v : Visit} (p : Visits s l v) where
  module _ {r : Row} (r_is : r ≡ row_at s l v.row) where
    pub lines_fit : v.first + r.attributes ≤ l.attributes
    lines_fit = rw p.first_is (counts_fit s l p.accepted v.row p.inside r_is)

    pub range_found : {x : Option Span} (name : Bytes) → x ≡ find_of s l name v.first r.attributes → x ≡ range_of s l v.row name
    range_found name f = f ∙ ap₂ (λ (first count : ℕ). find_of s l name first count) p.first_is (ap (λ (q : Row). q.attributes) r_is)

  module _ {x : Option Span} (name : Bytes) (x_is : x ≡ range_of s l v.row name) where
    pub range_inside : RangeInside l x
    range_inside =
        subst (RangeInside l) (sym x_is)
        (find_inside p.accepted name (counts_from s l 0 v.row) (row_at s l v.row).attributes
        (counts_fit s l p.accepted v.row p.inside refl))

    value_found : value_in s l x ≡ attribute (node_at s l v.row).attributes name
    value_found = ap (value_in s l) x_is ∙ range_is_value s l v.row name

    pub attr_found : or_empty (value_in s l x) ≡ attr (node_at s l v.row) name
    attr_found = ap or_empty value_found

    pub inside_at : {a : Span} → x ≡ Some a → a.at + a.len ≤ l.pool
    inside_at e = subst (RangeInside l) e range_inside

  -- an img's or area's alt, by its range
  module _ {x : Option Span} (x_is : x ≡ range_of s l v.row (codes "alt")) (o : ExtractOptions) where
    alt_is : {y : Option Span} → x ≡ y → alt_text o (node_at s l v.row) ≡ unwrap_or (value_in s l y) (missing_alt o.missing_alt)
    alt_is e =
        ap (λ (a : Option Bytes). unwrap_or a (missing_alt o.missing_alt)) (sym (value_found (codes "alt") x_is) ∙ ap (value_in s l) e)

    pub alt_absent : x ≡ None → alt_text o (node_at s l v.row) ≡ missing_alt o.missing_alt
    alt_absent e = alt_is e

    pub alt_at : {a : Span} {t : Bytes} → x ≡ Some a → t ≡ range s l a.at a.len → alt_text o (node_at s l v.row) ≡ t
    alt_at e t_is = alt_is e ∙ sym t_is
