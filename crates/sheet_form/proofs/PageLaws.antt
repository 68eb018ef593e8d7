-- The page of a decoded sheet's bytes is the page of its numbers, at every width.
use mathlib.Core.Path.{◌≡◌, refl, sym, ap, ap₂, ◌∙◌, fun_ext}
use mathlib.Core.List.{List, [], ◌∷◌, map}
use Prim.Native.Nat.{ℕ, zero, suc, ◌+◌, ◌≤◌, ◌<◌}
use native.Mathlib.Omega.{arith}
use lib.Dec.{eqb, ltb}
use lib.ListN.{length, get_or, take, drop, get_or-eq_default}
use lib.Seq.{drop-cons, get_or-take, length-take-le, ext_get_or}
use borrow.Author.Tests.{ltb-true, ltb-false}
use Rattle.common.specs.Bytes.{Bytes}
use Rattle.common.proofs.Choice.{by_test}
use Rattle.sheet.specs.Layout.{no_row, no_attribute, row_at, attribute_at, range}
use Rattle.sheet.specs.Notes.{Lined}
use Rattle.sheet.specs.Verdict.{counts_from}
use Rattle.sheet.specs.declared.line.Attribute as line
use Rattle.sheet.specs.declared.line.Layout.{Layout}
use Rattle.sheet.specs.declared.line.Row.{Row}
use Rattle.tree.specs.Attributes.{attributes_from}
use Rattle.tree.specs.Node.{Attribute}
use Rattle.tree.specs.Page.{node_at, page_of}
use Rattle.sheet_form.specs.Encoding.{encode, decode, listed, Fits}
use Rattle.sheet_form.specs.Decoded.{Decoded, counts_of, row_in, layout_for}
use Rattle.sheet_form.specs.Pages.{shown, node_in, page_in}
use Rattle.sheet_form.specs.Right.{Right}
use Rattle.sheet_form.proofs.DecodeEncode.{row_is, attribute_is, range_is}
use Rattle.sheet_form.proofs.EncodeDecode.{of_lined}
use Rattle.sheet_form.proofs.Lists.{listed_length, listed_at}
use Rattle.sheet_form.proofs.Verdicts.{depths_is, counts_listed}

-- ---- counts of the first rows

counts_prefix : (rs : List Row) (i : ℕ) → i < length rs → counts_of (take i rs) + (get_or rs i no_row).attributes ≤ counts_of rs
unfolding counts_of
counts_prefix [] i h = absurd (omega arith)
counts_prefix (r ∷ rs) zero h = omega arith
counts_prefix (r ∷ rs) (suc i) h = omega (arith, counts_prefix rs i (omega arith))

listed_prefix : {A : Type 0} (at : ℕ → A) (other : A) (l : List A) (i : ℕ) → i ≤ length l → ((j : ℕ) → j < length l → at j ≡ get_or l j other) → listed at 0 i ≡ take i l
listed_prefix at other l i h each =
    ext_get_or other (listed at 0 i) (take i l) (listed_length at 0 i ∙ sym (length-take-le i l h))
    (λ j k. let b : j < i = omega (arith, listed_length at 0 i) in listed_at at other i j b ∙ each j (omega arith) ∙ sym (get_or-take i l j other b))

module _ (w : ℕ) (d : Decoded) (fits : Fits w d) where
  abbrev s : Bytes
  s = encode w d

  abbrev l : Layout
  l = layout_for w d

  first_counts : (i : ℕ) → i ≤ length d.rows → counts_from s l 0 i ≡ counts_of (take i d.rows)
  first_counts i h = counts_listed s l 0 i ∙ ap counts_of (listed_prefix (row_at s l) no_row d.rows i h (λ j b. row_is w d fits j))

  shown_at : (a : line.Attribute) → record { name = range s l a.name_at a.name_len; value = range s l a.value_at a.value_len } ≡ shown d a
  shown_at a = rw (range_is w d a.name_at a.name_len, range_is w d a.value_at a.value_len)

  attributes_shown : (j n : ℕ) → j + n ≤ length d.attributes → attributes_from s l j n ≡ map (shown d) (take n (drop j d.attributes))
  unfolding attributes_from
  attributes_shown j zero h = refl
  attributes_shown j (suc n) h =
      let b : j < length d.attributes = omega arith in
      rw (drop-cons d.attributes j no_attribute b)
      (ap₂ (λ (a : Attribute) (rest : List Attribute). a ∷ rest) (shown_at (attribute_at s l j) ∙ ap (shown d) (attribute_is w d fits j)) (attributes_shown (suc j) n (omega arith)))

  module _ (r : Right d) where
    node_is : (i : ℕ) → i < length d.rows → node_at s l i ≡ node_in d i
    unfolding node_at node_in
    node_is i h =
        rw (
          first_counts i (omega arith),
          row_is w d fits i,
          range_is w d (row_in d i).name_at (row_in d i).name_len,
          range_is w d (row_in d i).value_at (row_in d i).value_len,
          attributes_shown (counts_of (take i d.rows)) (row_in d i).attributes (omega (arith, counts_prefix d.rows i h, r.counts)),
        )

    -- past the last row there is nothing
    node_past : (i : ℕ) → length d.rows ≤ i → node_at s l i ≡ node_in d i
    unfolding node_at node_in attributes_from
    node_past i h = rw (row_is w d fits i, get_or-eq_default d.rows no_row h, range_is w d 0 0)

    node_all : (i : ℕ) → node_at s l i ≡ node_in d i
    node_all i = by_test (ltb i (length d.rows)) (λ t. node_is i (ltb-true i (length d.rows) t)) (λ t. node_past i (ltb-false i (length d.rows) t))

    marked_all : (i : ℕ) → (page_of s l).marked i ≡ (page_in d).marked i
    marked_all i = ap (λ (x : Row). eqb x.skip 1) (row_is w d fits i)

    pub page_encode : page_of (encode w d) (layout_for w d) ≡ page_in d
    page_encode = λ k. record { depths = depths_is w d fits k; node = fun_ext node_all k; marked = fun_ext marked_all k; root = d.root }

-- the page of an accepted sheet is that of what it decodes to
pub page_decode : {s : Bytes} {l : Layout} → Lined s l → Right (decode l s) → page_of s l ≡ page_in (decode l s)
page_decode {s} {l} lined right =
    let facts = of_lined lined in
    ap₂ page_of (sym facts.bytes) (sym facts.layout) ∙ page_encode l.width (decode l s) facts.fits right
