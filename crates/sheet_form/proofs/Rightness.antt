-- The bytes of a decoded sheet are accepted exactly where it is right.
use Rattle.std.specs.Prelude.{Result, Ok}
use mathlib.Core.Path.{◌≡◌, sym, ap, ◌∙◌, subst}
use mathlib.Core.Bool.{true, ◌||◌}
use mathlib.Core.List.{List}
use mathlib.Core.Logic.{◌⊎◌, inl, inr}
use Prim.Native.Nat.{ℕ, zero, suc, ◌+◌, ◌≤◌, ◌<◌}
use lib.Dec.{eqb}
use lib.ListN.{length}
use borrow.Author.Tests.{le-leb, lt-ltb, eq-eqb, eqb-true, eqb-false}
use Rattle.common.specs.Bytes.{Bytes}
use Rattle.common.proofs.Choice.{by_test, and_both}
use Rattle.common.proofs.Equality.{same_of}
use Rattle.utf8.specs.Valid.{valid}
use Rattle.sheet.specs.Accepted.{KindOf, Text, Accepted}
use Rattle.sheet.specs.Column.{parent_of}
use Rattle.sheet.specs.Layout.{most_rows, most_attributes, most_depth, pool_limit, layout_of, row_at, attribute_at}
use Rattle.sheet.specs.Lines.{quad_from}
use Rattle.sheet.specs.Notes.{Lined}
use Rattle.sheet.specs.Verdict.{kind_right, text_right, body_right, is_element, verdict_of}
use Rattle.sheet.specs.declared.line.Layout.{Layout}
use Rattle.sheet.specs.declared.line.Row.{Row}
use Rattle.sheet.specs.declared.line.Attribute.{Attribute}
use Rattle.sheet.specs.declared.verdict.SheetError.{SheetError}
use Rattle.sheet.proofs.Acceptance.{accepts}
use Rattle.sheet.proofs.FirstWrong.{none_wrong}
use Rattle.sheet_form.specs.Encoding.{encode, decode, Fits}
use Rattle.sheet_form.specs.Decoded.{Decoded, counts_of, row_in, attribute_in, range_in, layout_for}
use Rattle.sheet_form.specs.Judged.{kind_in, tree_in, row_range_in, attribute_range_in, row_text_in, attribute_text_in, judged_in, counts_in, verdict_in}
use Rattle.sheet_form.specs.Right.{TextIn, LaterIn, Right}
use Rattle.sheet_form.proofs.DecodeEncode.{row_is, attribute_is, range_is, encode_lined}
use Rattle.sheet_form.proofs.EncodeDecode.{of_lined}
use Rattle.sheet_form.proofs.Verdicts.{depths_is, counts_is, verdict_encode}

-- ---- right, it is accepted

listed_test : (k : ℕ) → (k ≡ 1) ⊎ ((k ≡ 3) ⊎ (k ≡ 8)) → (eqb k 1 || (eqb k 3 || eqb k 8)) ≡ true
listed_test k (inl e) = rw e
listed_test k (inr (inl e)) = rw e
listed_test k (inr (inr e)) = rw e

kind_right_law : (r : Row) → KindOf r → kind_right r ≡ true
unfolding kind_right
kind_right_law r p =
    and_both (listed_test r.kind p.listed) (and_both (le-leb r.skip 1 p.mark)
    (by_test (eqb r.kind 1)
    (λ t. rw t (eq-eqb r.value_len 0 (p.element (eqb-true r.kind 1 t))))
    (λ t. let o = p.other (eqb-false r.kind 1 t) in rw t (and_both (eq-eqb r.name_len 0 o.0) (eq-eqb r.attributes 0 o.1)))))

module _ (d : Decoded) where
  text_right_law : {at len : ℕ} → TextIn d at len → text_right d.pool at len ≡ true
  unfolding text_right
  text_right_law {at} {len} t = and_both (le-leb (at + len) (length d.pool) t.inside) t.utf8

  module _ (r : Right d) where
    tree_right : (i : ℕ) → i < length d.rows → tree_in d i ≡ true
    unfolding tree_in body_right
    tree_right zero h =
        and_both (eq-eqb (row_in d 0).kind 1 r.body_element)
        (and_both (eq-eqb (row_in d 0).depth 0 r.body_depth) (and_both (le-leb _ (length d.pool) (r.name 0 h).inside) (same_of _ _ r.body_name)))
    tree_right (suc i) h =
        let t = r.later i h in
        and_both (le-leb 1 (row_in d (suc i)).depth t.some_depth)
        (and_both (le-leb (row_in d (suc i)).depth most_depth t.depth_within)
        (and_both (le-leb (row_in d (suc i)).depth (suc (row_in d i).depth) t.no_jump)
        (ap (is_element (row_in d)) t.parent.1 ∙ eq-eqb (row_in d t.parent.0).kind 1 t.parent.2)))

    pub right_judged : (accepted : Result Layout SheetError) → judged_in d accepted ≡ accepted
    unfolding judged_in kind_in row_range_in attribute_range_in row_text_in attribute_text_in
    right_judged accepted =
        let n = length d.rows in
        let m = length d.attributes in
        rw (
          none_wrong (kind_in d) n (λ i h. kind_right_law (row_in d i) (r.kind i h)),
          none_wrong (tree_in d) n tree_right,
          eq-eqb (row_in d d.root).kind 1 r.root_element,
          none_wrong (row_range_in d) n (λ i h. and_both (le-leb _ (length d.pool) (r.name i h).inside) (le-leb _ (length d.pool) (r.value i h).inside)),
          none_wrong (attribute_range_in d) m (λ j h. and_both (le-leb _ (length d.pool) (r.attribute_name j h).inside) (le-leb _ (length d.pool) (r.attribute_value j h).inside)),
          eq-eqb (counts_of d.rows) (length d.attributes) r.counts,
          none_wrong (row_text_in d) n (λ i h. and_both (text_right_law (r.name i h)) (text_right_law (r.value i h))),
          none_wrong (attribute_text_in d) m (λ j h. and_both (text_right_law (r.attribute_name j h)) (text_right_law (r.attribute_value j h))),
        )

    counts_right : (limit : ℕ) → length d.pool ≤ limit → counts_in d limit ≡ true
    unfolding counts_in
    counts_right limit h =
        and_both (le-leb 1 _ r.some_row)
        (and_both (le-leb _ most_rows r.rows) (and_both (le-leb _ most_attributes r.attributes) (and_both (le-leb _ limit h) (lt-ltb _ _ r.root_row))))

    pub right_verdict : (w : ℕ) → length d.pool ≤ pool_limit w → verdict_in w d ≡ Ok (layout_for w d)
    unfolding verdict_in
    right_verdict w h = rw (counts_right (pool_limit w) h) (right_judged (Ok (layout_for w d)))

pub encode_accepted : {w : ℕ} {d : Decoded} → Fits w d → Right d → length d.pool ≤ pool_limit w → verdict_of w (encode w d) ≡ Ok (layout_for w d)
encode_accepted {w} {d} fits r h = verdict_encode w d fits ∙ right_verdict d r w h

-- ---- accepted, it is right

module _ {w : ℕ} {d : Decoded} (fits : Fits w d) where
  abbrev s : Bytes
  s = encode w d

  abbrev l : Layout
  l = layout_for w d

  text_in : {at len : ℕ} → Text s l at len → TextIn d at len
  text_in {at} {len} t = record { inside = t.inside; utf8 = ap valid (sym (range_is w d at len)) ∙ t.utf8 }

  module _ (a : Accepted s l) where
    row : (i : ℕ) → row_at s l i ≡ row_in d i
    row = row_is w d fits

    attribute : (j : ℕ) → attribute_at s l j ≡ attribute_in d j
    attribute = attribute_is w d fits

    later_in : (i : ℕ) → suc i < length d.rows → LaterIn d i
    later_in i h =
        let t = a.later i h in
        let this = row (suc i) in
        let before = row i in
        let parent = ap (λ (ds : List ℕ). parent_of ds (suc i)) (sym (depths_is w d fits)) ∙ t.parent.1 in
        let j = t.parent.0 in
        record {
          some_depth = rw this at t.some_depth;
          depth_within = rw this at t.depth_within;
          no_jump = rw (this, before) at t.no_jump;
          parent = (j, parent, ap (λ (r : Row). r.kind) (sym (row j)) ∙ t.parent.2);
        }

    accepted_in : Right d
    accepted_in =
        let first = row 0 in
        record {
          some_row = a.sized.some_node;
          rows = a.sized.nodes;
          attributes = a.sized.attributes;
          root_row = a.sized.root;
          kind = λ i h. subst KindOf (row i) (a.kind i h);
          body_depth = ap (λ (r : Row). r.depth) (sym first) ∙ a.body_depth;
          body_element = ap (λ (r : Row). r.kind) (sym first) ∙ a.body_element;
          body_name = ap (λ (r : Row). range_in d r.name_at r.name_len) (sym first) ∙ sym (range_is w d (row_at s l 0).name_at (row_at s l 0).name_len) ∙ a.body_name;
          later = later_in;
          root_element = ap (λ (r : Row). r.kind) (sym (row d.root)) ∙ a.root;
          name = λ i h. subst (λ (r : Row). TextIn d r.name_at r.name_len) (row i) (text_in (a.name i h));
          value = λ i h. subst (λ (r : Row). TextIn d r.value_at r.value_len) (row i) (text_in (a.value i h));
          attribute_name = λ j h. subst (λ (r : Attribute). TextIn d r.name_at r.name_len) (attribute j) (text_in (a.attribute_name j h));
          attribute_value = λ j h. subst (λ (r : Attribute). TextIn d r.value_at r.value_len) (attribute j) (text_in (a.attribute_value j h));
          counts = sym (counts_is w d fits) ∙ a.counts;
        }

  pub accepted_right : {k : Layout} → verdict_of w (encode w d) ≡ Ok k → Right d × (length d.pool ≤ pool_limit w)
  accepted_right {k} e =
      let a = accepts fits.most_columns e in
      let said : k ≡ layout_of w (quad_from w s 0) = a.1.lined.layout ∙ ap (λ (v : ℕ). layout_of v (quad_from v s 0)) a.0 in
      let b = subst (Accepted s) (said ∙ sym (encode_lined w d fits).layout) a.1 in
      (accepted_in b, b.sized.pool)

-- ---- an accepted sheet, decoded

pub of_accepted : {w : ℕ} → w ≤ 10 → (s : Bytes) (l : Layout) → verdict_of w s ≡ Ok l
    → (l.width ≡ w) × Lined s l × Right (decode l s) × (length (decode l s).pool ≤ pool_limit l.width)
of_accepted width s l e =
    let a = accepts width e in
    let lined = a.1.lined in
    let r = accepted_right (of_lined lined).fits (ap (verdict_of l.width) (of_lined lined).bytes ∙ ap (λ (v : ℕ). verdict_of v s) a.0 ∙ e) in
    (a.0, lined, r.0, r.1)
