-- What the verdict accepts is a sheet in document 01's sense.
use Rattle.std.specs.Prelude.{Option, None, Some, Result, Ok, Err}
use mathlib.Core.Path.{◌≡◌, refl, sym, ap, ◌∙◌, subst}
use mathlib.Core.Bool.{Bool, true, false, ◌&&◌, ◌||◌, not, cond}
use mathlib.Core.Logic.{◌⊎◌, inl, inr}
use Prim.Native.Nat.{ℕ, zero, suc, ◌+◌, ◌≤◌}
use native.Mathlib.Omega.{arith}
use lib.Dec.{leb, ltb, eqb}
use lib.ListN.{length}
use borrow.Author.Tests.{leb-true, eqb-true, eq-eqb, ne_eqb}
use Rattle.common.specs.Bytes.{Bytes, codes, same}
use Rattle.common.proofs.Choice.{by_test, absurd_test, and_parts}
use Rattle.common.proofs.Equality.{same_true}
use Rattle.utf8.specs.Valid.{valid}
use Rattle.sheet.specs.Accepted.{KindOf, Text, Later, Accepted}
use Rattle.sheet.specs.Column.{parent_of}
use Rattle.sheet.specs.Layout.{header_length, most_depth, size_of, part_of, layout_of, row_at, attribute_at, pool_of, range, depths}
use Rattle.sheet.specs.Lines.{line_right, quad_from}
use Rattle.sheet.specs.Notes.{Sized}
use Rattle.sheet.specs.Verdict.{stage, counts_right, kind_right, inside, body_right, is_element, text_right, nodes, attributes, node_format, attribute_format, node_kind, node_tree, node_range, attribute_range, node_text, attribute_text, counts_from, judged, verdict_of, header_of, is_sheet}
use Rattle.sheet.specs.declared.line.Layout.{Layout}
use Rattle.sheet.specs.declared.line.Row.{Row}
use Rattle.sheet.specs.declared.verdict.SheetError.{SheetError}
use Rattle.sheet.specs.declared.verdict.SheetError.TheVariants.{Length, Format, Counts, Kind, Tree, Range, Encoding}
use Rattle.sheet.proofs.FirstWrong.{all_right}
use Rattle.sheet.proofs.Header.{counted}
use Rattle.sheet.proofs.LayoutLaws.{in_pool, range_in_pool}
use Rattle.sheet.proofs.Parents.{later}

-- ---- each stage's test says its sentence

-- the listed kinds
listed_kind : (k : ℕ) → (eqb k 1 || (eqb k 3 || eqb k 8)) ≡ true → (k ≡ 1) ⊎ ((k ≡ 3) ⊎ (k ≡ 8))
listed_kind k e =
    by_test (eqb k 1) (λ p. inl (eqb-true k 1 p))
    (λ p. by_test (eqb k 3) (λ q. inr (inl (eqb-true k 3 q))) (λ q. inr (inr (eqb-true k 8 (rw (p, q) at e)))))

pub kind_of : (r : Row) → kind_right r ≡ true → KindOf r
unfolding kind_right
kind_of r e =
    let rest = cond (eqb r.kind 1) (eqb r.value_len 0) (eqb r.name_len 0 && eqb r.attributes 0) in
    let p = and_parts (eqb r.kind 1 || (eqb r.kind 3 || eqb r.kind 8)) (leb r.skip 1 && rest) e in
    let q = and_parts (leb r.skip 1) rest p.1 in
    record {
      listed = listed_kind r.kind p.0;
      mark = leb-true r.skip 1 q.0;
      element = λ h. eqb-true r.value_len 0 (rw (eq-eqb r.kind 1 h) at q.1);
      other = λ h. let z = and_parts (eqb r.name_len 0) (eqb r.attributes 0) (rw (ne_eqb r.kind 1 h) at q.1) in (eqb-true r.name_len 0 z.0, eqb-true r.attributes 0 z.1);
    }

-- a text of the pool is one of the sheet
pub text_of : {s : Bytes} {l : Layout} → Sized s l → (at len : ℕ) → text_right (pool_of s l) at len ≡ true → Text s l at len
unfolding text_right
text_of {s} {l} sized at len e =
    let p = and_parts (inside (pool_of s l) at len) (valid (part_of (pool_of s l) at len)) e in
    record { inside = in_pool sized at len p.0; utf8 = ap valid (range_in_pool s l at len) ∙ p.1 }

module _ (s : Bytes) (l : Layout) where
  record Body : Type 0 where
    depth : (row_at s l 0).depth ≡ 0
    element : (row_at s l 0).kind ≡ 1
    name : range s l (row_at s l 0).name_at (row_at s l 0).name_len ≡ codes "body"

  body_of : node_tree s l 0 ≡ true → Body
  unfolding node_tree body_right
  body_of e =
      let r = row_at s l 0 in
      let there = inside (pool_of s l) r.name_at r.name_len in
      let named = same (part_of (pool_of s l) r.name_at r.name_len) (codes "body") in
      let p = and_parts (eqb r.kind 1) (eqb r.depth 0 && (there && named)) e in
      let q = and_parts (eqb r.depth 0) (there && named) p.1 in
      let n = and_parts there named q.1 in
      record { depth = eqb-true r.depth 0 q.0; element = eqb-true r.kind 1 p.0; name = range_in_pool s l r.name_at r.name_len ∙ same_true _ _ n.1 }

  pub depth_of : (i : ℕ) → node_tree s l i ≡ true → (row_at s l i).depth ≤ most_depth
  depth_of zero e = omega (arith, (body_of e).depth)
  depth_of (suc i) e = (later s l i e).depth_within

  parent_of_law : (o : Option ℕ) → is_element (row_at s l) o ≡ true → (j : ℕ) × (o ≡ Some j) × ((row_at s l j).kind ≡ 1)
  parent_of_law None e = absurd_test e refl
  parent_of_law (Some j) e = (j, refl, eqb-true (row_at s l j).kind 1 e)

  later_of : (i : ℕ) → node_tree s l (suc i) ≡ true → Later s l i
  later_of i e =
      let t = later s l i e in
      record { some_depth = t.some_depth; depth_within = t.depth_within; no_jump = t.no_jump; parent = parent_of_law (parent_of (depths s l) (suc i)) t.parent }

-- ---- a sheet is accepted where no stage refuses it

sheet_is : {a b : Layout} → ◌≡◌ {A = Result Layout SheetError} (Ok a) (Ok b) → a ≡ b
sheet_is h = cc

-- what the code knows of a verdict that is an error
abbrev pub NotSheet : Result Layout SheetError → Type 0
NotSheet v = (l : Layout) → v ≡ Ok l → ⊥

pub not_sheet : (v : Result Layout SheetError) → NotSheet v → is_sheet v ≡ false
not_sheet (Ok l) k = absurd (k l refl)
not_sheet (Err e) k = refl

pub sheet_of : (v : Result Layout SheetError) → is_sheet v ≡ true → (k : Layout) × (v ≡ Ok k)
sheet_of (Ok k) t = (k, refl)
sheet_of (Err e) t = absurd_test t refl

module _ {l : Layout} where
  cond_sheet : (b : Bool) (refuse next : Result Layout SheetError) → is_sheet refuse ≡ false → cond (not b) refuse next ≡ Ok l → (b ≡ true) × (next ≡ Ok l)
  cond_sheet true refuse next h e = (refl, e)
  cond_sheet false refuse next h e = absurd_test (ap is_sheet e) h

  stage_sheet : (o : Option ℕ) (refuse : ℕ → SheetError) (next : Result Layout SheetError) → stage o refuse next ≡ Ok l → (o ≡ None) × (next ≡ Ok l)
  stage_sheet None refuse next e = (refl, e)
  stage_sheet (Some i) refuse next e = absurd_test (ap is_sheet e) refl

module _ (s : Bytes) (l : Layout) where
  -- the verdict from each stage on
  abbrev from_attribute_texts : Result Layout SheetError
  from_attribute_texts = stage (attributes s l (attribute_text s l)) (λ j. Encoding (l.nodes + j + 1)) (Ok l)

  abbrev from_node_texts : Result Layout SheetError
  from_node_texts = stage (nodes s l (node_text s l)) (λ i. Encoding (i + 1)) from_attribute_texts

  abbrev from_counts : Result Layout SheetError
  from_counts = cond (not (eqb (counts_from s l 0 l.nodes) l.attributes)) (Err (Range 0)) from_node_texts

  abbrev from_attribute_ranges : Result Layout SheetError
  from_attribute_ranges = stage (attributes s l (attribute_range s l)) (λ j. Range (l.nodes + j + 1)) from_counts

  abbrev from_node_ranges : Result Layout SheetError
  from_node_ranges = stage (nodes s l (node_range s l)) (λ i. Range (i + 1)) from_attribute_ranges

  abbrev from_root : Result Layout SheetError
  from_root = cond (not (eqb (row_at s l l.root).kind 1)) (Err (Tree 0)) from_node_ranges

  abbrev from_tree : Result Layout SheetError
  from_tree = stage (nodes s l (node_tree s l)) (λ i. Tree (i + 1)) from_root

  abbrev from_kinds : Result Layout SheetError
  from_kinds = stage (nodes s l (node_kind s l)) (λ i. Kind (i + 1)) from_tree

  abbrev from_attribute_formats : Result Layout SheetError
  from_attribute_formats = stage (attributes s l (attribute_format s l)) (λ j. Format (l.nodes + j + 1)) from_kinds

  -- no stage refuses
  pub record Stages : Type 0 where
    pub node_formats : nodes s l (node_format s l) ≡ None
    pub attribute_formats : attributes s l (attribute_format s l) ≡ None
    pub kinds : nodes s l (node_kind s l) ≡ None
    pub tree : nodes s l (node_tree s l) ≡ None
    pub root : eqb (row_at s l l.root).kind 1 ≡ true
    pub node_ranges : nodes s l (node_range s l) ≡ None
    pub attribute_ranges : attributes s l (attribute_range s l) ≡ None
    pub counts : eqb (counts_from s l 0 l.nodes) l.attributes ≡ true
    pub node_texts : nodes s l (node_text s l) ≡ None
    pub attribute_texts : attributes s l (attribute_text s l) ≡ None

  pub stages_judged : Stages → judged s l ≡ Ok l
  unfolding judged
  stages_judged g =
      rw (g.node_formats, g.attribute_formats, g.kinds, g.tree, g.root, g.node_ranges, g.attribute_ranges, g.counts, g.node_texts, g.attribute_texts)

  pub judged_stages : {accepted : Layout} → judged s l ≡ Ok accepted → (l ≡ accepted) × Stages
  unfolding judged
  judged_stages e =
      let node_formats = stage_sheet (nodes s l (node_format s l)) (λ i. Format (i + 1)) from_attribute_formats e in
      let attribute_formats = stage_sheet (attributes s l (attribute_format s l)) (λ j. Format (l.nodes + j + 1)) from_kinds node_formats.1 in
      let kinds = stage_sheet (nodes s l (node_kind s l)) (λ i. Kind (i + 1)) from_tree attribute_formats.1 in
      let tree = stage_sheet (nodes s l (node_tree s l)) (λ i. Tree (i + 1)) from_root kinds.1 in
      let root = cond_sheet (eqb (row_at s l l.root).kind 1) (Err (Tree 0)) from_node_ranges refl tree.1 in
      let node_ranges = stage_sheet (nodes s l (node_range s l)) (λ i. Range (i + 1)) from_attribute_ranges root.1 in
      let attribute_ranges = stage_sheet (attributes s l (attribute_range s l)) (λ j. Range (l.nodes + j + 1)) from_counts node_ranges.1 in
      let counts = cond_sheet (eqb (counts_from s l 0 l.nodes) l.attributes) (Err (Range 0)) from_node_texts refl attribute_ranges.1 in
      let node_texts = stage_sheet (nodes s l (node_text s l)) (λ i. Encoding (i + 1)) from_attribute_texts counts.1 in
      let attribute_texts = stage_sheet (attributes s l (attribute_text s l)) (λ j. Encoding (l.nodes + j + 1)) (Ok l) node_texts.1 in (
        sheet_is attribute_texts.1,
        record {
          node_formats = node_formats.0;
          attribute_formats = attribute_formats.0;
          kinds = kinds.0;
          tree = tree.0;
          root = root.0;
          node_ranges = node_ranges.0;
          attribute_ranges = attribute_ranges.0;
          counts = counts.0;
          node_texts = node_texts.0;
          attribute_texts = attribute_texts.0;
        },
      )

  module _ (sized : Sized s l) {accepted : Layout} (e : judged s l ≡ Ok accepted) where
    pub judged_accepts : (l ≡ accepted) × Accepted s l
    unfolding node_kind node_text attribute_text
    judged_accepts =
        let stages = judged_stages e in
        let g = stages.1 in
        let body = body_of s l (all_right (node_tree s l) l.nodes g.tree 0 sized.some_node) in (
          stages.0,
          record {
            sized = sized;
            lined =
                record {
                  width = sized.width;
                  header = sized.header;
                  layout = sized.layout;
                  size = sized.size;
                  formats = record { of_nodes = g.node_formats; of_attributes = g.attribute_formats };
                };
            kind = λ i h. kind_of (row_at s l i) (all_right (node_kind s l) l.nodes g.kinds i h);
            body_depth = body.depth;
            body_element = body.element;
            body_name = body.name;
            later = λ i h. later_of s l i (all_right (node_tree s l) l.nodes g.tree (suc i) h);
            root = eqb-true (row_at s l l.root).kind 1 g.root;
            name = λ i h. (node_text_law i (all_right (node_text s l) l.nodes g.node_texts i h)).0;
            value = λ i h. (node_text_law i (all_right (node_text s l) l.nodes g.node_texts i h)).1;
            attribute_name = λ j h. (attribute_text_law j (all_right (attribute_text s l) l.attributes g.attribute_texts j h)).0;
            attribute_value = λ j h. (attribute_text_law j (all_right (attribute_text s l) l.attributes g.attribute_texts j h)).1;
            counts = eqb-true (counts_from s l 0 l.nodes) l.attributes g.counts;
          },
        )
      where
        node_text_law : (i : ℕ) → node_text s l i ≡ true → Text s l (row_at s l i).name_at (row_at s l i).name_len × Text s l (row_at s l i).value_at (row_at s l i).value_len
        node_text_law i t =
            let p = and_parts (text_right (pool_of s l) (row_at s l i).name_at (row_at s l i).name_len) (text_right (pool_of s l) (row_at s l i).value_at (row_at s l i).value_len) t in
            (text_of sized _ _ p.0, text_of sized _ _ p.1)

        attribute_text_law : (j : ℕ) → attribute_text s l j ≡ true
            → Text s l (attribute_at s l j).name_at (attribute_at s l j).name_len × Text s l (attribute_at s l j).value_at (attribute_at s l j).value_len
        attribute_text_law j t =
            let p = and_parts (text_right (pool_of s l) (attribute_at s l j).name_at (attribute_at s l j).name_len) (text_right (pool_of s l) (attribute_at s l j).value_at (attribute_at s l j).value_len) t in
            (text_of sized _ _ p.0, text_of sized _ _ p.1)

-- ---- the header and the lines

refused_first : {l : Layout} (b : Bool) (refuse next : Result Layout SheetError) → is_sheet refuse ≡ false → cond b refuse next ≡ Ok l → (b ≡ false) × (next ≡ Ok l)
refused_first true refuse next h q = absurd_test (ap is_sheet q) h
refused_first false refuse next h q = (refl, q)

-- the tests of the header, with `x` behind them
abbrev tested : ℕ → Bytes → Result Layout SheetError → Result Layout SheetError
tested w s x =
    let k = layout_of w (quad_from w s 0) in
    cond (ltb (length s) (header_length w)) (Err (Length (header_length w)))
    (cond (not (line_right w s 0 4)) (Err (Format 0))
    (cond (not (counts_right k)) (Err Counts)
    (cond (not (eqb (length s) (size_of k))) (Err (Length (size_of k))) x)))

tests_refuse : (a b c d : Bool) (p q r t x y : Result Layout SheetError) → is_sheet x ≡ true → is_sheet (cond a p (cond (not b) q (cond (not c) r (cond (not d) t x)))) ≡ false
    → cond a p (cond (not b) q (cond (not c) r (cond (not d) t x))) ≡ cond a p (cond (not b) q (cond (not c) r (cond (not d) t y)))
tests_refuse true b c d p q r t x y sheet h = refl
tests_refuse false false c d p q r t x y sheet h = refl
tests_refuse false true false d p q r t x y sheet h = refl
tests_refuse false true true false p q r t x y sheet h = refl
tests_refuse false true true true p q r t x y sheet h = absurd_test sheet h

module _ (w : ℕ) (s : Bytes) where
  -- what the header refuses is refused
  pub header_refuses : is_sheet (header_of w s) ≡ false → header_of w s ≡ verdict_of w s
  unfolding header_of verdict_of
  header_refuses h =
      let k = layout_of w (quad_from w s 0) in
      tests_refuse (ltb (length s) (header_length w)) (line_right w s 0 4) (counts_right k) (eqb (length s) (size_of k)) (Err (Length (header_length w))) (Err (Format 0)) (Err Counts) (Err (Length (size_of k))) (Ok k) (judged s k) refl h

  module _ (width : w ≤ 10) where
    -- what it does not refuse is judged by its lines
    pub header_passes : {l : Layout} → header_of w s ≡ Ok l → Sized s l × (judged s l ≡ verdict_of w s) × (l.width ≡ w)
    unfolding header_of verdict_of
    header_passes {l} e =
        let k = layout_of w (quad_from w s 0) in
        let from_length = cond (not (eqb (length s) (size_of k))) (Err (Length (size_of k))) (Ok k) in
        let from_counts = cond (not (counts_right k)) (Err Counts) from_length in
        let from_header = cond (not (line_right w s 0 4)) (Err (Format 0)) from_counts in
        let header = refused_first (ltb (length s) (header_length w)) (Err (Length (header_length w))) from_header refl e in
        let counts = cond_sheet (line_right w s 0 4) (Err (Format 0)) from_counts refl header.1 in
        let long = cond_sheet (counts_right k) (Err Counts) from_length refl counts.1 in
        let lines = cond_sheet (eqb (length s) (size_of k)) (Err (Length (size_of k))) (Ok k) refl long.1 in
        let n = counted k long.0 in
        let sized : Sized s k =
        record { width = width; some_node = n.some_node; nodes = n.nodes; attributes = n.attributes; pool = n.pool; root = n.root; header = counts.0; layout = refl; size = eqb-true (length s) (size_of k) lines.0 } in
        let same : k ≡ l = sheet_is lines.1 in
        let judges : judged s k ≡ tested w s (judged s k) = rw (header.0, counts.0, long.0, lines.0) in
        (subst (Sized s) same sized, ap (judged s) (sym same) ∙ judges, ap (λ (x : Layout). x.width) (sym same))

-- the whole verdict
module _ {w : ℕ} (width : w ≤ 10) {s : Bytes} {l : Layout} where
  pub accepts : verdict_of w s ≡ Ok l → (l.width ≡ w) × Accepted s l
  accepts e = by_test (is_sheet (header_of w s)) passed (λ t. absurd_test (ap is_sheet (header_refuses w s t ∙ e)) t)
    where
      passed : is_sheet (header_of w s) ≡ true → (l.width ≡ w) × Accepted s l
      passed t =
          let k = sheet_of (header_of w s) t in
          let p = header_passes w s width k.1 in
          let j = judged_accepts s k.0 p.0 (p.1 ∙ e) in
          (ap (λ (x : Layout). x.width) (sym j.0) ∙ p.2, subst (Accepted s) j.0 j.1)
