-- A sheet is accepted exactly where its rows are right one after the other, and so are its counts, its root and its attribute lines.
use Rattle.std.specs.Prelude.{Option, None, Some, Ok, Err, is_none}
use mathlib.Core.Path.{◌≡◌, refl, sym, ap, ◌∙◌, subst}
use mathlib.Core.Bool.{Bool, true, false, ◌&&◌}
use mathlib.Core.Logic.{◌⊎◌}
use Prim.Native.Nat.{ℕ, zero, suc, ◌+◌, ◌-◌, ◌≤◌, ◌<◌}
use native.Mathlib.Numerals.{add-one}
use native.Mathlib.Omega.{arith}
use lib.Dec.{leb, eqb}
use borrow.Author.Count.{below_more}
use borrow.Author.Tests.{leb-true, leb-false, le-leb, lt-leb, eqb-true, eq-eqb, ne_eqb}
use Rattle.common.specs.Bytes.{Bytes}
use Rattle.common.proofs.Choice.{by_test, absurd_test, and_parts, and_both}
use Rattle.utf8.specs.Valid.{valid}
use Rattle.sheet.specs.Accepted.{Accepted}
use Rattle.sheet.specs.Layout.{most_depth, header_length, node_length, node_start, part_of, row_at, pool_of}
use Rattle.sheet.specs.Lines.{line_right, row_from, node_line_of}
use Rattle.sheet.specs.Notes.{Sized, row_right, right_line, row_in, attributes_read, attributes_right, rest_right}
use Rattle.sheet.specs.Verdict.{inside, text_right, nodes, attributes, node_format, attribute_format, node_kind, node_tree, node_range, attribute_range, node_text, attribute_text, counts_from, judged, is_sheet}
use Rattle.sheet.specs.Theorems.{rows_right, AcceptedRowByRow}
use Rattle.sheet.specs.declared.line.Layout.{Layout}
use Rattle.sheet.specs.declared.line.Row.{Row}
use Rattle.sheet.specs.declared.notes.AttributeNotes.{AttributeNotes}
use Rattle.sheet.proofs.Acceptance.{Stages, judged_stages, stages_judged, judged_accepts, sheet_of, kind_of, text_of, depth_of}
use Rattle.sheet.proofs.FirstWrong.{all_right, none_wrong}
use Rattle.sheet.proofs.LayoutLaws.{row_there}
use Rattle.sheet.proofs.Judging.{attributes_noted, attributes_bad_at}
use Rattle.sheet.proofs.NodePass.{line_numbers, line_bad}
use Rattle.sheet.proofs.Parents.{tree_test}

-- ---- the attribute lines

none_is : (o : Option ℕ) → is_none o ≡ true → o ≡ None
none_is None e = refl
none_is (Some i) e = absurd_test e refl

module _ (s : Bytes) (l : Layout) where
  pub attributes_bad_right : {j : ℕ} → attributes_read s l ≡ Err j → false ≡ attributes_right s l
  unfolding attributes_right
  attributes_bad_right h = rw (attributes_bad_at s l h)

  pub attributes_noted_right : {a : AttributeNotes} → attributes_read s l ≡ Ok a → (is_none a.range && is_none a.encoding) ≡ attributes_right s l
  unfolding attributes_right
  attributes_noted_right h =
      let x = attributes_noted s l h in
      rw (x.0, x.1)

-- ---- what must be right beside the rows

module _ (s : Bytes) (l : Layout) (counts : ℕ) where
  pub rest_counts : (counts ≡ l.attributes → ⊥) → false ≡ rest_right s l counts
  unfolding rest_right
  rest_counts n = rw (ne_eqb counts l.attributes n)

  module _ (c : counts ≡ l.attributes) where
    pub rest_root : ((row_at s l l.root).kind ≡ 1 → ⊥) → false ≡ rest_right s l counts
    unfolding rest_right
    rest_root n = rw (eq-eqb counts l.attributes c, ne_eqb (row_at s l l.root).kind 1 n)

    pub rest_attributes : (row_at s l l.root).kind ≡ 1 → attributes_right s l ≡ rest_right s l counts
    unfolding rest_right
    rest_attributes r = rw (eq-eqb counts l.attributes c, eq-eqb (row_at s l l.root).kind 1 r)

-- ---- a line as a row

numbers_not_bad {ℓ} : {P : Type ℓ} {r : Row} → None ≡ Some r → P
numbers_not_bad h = absurd (let z : ◌≡◌ {A = ℕ} 0 1 = cc in omega arith)

module _ (s : Bytes) (l : Layout) (i : ℕ) (before : Row) (at first : ℕ) where
  pub row_in_no_line : node_line_of l.width s at ≡ None → None ≡ row_in s l i before at first
  unfolding row_in
  row_in_no_line e = sym (ap (right_line s l i before first) e)

  module _ {r : Row} (e : node_line_of l.width s at ≡ Some r) {pool : Bytes} (of : pool ≡ pool_of s l) where
    pub row_in_wrong : row_right pool i before r ≡ false → None ≡ row_in s l i before at first
    unfolding row_in
    row_in_wrong w = sym (ap (right_line s l i before first) e ∙ rw (← of, w))

    module _ (w : row_right pool i before r ≡ true) where
      pub row_in_many : l.attributes < first + r.attributes → None ≡ row_in s l i before at first
      unfolding row_in
      row_in_many h = sym (ap (right_line s l i before first) e ∙ rw (← of, w, lt-leb (first + r.attributes) l.attributes h))

      pub row_in_right : first + r.attributes ≤ l.attributes → Some r ≡ row_in s l i before at first
      unfolding row_in
      row_in_right h = sym (ap (right_line s l i before first) e ∙ rw (← of, w, le-leb (first + r.attributes) l.attributes h))

  pub record RowIn (r : Row) : Type 0 where
    pub line : node_line_of l.width s at ≡ Some r
    pub right : row_right (pool_of s l) i before r ≡ true
    pub few : first + r.attributes ≤ l.attributes

  pub row_in_numbers : {r : Row} → row_in s l i before at first ≡ Some r → RowIn r
  unfolding row_in
  row_in_numbers {r} q = by_line (node_line_of l.width s at) refl q
    where
      by_line : (x : Option Row) → node_line_of l.width s at ≡ x → right_line s l i before first x ≡ Some r → RowIn r
      by_line (Some t) e c =
          by_test (row_right (pool_of s l) i before t && leb (first + t.attributes) l.attributes) (λ b. taken b (rw b at c)) (λ b. numbers_not_bad (rw b at c))
        where
          taken : (row_right (pool_of s l) i before t && leb (first + t.attributes) l.attributes) ≡ true → Some t ≡ Some r → RowIn r
          taken b h =
              let same : t ≡ r = cc in
              let p = and_parts (row_right (pool_of s l) i before t) (leb (first + t.attributes) l.attributes) b in
              rw (← same) (record { line = e; right = p.0; few = leb-true (first + t.attributes) l.attributes p.1 })
      by_line None e c = numbers_not_bad c

  pub row_in_bad {ℓ} : {P : Type ℓ} → row_in s l i before at first ≡ None → (node_line_of l.width s at ≡ None → P)
      → ((r : Row) → node_line_of l.width s at ≡ Some r → row_right (pool_of s l) i before r ≡ false → P)
      → ((r : Row) → node_line_of l.width s at ≡ Some r → row_right (pool_of s l) i before r ≡ true → l.attributes < first + r.attributes → P) → P
  row_in_bad {P} q no_line wrong many = by_line (node_line_of l.width s at) refl
    where
      by_line : (x : Option Row) → node_line_of l.width s at ≡ x → P
      by_line (Some t) e =
          by_test (row_right (pool_of s l) i before t)
          (λ w. by_test (leb (first + t.attributes) l.attributes) (λ b. numbers_not_bad (sym q ∙ sym (row_in_right e refl w (leb-true (first + t.attributes) l.attributes b)))) (λ b. many t e w (leb-false (first + t.attributes) l.attributes b)))
          (λ w. wrong t e w)
      by_line None e = no_line e

-- ---- row after row

-- what the code uses of a row that is right
pub record RowFacts (l : Layout) (r : Row) : Type 0 where
  pub listed : (r.kind ≡ 1) ⊎ ((r.kind ≡ 3) ⊎ (r.kind ≡ 8))
  pub deep : r.depth ≤ most_depth
  pub name : r.name_at + r.name_len ≤ l.pool
  pub value : r.value_at + r.value_len ≤ l.pool

module _ (s : Bytes) (l : Layout) where
  -- what contradicts that no stage refuses
  refuted : (Stages s l → ⊥) → false ≡ is_sheet (judged s l)
  refuted n =
      by_test (is_sheet (judged s l))
      (λ t. absurd (n (judged_stages s l (sheet_of (judged s l) t).1).1))
      (λ t. sym t)

  -- or that the sheet is accepted
  pub not_accepted : Sized s l → (Accepted s l → ⊥) → false ≡ is_sheet (judged s l)
  not_accepted sized n =
      by_test (is_sheet (judged s l))
      (λ t. absurd (n (judged_accepts s l sized (sheet_of (judged s l) t).1).1))
      (λ t. sym t)

  inside_range : (i : ℕ) → node_text s l i ≡ true → node_range s l i ≡ true
  unfolding node_text node_range text_right
  inside_range i e =
      let r = row_at s l i in
      let pool = pool_of s l in
      let p = and_parts (text_right pool r.name_at r.name_len) (text_right pool r.value_at r.value_len) e in
      and_both
      (and_parts (inside pool r.name_at r.name_len) (valid (part_of pool r.name_at r.name_len)) p.0).0
      (and_parts (inside pool r.value_at r.value_len) (valid (part_of pool r.value_at r.value_len)) p.1).0

  -- the first i rows are right, and the next line begins at `at`
  pub record Rows (before : Row) (at i : ℕ) : Type 0 where
    pub within : i ≤ l.nodes
    pub place : at ≡ node_start l i
    pub format : (j : ℕ) → j < i → node_format s l j ≡ true
    pub kind : (j : ℕ) → j < i → node_kind s l j ≡ true
    pub tree : (j : ℕ) → j < i → node_tree s l j ≡ true
    pub text : (j : ℕ) → j < i → node_text s l j ≡ true
    pub row : 0 < i → before ≡ row_at s l (i - 1)

  pub rows_start : (before : Row) → Rows before (header_length l.width) 0
  rows_start before =
      record {
        within = omega arith;
        place = omega arith;
        format = λ j h. absurd (omega arith);
        kind = λ j h. absurd (omega arith);
        tree = λ j h. absurd (omega arith);
        text = λ j h. absurd (omega arith);
        row = λ h. absurd (omega arith);
      }

  module _ {before : Row} {at i : ℕ} (p : Rows before at i) (h : i < l.nodes) where
    format_at : {b : Bool} → line_right l.width s at 8 ≡ b → node_format s l i ≡ b
    unfolding node_format
    format_at e = ap (λ (k : ℕ). line_right l.width s k 8) (sym p.place) ∙ e

    pub rows_bad : node_line_of l.width s at ≡ None → false ≡ is_sheet (judged s l)
    rows_bad e = refuted (λ g. absurd_test (all_right (node_format s l) l.nodes g.node_formats i h) (format_at (line_bad l.width s at e)))

    module _ {r : Row} (e : node_line_of l.width s at ≡ Some r) where
      pub row_is : r ≡ row_at s l i
      row_is = (line_numbers l.width s at e).1 ∙ ap (row_from l.width s) p.place ∙ sym (row_there s l i h)

      pub row_tests : row_right (pool_of s l) i before r ≡ (node_kind s l i && (node_tree s l i && node_text s l i))
      unfolding row_right node_kind node_text
      row_tests = rw (row_is, tree_test s l i h p.tree before p.row)

      pub rows_wrong : row_right (pool_of s l) i before r ≡ false → false ≡ is_sheet (judged s l)
      rows_wrong w =
          refuted
          (λ g.
          absurd_test
          (row_tests ∙ and_both (all_right (node_kind s l) l.nodes g.kinds i h) (and_both (all_right (node_tree s l) l.nodes g.tree i h) (all_right (node_text s l) l.nodes g.node_texts i h)))
          w)

      module _ (w : row_right (pool_of s l) i before r ≡ true) where
        pub row_kind : node_kind s l i ≡ true
        row_kind = (and_parts (node_kind s l i) (node_tree s l i && node_text s l i) (sym row_tests ∙ w)).0

        pub row_place : (node_tree s l i ≡ true) × (node_text s l i ≡ true)
        row_place = and_parts (node_tree s l i) (node_text s l i) (and_parts (node_kind s l i) (node_tree s l i && node_text s l i) (sym row_tests ∙ w)).1

        pub row_facts : Sized s l → RowFacts l r
        unfolding node_kind node_text
        row_facts sized =
            let t = and_parts (text_right (pool_of s l) (row_at s l i).name_at (row_at s l i).name_len) (text_right (pool_of s l) (row_at s l i).value_at (row_at s l i).value_len) row_place.1 in
            rw row_is (record { listed = (kind_of (row_at s l i) row_kind).listed; deep = depth_of s l i row_place.0; name = (text_of sized _ _ t.0).inside; value = (text_of sized _ _ t.1).inside })

        pub rows_more : {then : ℕ} → then ≡ at + node_length l.width → Rows r then (i + 1)
        rows_more t =
            record {
              within = omega arith;
              place = omega (arith, t, p.place);
              format = below_more (λ j. node_format s l j ≡ true) i p.format (format_at (line_numbers l.width s at e).0);
              kind = below_more (λ j. node_kind s l j ≡ true) i p.kind row_kind;
              tree = below_more (λ j. node_tree s l j ≡ true) i p.tree row_place.0;
              text = below_more (λ j. node_text s l j ≡ true) i p.text row_place.1;
              row = λ u. row_is ∙ ap (row_at s l) (omega arith);
            }

  -- behind the last row
  module _ {before : Row} {at i counts : ℕ} (p : Rows before at i) (h : l.nodes ≤ i) (c : counts ≡ counts_from s l 0 l.nodes) where
    all : (right : ℕ → Bool) → ((j : ℕ) → j < i → right j ≡ true) → nodes s l right ≡ None
    all right f = none_wrong right l.nodes (λ j g. f j (omega arith))

    pub rows_end : rest_right s l counts ≡ is_sheet (judged s l)
    unfolding rest_right attributes_right
    rows_end = by_test (rest_right s l counts) (λ t. t ∙ sym (ap is_sheet (stages_judged s l (accepted t)))) (λ t. t ∙ refuted (refused t))
      where
        accepted : rest_right s l counts ≡ true → Stages s l
        accepted t =
            let a = and_parts (eqb counts l.attributes) (eqb (row_at s l l.root).kind 1 && attributes_right s l) t in
            let b = and_parts (eqb (row_at s l l.root).kind 1) (attributes_right s l) a.1 in
            let f = and_parts (is_none (attributes s l (attribute_format s l))) (is_none (attributes s l (attribute_range s l)) && is_none (attributes s l (attribute_text s l))) b.1 in
            let g = and_parts (is_none (attributes s l (attribute_range s l))) (is_none (attributes s l (attribute_text s l))) f.1 in
            record {
              node_formats = all (node_format s l) p.format;
              attribute_formats = none_is _ f.0;
              kinds = all (node_kind s l) p.kind;
              tree = all (node_tree s l) p.tree;
              root = b.0;
              node_ranges = all (node_range s l) (λ j u. inside_range j (p.text j u));
              attribute_ranges = none_is _ g.0;
              counts = eq-eqb _ l.attributes (sym c ∙ eqb-true counts l.attributes a.0);
              node_texts = all (node_text s l) p.text;
              attribute_texts = none_is _ g.1;
            }

        refused : rest_right s l counts ≡ false → Stages s l → ⊥
        refused t g =
            absurd_test
            (and_both (eq-eqb counts l.attributes (c ∙ eqb-true _ l.attributes g.counts)) (and_both g.root (and_both (ap is_none g.attribute_formats) (and_both (ap is_none g.attribute_ranges) (ap is_none g.attribute_texts)))))
            t

-- ---- all rows

module _ (s : Bytes) (l : Layout) where
  rows_line : (n i : ℕ) (before r : Row) → node_line_of l.width s (node_start l i) ≡ Some r
      → rows_right s l i before (suc n) ≡ (row_right (pool_of s l) i before r && rows_right s l (suc i) r n)
  unfolding rows_right
  rows_line n i before r e = rw (e, rows_right)

  rows_no_line : (n i : ℕ) (before : Row) → node_line_of l.width s (node_start l i) ≡ None → rows_right s l i before (suc n) ≡ false
  unfolding rows_right
  rows_no_line n i before e = rw (e, rows_right)

  abbrev Rest : Bool
  Rest = rest_right s l (counts_from s l 0 l.nodes)

  rows_step : (n i : ℕ) (before : Row) → Rows s l before (node_start l i) i → i < l.nodes
      → ((r : Row) → Rows s l r (node_start l (suc i)) (suc i) → is_sheet (judged s l) ≡ (rows_right s l (suc i) r n && Rest))
      → is_sheet (judged s l) ≡ (rows_right s l i before (suc n) && Rest)
  rows_step n i before p h next = by_line (node_line_of l.width s (node_start l i)) refl
    where
      by_line : (x : Option Row) → node_line_of l.width s (node_start l i) ≡ x → is_sheet (judged s l) ≡ (rows_right s l i before (suc n) && Rest)
      by_line (Some r) e =
          by_test (row_right (pool_of s l) i before r)
          (λ w. rw (rows_line n i before r e, w) (next r (subst (λ (k : ℕ). Rows s l r (node_start l (suc i)) k) (add-one i) (rows_more s l p h e w {then = node_start l (suc i)} (omega arith)))))
          (λ w. rw (rows_line n i before r e, w) (sym (rows_wrong s l p h e w)))
      by_line None e = rw (rows_no_line n i before e) (sym (rows_bad s l p h e))

  rows_all : (n i : ℕ) (before : Row) → Rows s l before (node_start l i) i → i + n ≡ l.nodes → is_sheet (judged s l) ≡ (rows_right s l i before n && Rest)
  unfolding rows_right
  rows_all zero i before p e = sym (rows_end s l p (omega arith) refl)
  rows_all (suc n) i before p e = rows_step n i before p (omega arith) (λ r q. rows_all n (suc i) r q (omega arith))

pub row_by_row : AcceptedRowByRow
row_by_row s l before =
    let start : header_length l.width ≡ node_start l 0 = omega arith in
    rows_all s l l.nodes 0 before (subst (λ (at : ℕ). Rows s l before at 0) start (rows_start s l before)) (omega arith)
