-- A decoded sheet that is right is right with other marks.
use mathlib.Core.Path.{◌≡◌, refl, sym, ap, ap₂, ◌∙◌}
use mathlib.Core.List.{List, [], ◌∷◌, map}
use Prim.Native.Nat.{ℕ, suc, ◌+◌, ◌≤◌, ◌<◌}
use native.Mathlib.Omega.{arith}
use lib.Dec.{eqb, ltb}
use lib.ListN.{length, get_or, set, length-set, length-map, get_or-map, get_or-eq_default}
use lib.Seq.{get_or-set_same, get_or-set_other, ext_get_or}
use borrow.Author.Tests.{eqb-true, eqb-false, ltb-true, ltb-false}
use Rattle.common.proofs.Choice.{by_test}
use Rattle.sheet.specs.Accepted.{KindOf}
use Rattle.sheet.specs.Column.{parent_of}
use Rattle.sheet.specs.Layout.{no_row, no_attribute}
use Rattle.sheet.specs.declared.line.Attribute.{Attribute}
use Rattle.sheet.specs.declared.line.Row.{Row}
use Rattle.sheet_form.specs.Decoded.{Decoded, counts_of, row_in, depths_in, set_number}
use Rattle.sheet_form.specs.Marks.{with_skip, set_skip, ButMarks}
use Rattle.sheet_form.specs.Right.{TextIn, LaterIn, Right}

counts_map : (rs ts : List Row) → map (λ (r : Row). r.attributes) rs ≡ map (λ (r : Row). r.attributes) ts → counts_of rs ≡ counts_of ts
unfolding counts_of
counts_map [] [] e = refl
counts_map [] (t ∷ ts) e = absurd (let z : ◌≡◌ {A = ℕ} 0 1 = cc in omega arith)
counts_map (r ∷ rs) [] e = absurd (let z : ◌≡◌ {A = ℕ} 0 1 = cc in omega arith)
counts_map (r ∷ rs) (t ∷ ts) e = ap₂ (λ (a b : ℕ). a + b) (cc) (counts_map rs ts (cc))

module _ {d e : Decoded} (m : ButMarks d e) where
  -- a column but the marks
  column_same : (column : Row → ℕ) → ((k : ℕ) (r : Row) → column (with_skip k r) ≡ column r) → map column e.rows ≡ map column d.rows
  column_same column blind =
      ext_get_or (column no_row) (map column e.rows) (map column d.rows)
      (length-map e.rows column ∙ m.length_rows ∙ sym (length-map d.rows column))
      (λ i h.
      get_or-map column e.rows i no_row ∙ ap column (m.row i) ∙ blind (row_in e i).skip (row_in d i) ∙ sym (get_or-map column d.rows i no_row))

  pub depths_same : depths_in e ≡ depths_in d
  depths_same = column_same (λ r. r.depth) (λ k r. refl)

  pub counts_same : counts_of e.rows ≡ counts_of d.rows
  counts_same = counts_map e.rows d.rows (column_same (λ r. r.attributes) (λ k r. refl))

  -- a number of a row but its mark
  at : (column : Row → ℕ) → ((k : ℕ) (r : Row) → column (with_skip k r) ≡ column r) → (i : ℕ) → column (row_in e i) ≡ column (row_in d i)
  at column blind i = ap column (m.row i) ∙ blind (row_in e i).skip (row_in d i)

  text_same : (at at' len len' : ℕ) → at' ≡ at → len' ≡ len → TextIn d at len → TextIn e at' len'
  text_same at at' len len' p q t = rw (p, q) (record { inside = rw m.pool t.inside; utf8 = rw m.pool t.utf8 })

  there : {i : ℕ} → i < length e.rows → i < length d.rows
  there h = omega (arith, m.length_rows)

  module _ (r : Right d) where
    later_same : (i : ℕ) → suc i < length e.rows → LaterIn e i
    later_same i h =
        let t = r.later i (there h) in
        let this = at (λ x. x.depth) (λ k x. refl) (suc i) in
        let before = at (λ x. x.depth) (λ k x. refl) i in
        let j = t.parent.0 in
        record {
          some_depth = omega (arith, this, t.some_depth);
          depth_within = omega (arith, this, t.depth_within);
          no_jump = omega (arith, this, before, t.no_jump);
          parent = (j, ap (λ (ds : List ℕ). parent_of ds (suc i)) depths_same ∙ t.parent.1, at (λ x. x.kind) (λ k x. refl) j ∙ t.parent.2);
        }

    kind_same : (i : ℕ) → i < length d.rows → KindOf (row_in e i)
    kind_same i h =
        let k = r.kind i h in
        rw (m.row i) (record { listed = k.listed; mark = m.mark i; element = k.element; other = k.other })

    pub marks_right : Right e
    marks_right =
        record {
          some_row = omega (arith, r.some_row);
          rows = omega (arith, r.rows);
          attributes = rw m.attributes r.attributes;
          root_row = omega (arith, m.root, r.root_row);
          kind = λ i h. kind_same i (there h);
          body_depth = at (λ x. x.depth) (λ k x. refl) 0 ∙ r.body_depth;
          body_element = at (λ x. x.kind) (λ k x. refl) 0 ∙ r.body_element;
          body_name = rw (m.pool, at (λ x. x.name_at) (λ k x. refl) 0, at (λ x. x.name_len) (λ k x. refl) 0) r.body_name;
          later = later_same;
          root_element = ap (λ (i : ℕ). (row_in e i).kind) m.root ∙ at (λ x. x.kind) (λ k x. refl) d.root ∙ r.root_element;
          name = λ i h. text_same _ _ _ _ (at (λ x. x.name_at) (λ k x. refl) i) (at (λ x. x.name_len) (λ k x. refl) i) (r.name i (there h));
          value = λ i h. text_same _ _ _ _ (at (λ x. x.value_at) (λ k x. refl) i) (at (λ x. x.value_len) (λ k x. refl) i) (r.value i (there h));
          attribute_name = λ j h. let same = ap (λ (l : List Attribute). get_or l j no_attribute) m.attributes in text_same _ _ _ _ (ap (λ (a : Attribute). a.name_at) same) (ap (λ (a : Attribute). a.name_len) same) (r.attribute_name j (rw m.attributes at h));
          attribute_value = λ j h. let same = ap (λ (l : List Attribute). get_or l j no_attribute) m.attributes in text_same _ _ _ _ (ap (λ (a : Attribute). a.value_at) same) (ap (λ (a : Attribute). a.value_len) same) (r.attribute_value j (rw m.attributes at h));
          counts = counts_same ∙ r.counts ∙ sym (ap length m.attributes);
        }

-- ---- one mark

module _ {d : Decoded} (r : Right d) (i : ℕ) (h : i < length d.rows) (m : ℕ) (mark : m ≤ 1) where
  abbrev rows : List Row
  rows = set d.rows i (with_skip m (row_in d i))

  at_row : (j : ℕ) → j ≡ i → get_or rows j no_row ≡ with_skip m (row_in d j)
  at_row j e = ap (λ (n : ℕ). get_or rows n no_row) e ∙ get_or-set_same d.rows i (with_skip m (row_in d i)) no_row h ∙ ap (λ (n : ℕ). with_skip m (row_in d n)) (sym e)

  at_another : (j : ℕ) → (j ≡ i → ⊥) → get_or rows j no_row ≡ row_in d j
  at_another j n = get_or-set_other d.rows i j (with_skip m (row_in d i)) no_row n

  -- every mark was right
  old_mark : (j : ℕ) → (row_in d j).skip ≤ 1
  old_mark j =
      by_test (ltb j (length d.rows))
      (λ t. (r.kind j (ltb-true j (length d.rows) t)).mark)
      (λ t. rw (get_or-eq_default d.rows no_row (ltb-false j (length d.rows) t)) (omega arith))

  one_mark : ButMarks d (set_skip i m d)
  unfolding set_number
  one_mark =
      record {
        length_rows = length-set d.rows i (with_skip m (row_in d i));
        row = λ j. by_test (eqb j i) (λ t. same j m (at_row j (eqb-true j i t))) (λ t. same j (row_in d j).skip (at_another j (eqb-false j i t)));
        mark = λ j. by_test (eqb j i) (λ t. rw (ap (λ (x : Row). x.skip) (at_row j (eqb-true j i t))) mark) (λ t. rw (at_another j (eqb-false j i t)) (old_mark j));
        attributes = refl;
        pool = refl;
        root = refl;
      }
    where
      same : (j n : ℕ) → get_or rows j no_row ≡ with_skip n (row_in d j) → get_or rows j no_row ≡ with_skip (get_or rows j no_row).skip (row_in d j)
      same j n e = e ∙ ap (λ (x : Row). with_skip x.skip (row_in d j)) (sym e)

  pub mark_right : Right (set_skip i m d)
  mark_right = marks_right one_mark r
