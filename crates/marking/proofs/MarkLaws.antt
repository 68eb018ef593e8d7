-- A decoded sheet of which the rows before row i have their marks.
use mathlib.Core.Path.{◌≡◌, refl, sym, ap, ◌∙◌, subst}
use mathlib.Core.Bool.{Bool, true, false, ◌&&◌, cond}
use mathlib.Core.List.{List}
use Prim.Native.Nat.{ℕ, zero, suc, ◌+◌, ◌-◌, ◌≤◌, ◌<◌}
use native.Mathlib.Nat.{add-zero, add-suc}
use native.Mathlib.Numerals.{add-one}
use native.Mathlib.Omega.{arith}
use lib.Dec.{eqb, ltb}
use lib.ListN.{length, length-set, get_or-eq_default}
use lib.Seq.{get_or-set_same, get_or-set_other, ext_get_or}
use borrow.Author.Tests.{eqb-true, eqb-false, ltb-true, ltb-false, lt-ltb, le-ltb}
use Rattle.common.proofs.Choice.{by_test, by_cond, and_parts}
use Rattle.options.specs.declared.ExtractOptions.{ExtractOptions}
use Rattle.sheet.specs.Layout.{no_row}
use Rattle.sheet.specs.declared.line.Row.{Row}
use Rattle.sheet_form.specs.Decoded.{Decoded, row_in, set_number}
use Rattle.sheet_form.specs.Encoding.{listed}
use Rattle.sheet_form.specs.Marks.{with_skip, set_skip, ButMarks}
use Rattle.sheet_form.specs.Right.{Right}
use Rattle.sheet_form.proofs.Lists.{listed_length, listed_at}
use Rattle.sheet_form.proofs.Marking.{marks_right}
use Rattle.marking.specs.Marks.{to_mark, is_new, marked_row, marked, marks_to, marks}

module _ (o : ExtractOptions) (noscript : Bool) (d : Decoded) where
  abbrev n : ℕ
  n = length d.rows

  -- row j, where those before row i have their marks
  abbrev pub row_to : ℕ → ℕ → Row
  row_to i j = cond (ltb j i) (marked_row o noscript d j) (row_in d j)

  unfoldable pub marked_to : ℕ → Decoded
  marked_to i = record { rows = listed (row_to i) 0 n; attributes = d.attributes; pool = d.pool; root = d.root }

  with_rows : List Row → Decoded
  with_rows rows = record { rows = rows; attributes = d.attributes; pool = d.pool; root = d.root }

  pub to_length : (i : ℕ) → length (marked_to i).rows ≡ n
  unfolding marked_to
  to_length i = listed_length (row_to i) 0 n

  pub row_to_law : (i j : ℕ) → j < n → row_in (marked_to i) j ≡ row_to i j
  unfolding marked_to
  row_to_law i j h = listed_at (row_to i) no_row n j h

  row_past : (i j : ℕ) → n ≤ j → row_in (marked_to i) j ≡ no_row
  row_past i j h = get_or-eq_default (marked_to i).rows no_row (omega (arith, to_length i))

  -- rows from i on are as they were
  pub row_ahead : (i j : ℕ) → i ≤ j → j < n → row_in (marked_to i) j ≡ row_in d j
  row_ahead i j h k = row_to_law i j k ∙ rw (le-ltb j i h)

  row_behind : (i j : ℕ) → j < i → j < n → row_in (marked_to i) j ≡ marked_row o noscript d j
  row_behind i j h k = row_to_law i j k ∙ rw (lt-ltb j i h)

  pub marked_there : (i : ℕ) → to_mark o noscript d i ≡ true → marked_row o noscript d i ≡ with_skip 1 (row_in d i)
  marked_there i e = ap (λ (b : Bool). cond b (with_skip 1 (row_in d i)) (row_in d i)) e

  pub marked_not : (i : ℕ) → to_mark o noscript d i ≡ false → marked_row o noscript d i ≡ row_in d i
  marked_not i e = ap (λ (b : Bool). cond b (with_skip 1 (row_in d i)) (row_in d i)) e

  -- two lists of marked rows that are the same row by row
  to_same : (e : Decoded) (i : ℕ) → length e.rows ≡ n → ((j : ℕ) → j < n → row_in (marked_to i) j ≡ row_in e j)
      → with_rows e.rows ≡ marked_to i
  unfolding marked_to with_rows
  to_same e i size same =
      ap (λ (rows : List Row). record { rows = rows; attributes = d.attributes; pool = d.pool; root = d.root })
      (ext_get_or no_row e.rows (marked_to i).rows (size ∙ sym (to_length i)) (λ j h. sym (same j (omega (arith, size)))))

  -- ---- the marks alone change

  row_but_mark : (i j : ℕ) → row_in (marked_to i) j ≡ with_skip (row_in (marked_to i) j).skip (row_in d j)
  row_but_mark i j =
      by_test (ltb j n)
      (λ t.
      let h = ltb-true j n t in
      subst (λ (r : Row). r ≡ with_skip r.skip (row_in d j)) (sym (row_to_law i j h))
      (by_cond (λ (r : Row). r ≡ with_skip r.skip (row_in d j)) (ltb j i)
      (λ e. by_cond (λ (r : Row). r ≡ with_skip r.skip (row_in d j)) (to_mark o noscript d j) (λ f. refl) (λ f. refl))
      (λ e. refl)))
      (λ t.
      let h = ltb-false j n t in
      rw (row_past i j h, get_or-eq_default d.rows no_row h))

  module _ (right : Right d) where
    mark_small : (i j : ℕ) → (row_in (marked_to i) j).skip ≤ 1
    mark_small i j =
        by_test (ltb j n)
        (λ t.
        let h = ltb-true j n t in
        let small = (right.kind j h).mark in
        subst (λ (r : Row). r.skip ≤ 1) (sym (row_to_law i j h))
        (by_cond (λ (r : Row). r.skip ≤ 1) (ltb j i)
        (λ e. by_cond (λ (r : Row). r.skip ≤ 1) (to_mark o noscript d j) (λ f. omega arith) (λ f. small))
        (λ e. small)))
        (λ t. rw (row_past i j (ltb-false j n t)) (omega arith))

    pub to_but_marks : (i : ℕ) → ButMarks d (marked_to i)
    unfolding marked_to
    to_but_marks i =
        record { length_rows = to_length i; row = row_but_mark i; mark = mark_small i; attributes = refl; pool = refl; root = refl }

    pub to_right : (i : ℕ) → Right (marked_to i)
    to_right i = marks_right (to_but_marks i) right

    -- ---- one row more

    next_side : (i j : ℕ) → (j ≡ i → ⊥) → ltb j (i + 1) ≡ ltb j i
    next_side i j other =
        by_test (ltb j i) (λ t. lt-ltb j (i + 1) (omega (arith, ltb-true j i t)) ∙ sym t)
        (λ t. le-ltb j (i + 1) (omega (arith, ltb-false j i t)) ∙ sym t)

    other_row : (i j : ℕ) → j < n → (j ≡ i → ⊥) → row_in (marked_to (i + 1)) j ≡ row_in (marked_to i) j
    other_row i j k other =
        row_to_law (i + 1) j k ∙ ap (λ (b : Bool). cond b (marked_row o noscript d j) (row_in d j)) (next_side i j other) ∙ sym (row_to_law i j k)

    pub to_new : (i : ℕ) → i < n → is_new o noscript d i ≡ true → set_skip i 1 (marked_to i) ≡ marked_to (i + 1)
    unfolding set_number with_rows marked_to
    to_new i h e =
        to_same (set_skip i 1 (marked_to i)) (i + 1) (length-set (marked_to i).rows i _ ∙ to_length i)
        (λ j k.
        by_test (eqb j i)
        (λ t.
        let same = eqb-true j i t in
        let p = and_parts (to_mark o noscript d i) (eqb (row_in d i).skip 0) e in
        subst (λ (m : ℕ). row_in (marked_to (i + 1)) m ≡ row_in (set_skip i 1 (marked_to i)) m) (sym same)
        (row_behind (i + 1) i (omega arith) h
        ∙ marked_there i p.0
        ∙ sym (get_or-set_same (marked_to i).rows i _ no_row (omega (arith, to_length i)) ∙ ap (with_skip 1) (row_ahead i i (omega arith) h))))
        (λ t.
        let other = eqb-false j i t in
        other_row i j k other ∙ sym (get_or-set_other (marked_to i).rows i j _ no_row other)))

    -- a row that has the mark already
    marked_old : (i : ℕ) → i < n → is_new o noscript d i ≡ false → marked_row o noscript d i ≡ row_in d i
    marked_old i h e =
        by_test (to_mark o noscript d i)
        (λ t.
        let old : eqb (row_in d i).skip 0 ≡ false = ap (λ (b : Bool). b && eqb (row_in d i).skip 0) (sym t) ∙ e in
        let one : 1 ≡ (row_in d i).skip = omega (arith, (right.kind i h).mark, eqb-false (row_in d i).skip 0 old) in
        marked_there i t ∙ ap (λ (m : ℕ). with_skip m (row_in d i)) one)
        (λ t. marked_not i t)

    pub to_old : (i : ℕ) → i < n → is_new o noscript d i ≡ false → marked_to i ≡ marked_to (i + 1)
    unfolding with_rows marked_to
    to_old i h e =
        to_same (marked_to i) (i + 1) (to_length i)
        (λ j k.
        by_test (eqb j i)
        (λ t.
        subst (λ (m : ℕ). row_in (marked_to (i + 1)) m ≡ row_in (marked_to i) m) (sym (eqb-true j i t))
        (row_behind (i + 1) i (omega arith) h ∙ marked_old i h e ∙ sym (row_ahead i i (omega arith) h)))
        (λ t. other_row i j k (eqb-false j i t)))

  -- ---- where no row is to be marked

  pub to_none : (i : ℕ) → ((j : ℕ) → j < i → to_mark o noscript d j ≡ false) → d ≡ marked_to i
  unfolding with_rows
  to_none i none =
      to_same d i refl
      (λ j k.
      by_test (ltb j i)
      (λ t. let h = ltb-true j i t in row_behind i j h k ∙ marked_not j (none j h))
      (λ t. row_ahead i j (ltb-false j i t) k))

  pub marked_at : (j : ℕ) → j < n → row_in (marked o noscript d) j ≡ marked_row o noscript d j
  unfolding marked
  marked_at j k = listed_at (marked_row o noscript d) no_row n j k

  pub to_all : (i : ℕ) → ((j : ℕ) → i ≤ j → to_mark o noscript d j ≡ false) → marked_to i ≡ marked o noscript d
  unfolding with_rows marked
  to_all i none =
      sym (to_same (marked o noscript d) i (listed_length (marked_row o noscript d) 0 n)
      (λ j k.
      by_test (ltb j i)
      (λ t. row_behind i j (ltb-true j i t) k ∙ sym (marked_at j k))
      (λ t. let h = ltb-false j i t in row_ahead i j h k ∙ sym (marked_at j k ∙ marked_not j (none j h)))))

  -- ---- how many

  pub marks_next : (i : ℕ) → marks_to o noscript d (i + 1) ≡ marks_to o noscript d i + cond (is_new o noscript d i) 1 0
  unfolding marks_to
  marks_next i = rw add-one

  pub not_new : (i : ℕ) → to_mark o noscript d i ≡ false → is_new o noscript d i ≡ false
  not_new i e = rw e

  marks_same : (i : ℕ) → is_new o noscript d i ≡ false → marks_to o noscript d (suc i) ≡ marks_to o noscript d i
  unfolding marks_to
  marks_same i e = rw e (add-zero (marks_to o noscript d i))

  pub marks_none : (i : ℕ) → ((j : ℕ) → j < i → is_new o noscript d j ≡ false) → marks_to o noscript d i ≡ 0
  unfolding marks_to
  marks_none zero none = refl
  marks_none (suc i) none = marks_same i (none i (omega arith)) ∙ marks_none i (λ j h. none j (omega arith))

  marks_ahead : (i k : ℕ) → ((j : ℕ) → i ≤ j → to_mark o noscript d j ≡ false) → marks_to o noscript d (i + k) ≡ marks_to o noscript d i
  marks_ahead i zero none = ap (marks_to o noscript d) (add-zero i)
  marks_ahead i (suc k) none =
      ap (marks_to o noscript d) (add-suc i k) ∙ marks_same (i + k) (not_new (i + k) (none (i + k) (omega arith))) ∙ marks_ahead i k none

  pub marks_all : (i : ℕ) → i ≤ n → ((j : ℕ) → i ≤ j → to_mark o noscript d j ≡ false) → marks_to o noscript d i ≡ marks o noscript d
  marks_all i h none = let e : i + (n - i) ≡ n = omega arith in sym (ap (marks_to o noscript d) (sym e) ∙ marks_ahead i (n - i) none)

  pub marks_small : (i : ℕ) → marks_to o noscript d i ≤ i
  unfolding marks_to
  marks_small zero = omega arith
  marks_small (suc i) = by_test (is_new o noscript d i) (λ t. rw t (omega (arith, marks_small i))) (λ t. rw t (omega (arith, marks_small i)))

  -- where every row that is to be marked is marked
  pub marked_none : Right d → ((j : ℕ) → j < n → is_new o noscript d j ≡ false) → marked o noscript d ≡ d
  unfolding with_rows marked
  marked_none right none =
      to_same (marked o noscript d) 0 (listed_length (marked_row o noscript d) 0 n)
      (λ j k. row_ahead 0 j (omega arith) k ∙ sym (marked_at j k ∙ marked_old right j k (none j k)))
      ∙ sym (to_none 0 (λ j h. absurd (omega arith)))
