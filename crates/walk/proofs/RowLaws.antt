-- What is noted of the rows, row by row; the column of depths that is noted is the sheet's.
use Rattle.std.specs.Prelude.{Some, None}
use mathlib.Core.Path.{◌≡◌, refl, sym, ap, ◌∙◌}
use mathlib.Core.Bool.{Bool, false, ◌||◌}
use mathlib.Core.List.{List, []}
use mathlib.Core.Logic.{◌⊎◌, ⊎_elim}
use Prim.Native.Nat.{ℕ, suc, ◌+◌, ◌-◌, ◌≤◌, ◌<◌}
use native.Mathlib.Omega.{arith}
use lib.Dec.{eqb}
use lib.ListN.{length, get_or, set, take, drop, length-set}
use lib.Seq.{get_or-set_same, get_or-set_other, get_or-take, length-take-le, ext_get_or}
use borrow.Author.Count.{below_more}
use Rattle.common.specs.Bytes.{Bytes, codes, same}
use Rattle.common.proofs.Parts.{part_to}
use Rattle.sheet.specs.Accepted.{Accepted}
use Rattle.sheet.specs.Layout.{header_length, node_length, pool_start, most_depth, row_at, range, depths}
use Rattle.sheet.specs.Notes.{Sized, row_in, rest_right}
use Rattle.sheet.specs.Verdict.{counts_from, judged, is_sheet}
use Rattle.sheet.specs.declared.line.Layout.{Layout}
use Rattle.sheet.specs.declared.line.Row.{Row}
use Rattle.sheet.proofs.Accepting.{RowIn, RowFacts, Rows, row_in_numbers, row_in_bad, not_accepted, rows_start, rows_bad, rows_wrong, row_is, row_facts, rows_more, rows_end}
use Rattle.sheet.proofs.Header.{lines_small}
use Rattle.sheet.proofs.LayoutLaws.{depths_at, depths_from_length}
use Rattle.tags.specs.Tags.{tag_names, tag_of}
use Rattle.tags.specs.Words.{words, first_word, other_words, number_from}
use Rattle.tree.specs.Node.{tag}
use Rattle.tree.specs.Page.{kind_of, node_at, page_of}
use Rattle.tree.proofs.AttributeLines.{counts_next, counts_none, counts_fit}
use Rattle.tree.proofs.Column.{depth_small}
use Rattle.tree.proofs.NodeLaws.{tag_of_element, tag_of_other}
use Rattle.tree.proofs.PageLaws.{row_kind, is_element, not_element, name_is}
use Rattle.tree.proofs.SheetColumn.{well_formed}
use Rattle.html2text.specs.Walk.{is_comment, left_out}
use Rattle.walk.specs.Rows.{Columns, RowsRead}
use Rattle.walk.specs.Turns.{ColumnRight}

-- a store behind the first i keeps them, and is the next
noted : {A : Type 0} (d : A) {F : ℕ → A} (l : List A) (i : ℕ) (x : A) → i < length l → x ≡ F i → ((k : ℕ) → k < i → get_or l k d ≡ F k) → (k : ℕ) → k < i + 1 → get_or (set l i x) k d ≡ F k
noted d {F} l i x h e all =
    below_more (λ k. get_or (set l i x) k d ≡ F k) i (λ k g. get_or-set_other l i k x d (omega arith) ∙ all k g) (get_or-set_same l i x d h ∙ e)

-- ---- by the numbers of a row

no_name : tag_of [] ≡ 0
unfolding tag_of tag_names number_from words first_word other_words codes same
no_name = refl

comment_is : (k : ℕ) → (k ≡ 1) ⊎ ((k ≡ 3) ⊎ (k ≡ 8)) → is_comment (kind_of k) ≡ eqb k 8
unfolding kind_of
comment_is k listed = ⊎_elim (λ e. rw e) (λ m. ⊎_elim (λ e. rw e) (λ e. rw e) m) listed

-- a range of the pool, as a part of the sheet
pub name_part : (s : Bytes) (l : Layout) (start at len : ℕ) → start ≡ pool_start l → take (start + at + len - (start + at)) (drop (start + at) s) ≡ range s l at len
name_part s l start at len e = part_to s (start + at) len ∙ ap (λ (p : ℕ). take len (drop (p + at) s)) e

module _ (s : Bytes) (l : Layout) (i : ℕ) {r : Row} (r_is : r ≡ row_at s l i) where
  pub element_tag : {t : ℕ} {name : Bytes} → t ≡ tag_of name → r.kind ≡ 1 → name ≡ range s l r.name_at r.name_len → t ≡ tag_of (tag (node_at s l i))
  element_tag t_is e n_is = t_is ∙ ap tag_of (n_is ∙ sym (tag_of_element (node_at s l i) (is_element s l i r_is e) ∙ name_is s l i r_is))

  pub other_tag : (r.kind ≡ 1 → ⊥) → 0 ≡ tag_of (tag (node_at s l i))
  other_tag n = sym (ap tag_of (tag_of_other (node_at s l i) (not_element s l i r_is n)) ∙ no_name)

  pub left_read : {b : Bool} → (r.kind ≡ 1) ⊎ ((r.kind ≡ 3) ⊎ (r.kind ≡ 8)) → b ≡ (eqb r.kind 8 || eqb r.skip 1) → b ≡ left_out (node_at s l) (page_of s l).marked i
  left_read listed b_is = b_is ∙ rw (row_kind s l i r_is, ← r_is, comment_is r.kind listed)

module _ (s : Bytes) (l : Layout) where
  module _ {ds ts fs vs ls : List ℕ} {bs : List Bool} where
    pub no_rows : RowsRead s l 0 ds ts fs vs ls bs
    no_rows =
        record {
          depth = λ i h. absurd (omega arith);
          tag_number = λ i h. absurd (omega arith);
          first = λ i h. absurd (omega arith);
          value_at = λ i h. absurd (omega arith);
          value_len = λ i h. absurd (omega arith);
          left_is = λ i h. absurd (omega arith);
        }

    pub row_more : {i t first : ℕ} {b : Bool} {r : Row} → RowsRead s l i ds ts fs vs ls bs → Columns (suc i) ds ts fs vs ls bs → r ≡ row_at s l i → t ≡ tag_of (tag (node_at s l i)) → first ≡ counts_from s l 0 i → b ≡ left_out (node_at s l) (page_of s l).marked i
        → RowsRead s l (i + 1) (set ds i r.depth) (set ts i t) (set fs i first) (set vs i r.value_at) (set ls i r.value_len) (set bs i b)
    row_more {i} {t} {first} {b} {r} read room r_is t_is f_is b_is =
        record {
          depth = noted 0 ds i r.depth (omega (arith, room.depths_long)) (ap (λ (x : Row). x.depth) r_is) read.depth;
          tag_number = noted 0 ts i t (omega (arith, room.tags_long)) t_is read.tag_number;
          first = noted 0 fs i first (omega (arith, room.attributes_long)) f_is read.first;
          value_at = noted 0 vs i r.value_at (omega (arith, room.values_long)) (ap (λ (x : Row). x.value_at) r_is) read.value_at;
          value_len = noted 0 ls i r.value_len (omega (arith, room.lengths_long)) (ap (λ (x : Row). x.value_len) r_is) read.value_len;
          left_is = noted false bs i b (omega (arith, room.left_long)) b_is read.left_is;
        }

    pub read_all : {i n : ℕ} → RowsRead s l i ds ts fs vs ls bs → i ≡ n → RowsRead s l n ds ts fs vs ls bs
    read_all read e = rw e at read

    -- the column, in the first rows of a longer list
    pub column_is : RowsRead s l l.nodes ds ts fs vs ls bs → l.nodes ≤ length ds → take l.nodes ds ≡ depths s l
    column_is read h =
        let n = length-take-le l.nodes ds h in
        ext_get_or 0 (take l.nodes ds) (depths s l) (n ∙ sym (depths_from_length s l 0 l.nodes))
        (λ i g. let k : i < l.nodes = omega (arith, n) in get_or-take l.nodes ds i 0 k ∙ read.depth i k ∙ sym (depths_at s l i k))

-- ---- row by row

pub record Reading (s : Bytes) (l : Layout) (ds₀ ts₀ fs₀ vs₀ ls₀ : List ℕ) (bs₀ : List Bool) (ds ts fs vs ls : List ℕ) (bs : List Bool) (first i : ℕ) : Type 0 where
  pub inside : i ≤ l.nodes
  pub first_is : first ≡ counts_from s l 0 i
  pub read : RowsRead s l i ds ts fs vs ls bs
  pub depths_same : length ds ≡ length ds₀
  pub tags_same : length ts ≡ length ts₀
  pub attributes_same : length fs ≡ length fs₀
  pub values_same : length vs ≡ length vs₀
  pub lengths_same : length ls ≡ length ls₀
  pub left_same : length bs ≡ length bs₀

pub reading_start : (s : Bytes) (l : Layout) (ds ts fs vs ls : List ℕ) (bs : List Bool) → Reading s l ds ts fs vs ls bs ds ts fs vs ls bs 0 0
reading_start s l ds ts fs vs ls bs =
    record {
      inside = omega arith;
      first_is = sym (counts_none s l);
      read = no_rows s l;
      depths_same = refl;
      tags_same = refl;
      attributes_same = refl;
      values_same = refl;
      lengths_same = refl;
      left_same = refl;
    }

module _ {s : Bytes} {l : Layout} {ds₀ ts₀ fs₀ vs₀ ls₀ ds ts fs vs ls : List ℕ} {bs₀ bs : List Bool} {first i : ℕ} where
  pub room_at : Reading s l ds₀ ts₀ fs₀ vs₀ ls₀ bs₀ ds ts fs vs ls bs first i → Columns l.nodes ds₀ ts₀ fs₀ vs₀ ls₀ bs₀ → i < l.nodes → Columns (suc i) ds ts fs vs ls bs
  room_at g room h =
      record {
        depths_long = omega (arith, g.depths_same, room.depths_long);
        tags_long = omega (arith, g.tags_same, room.tags_long);
        attributes_long = omega (arith, g.attributes_same, room.attributes_long);
        values_long = omega (arith, g.values_same, room.values_long);
        lengths_long = omega (arith, g.lengths_same, room.lengths_long);
        left_long = omega (arith, g.left_same, room.left_long);
      }

  pub reading_more : {t : ℕ} {b : Bool} {r : Row} → Reading s l ds₀ ts₀ fs₀ vs₀ ls₀ bs₀ ds ts fs vs ls bs first i → Columns l.nodes ds₀ ts₀ fs₀ vs₀ ls₀ bs₀ → i < l.nodes → r ≡ row_at s l i → t ≡ tag_of (tag (node_at s l i)) → b ≡ left_out (node_at s l) (page_of s l).marked i
      → Reading s l ds₀ ts₀ fs₀ vs₀ ls₀ bs₀ (set ds i r.depth) (set ts i t) (set fs i first) (set vs i r.value_at) (set ls i r.value_len) (set bs i b) (first + r.attributes) (i + 1)
  reading_more {t} {b} {r} g room h r_is t_is b_is =
      record {
        inside = omega arith;
        first_is = omega (arith, g.first_is, counts_next s l i r_is);
        read = row_more s l g.read (room_at g room h) r_is t_is g.first_is b_is;
        depths_same = simp length-set g.depths_same;
        tags_same = simp length-set g.tags_same;
        attributes_same = simp length-set g.attributes_same;
        values_same = simp length-set g.values_same;
        lengths_same = simp length-set g.lengths_same;
        left_same = simp length-set g.left_same;
      }

-- ---- the rows as they are taken: each is right, and noted

pub record Taking (s : Bytes) (l : Layout) (ds₀ ts₀ fs₀ vs₀ ls₀ : List ℕ) (bs₀ : List Bool) (ds ts fs vs ls : List ℕ) (bs : List Bool) (before : Row) (at first i : ℕ) : Type 0 where
  pub rows : Rows s l before at i
  pub few : first ≤ l.attributes
  pub reading : Reading s l ds₀ ts₀ fs₀ vs₀ ls₀ bs₀ ds ts fs vs ls bs first i

pub taking_start : (s : Bytes) (l : Layout) (ds ts fs vs ls : List ℕ) (bs : List Bool) (before : Row) → Taking s l ds ts fs vs ls bs ds ts fs vs ls bs before (header_length l.width) 0 0
taking_start s l ds ts fs vs ls bs before = record { rows = rows_start s l before; few = omega arith; reading = reading_start s l ds ts fs vs ls bs }

module _ {s : Bytes} {l : Layout} {ds₀ ts₀ fs₀ vs₀ ls₀ ds ts fs vs ls : List ℕ} {bs₀ bs : List Bool} {before : Row} {at first i : ℕ} (g : Taking s l ds₀ ts₀ fs₀ vs₀ ls₀ bs₀ ds ts fs vs ls bs before at first i) where
  module _ (h : i < l.nodes) where
    pub taking_small : Sized s l → at + node_length l.width ≤ 5000000
    taking_small sized = omega (arith, g.rows.place, lines_small l.width i sized.width (omega (arith, sized.nodes)), sized.width)

    pub taking_bad : Sized s l → row_in s l i before at first ≡ None → false ≡ is_sheet (judged s l)
    taking_bad sized e =
        row_in_bad s l i before at first e (rows_bad s l g.rows h) (λ r n w. rows_wrong s l g.rows h n w)
        (λ r n w m. not_accepted s l sized (λ a. omega (arith, m, g.reading.first_is, counts_fit s l a i h (row_is s l g.rows h n))))

    module _ {r : Row} (e : row_in s l i before at first ≡ Some r) where
      row : RowIn s l i before at first r
      row = row_in_numbers s l i before at first e

      pub taken_is : r ≡ row_at s l i
      taken_is = row_is s l g.rows h row.line

      pub taken_facts : Sized s l → RowFacts l r
      taken_facts sized = row_facts s l g.rows h row.line row.right sized

      pub taken_few : first + r.attributes ≤ l.attributes
      taken_few = row.few

      pub taking_more : {t then : ℕ} {b : Bool} → Sized s l → Columns l.nodes ds₀ ts₀ fs₀ vs₀ ls₀ bs₀ → ((j : ℕ) → r ≡ row_at s l j → t ≡ tag_of (tag (node_at s l j))) → b ≡ (eqb r.kind 8 || eqb r.skip 1) → then ≡ at + node_length l.width
          → Taking s l ds₀ ts₀ fs₀ vs₀ ls₀ bs₀ (set ds i r.depth) (set ts i t) (set fs i first) (set vs i r.value_at) (set ls i r.value_len) (set bs i b) r then (first + r.attributes) (i + 1)
      taking_more sized room t_is b_is then_is =
          record {
            rows = rows_more s l g.rows h row.line row.right then_is;
            few = row.few;
            reading = reading_more g.reading room h taken_is (t_is i taken_is) (left_read s l i taken_is (taken_facts sized).listed b_is);
          }

  pub taking_end : l.nodes ≤ i → rest_right s l first ≡ is_sheet (judged s l)
  taking_end h = let e : i ≡ l.nodes = omega (arith, g.rows.within) in rows_end s l g.rows h (g.reading.first_is ∙ ap (counts_from s l 0) e)

-- the column of an accepted sheet, for a stack with a place for each depth
pub column_right : {s : Bytes} {l : Layout} {room : ℕ} → Accepted s l → most_depth < room → ColumnRight (depths s l) room
column_right {s} {l} a h =
    record {
      column = well_formed a;
      deep = λ i g.
          let k : i < l.nodes = omega (arith, depths_from_length s l 0 l.nodes) in
          omega (arith, depths_at s l i k, depth_small s l a i k);
    }
