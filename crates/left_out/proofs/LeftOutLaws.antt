-- A row is left out by what is noted of it and by the filters; without them, what is noted says it of every row.
use Rattle.std.specs.Prelude.{Option, None, Some}
use mathlib.Core.Path.{◌≡◌, refl, sym, ap, ◌∙◌}
use mathlib.Core.Bool.{Bool, true, false, not, ◌&&◌, ◌||◌, or_assoc, or-false}
use mathlib.Core.List.{List}
use Prim.Native.Nat.{ℕ, zero, suc, ◌-◌, ◌≤◌, ◌<◌}
use native.Mathlib.Omega.{arith}
use lib.ListN.{length, get_or, take}
use Rattle.common.specs.Bytes.{Bytes}
use Rattle.common.proofs.Choice.{by_test}
use Rattle.filters.specs.Filters.{filtered, filter_depth, is_main_content}
use Rattle.filters.specs.Footer.{Above, is_body, body_from, body_above}
use Rattle.html2text.specs.Walk.{is_comment}
use Rattle.options.specs.declared.ExtractOptions.{ExtractOptions}
use Rattle.sheet.specs.Accepted.{Accepted}
use Rattle.sheet.specs.Column.{parent_of}
use Rattle.sheet.specs.Layout.{most_depth, depths}
use Rattle.sheet.specs.declared.line.Layout.{Layout}
use Rattle.sheet.proofs.LayoutLaws.{depths_at, depths_from_length}
use Rattle.tree.specs.Node.{Node}
use Rattle.tree.specs.Page.{node_at, page_of}
use Rattle.tree.specs.Rows.{WellFormed}
use Rattle.tree.proofs.Column.{depth_small}
use Rattle.tree.proofs.Scans.{above_found}
use Rattle.tree.proofs.SheetColumn.{well_formed}
use Rattle.walk.specs.Rows.{Columns, RowsRead}
use Rattle.walk.specs.Turns.{Agree, flagged, tree_at}
use Rattle.walk.proofs.RowLaws.{column_is}
use Rattle.walk.proofs.WalkLaws.{agree_tree}
use Rattle.left_out.specs.LeftOut.{Fits, comment_or_marked, left_out_at, LeftOutRows, body_depth, Noted, MarksNoted, Undecided}

-- ---- the nearest body stands no later and no deeper

module _ (node_of : ℕ → Node) (column : List ℕ) where
  body_near : (above i : ℕ) → (body_from node_of column above i ≤ i) × (get_or column (body_from node_of column above i) 0 ≤ get_or column i 0)
  unfolding body_from
  body_near zero i = (omega arith, omega arith)
  body_near (suc above) i = by_test (is_body (node_of i)) (λ e. rw (e, body_from) (omega arith, omega arith)) (λ e. rw (e, body_from) (go (λ j. body_near above j) (parent_of column i) refl))
    where
      go : ((j : ℕ) → (body_from node_of column above j ≤ j) × (get_or column (body_from node_of column above j) 0 ≤ get_or column j 0)) → (p : Option ℕ) → parent_of column i ≡ p
          → (elim p as (λ _. ℕ) [ None ↦ i | Some parent ↦ body_from node_of column above parent ] ≤ i)
          × (get_or column (elim p as (λ _. ℕ) [ None ↦ i | Some parent ↦ body_from node_of column above parent ]) 0 ≤ get_or column i 0)
      go near None e = (omega arith, omega arith)
      go near (Some parent) e =
          let up = above_found column (get_or column i 0) i parent e in
          let more = near parent in
          (omega arith, omega arith)

-- ---- a row

module _ (s : Bytes) (l : Layout) (o : ExtractOptions) where
  left_out_split : (main : Bool) (i : ℕ) → o.main_content ≡ main → left_out_at s l o i ≡ (comment_or_marked s l i || (main && filtered (page_of s l) o i))
  left_out_split main i e =
      ap (λ (b : Bool). is_comment (node_at s l i).kind || ((page_of s l).marked i || (b && filtered (page_of s l) o i))) e
      ∙ sym (or_assoc (is_comment (node_at s l i).kind) ((page_of s l).marked i) (main && filtered (page_of s l) o i))

  filtered_is : (i : ℕ) → filtered (page_of s l) o i ≡ not (is_main_content (node_at s l) (depths s l) o i (get_or (depths s l) i 0 - body_depth s l))
  unfolding filtered filter_depth
  filtered_is i = refl

  by_filters : {marked out : Bool} {d : ℕ} (i : ℕ) → o.main_content ≡ true → marked ≡ comment_or_marked s l i → d ≡ get_or (depths s l) i 0 - body_depth s l
      → out ≡ (marked || not (is_main_content (node_at s l) (depths s l) o i d)) → out ≡ left_out_at s l o i
  by_filters i on m_is d_is out_is = out_is ∙ rw (m_is, d_is) (sym (left_out_split true i on ∙ ap (λ (b : Bool). comment_or_marked s l i || b) (filtered_is i)))

  without_filters : (i : ℕ) → o.main_content ≡ false → comment_or_marked s l i ≡ left_out_at s l o i
  without_filters i off = sym (left_out_split false i off ∙ or-false (comment_or_marked s l i))

-- ---- what a row asks for, and what it then is

module _ {s : Bytes} {l : Layout} {column tags attributes : List ℕ} (n : Noted s l column tags attributes) where
  pub rows_are : length column ≡ l.nodes
  rows_are = ap length n.depths_are ∙ depths_from_length s l 0 l.nodes

  pub column_well_formed : WellFormed column
  column_well_formed = rw n.depths_are (well_formed n.accepted)

  -- no row is deeper than `most_depth`
  pub column_fits : (stack : List ℕ) → most_depth < length stack → Fits column stack
  column_fits stack h =
      record {
        place = λ i m.
            let k : i < l.nodes = omega (arith, rows_are) in
            omega (arith, ap (λ (c : List ℕ). get_or c i 0) n.depths_are, depths_at s l i k, depth_small s l n.accepted i k);
      }

  body_of_root : (body_above (node_at s l) (depths s l) l.root ≤ l.root) × (body_depth s l ≤ get_or (depths s l) l.root 0)
  body_of_root = body_near (node_at s l) (depths s l) (get_or (depths s l) l.root 0) l.root

  pub body_inside : {body : ℕ} → body ≡ body_above (node_at s l) (depths s l) l.root → body < length column
  body_inside e = omega (arith, e, body_of_root.0, rows_are, n.accepted.sized.root)

  pub undecided : {o : ExtractOptions} {base k : ℕ} {left : List Bool} {stack : List ℕ} → o.main_content ≡ true → base ≡ body_depth s l → k < length column → get_or column l.root 0 ≤ get_or column k 0
      → length column ≤ length left → flagged left k ≡ comment_or_marked s l k → Fits column stack → Above column k stack → Undecided s l o base column tags attributes left stack k
  undecided on base_is h deep room m fits above =
      record {
        noted = n;
        filters_on = on;
        base_is = base_is;
        row = omega (arith, rows_are);
        below = omega (arith, base_is, body_of_root.1, ap (λ (c : List ℕ). get_or c l.root 0) n.depths_are);
        room = omega arith;
        marked = m;
        fits = fits;
        above = above;
      }

  pub left_as_decided : (o : ExtractOptions) (left : List Bool) → Agree (flagged left) (left_out_at s l o) (tree_at column l.root) → LeftOutRows s l o left
  left_as_decided o left a = rw n.depths_are at a

pub row_decided : {s : Bytes} {l : Layout} {o : ExtractOptions} {base k d : ℕ} {column tags attributes : List ℕ} {left : List Bool} {stack : List ℕ} {out : Bool}
    → Undecided s l o base column tags attributes left stack k → d ≡ get_or column k 0 - base → out ≡ (flagged left k || not (is_main_content (node_at s l) (depths s l) o k d)) → out ≡ left_out_at s l o k
row_decided {s} {l} {o} {k = k} u d_is out_is = by_filters s l o k u.filters_on u.marked (d_is ∙ rw (u.noted.depths_are, u.base_is)) out_is

pub rows_above : {s : Bytes} {l : Layout} {o : ExtractOptions} {base k : ℕ} {column tags attributes : List ℕ} {left : List Bool} {stack : List ℕ}
    → Undecided s l o base column tags attributes left stack k → Above (depths s l) k stack
rows_above u = rw u.noted.depths_are at u.above

pub row_inside : {s : Bytes} {l : Layout} {o : ExtractOptions} {base k : ℕ} {column tags attributes : List ℕ} {left : List Bool} {stack : List ℕ}
    → Undecided s l o base column tags attributes left stack k → k < length column
row_inside u = omega (arith, rows_are u.noted, u.row)

-- ---- without the filters

pub left_as_noted : {s : Bytes} {l : Layout} (o : ExtractOptions) {left : List Bool} → Accepted s l → MarksNoted s l left → o.main_content ≡ false → LeftOutRows s l o left
left_as_noted {s} {l} o {left} a n off =
    let rows = depths_from_length s l 0 l.nodes in
    agree_tree (depths s l) l.root (flagged left) (left_out_at s l o) (omega (arith, a.sized.root)) (λ j h. n.noted j (omega arith) ∙ without_filters s l o j off)

-- ---- the columns of `take_rows`

module _ {s : Bytes} {l : Layout} {ds ts fs vs ls : List ℕ} {bs : List Bool} (room : Columns l.nodes ds ts fs vs ls bs) (read : RowsRead s l l.nodes ds ts fs vs ls bs) where
  pub noted : Accepted s l → Noted s l (take l.nodes ds) ts fs
  noted a =
      record {
        accepted = a;
        depths_are = column_is s l read room.depths_long;
        tags_long = room.tags_long;
        tag_is = read.tag_number;
        attributes_long = room.attributes_long;
        first_is = read.first;
      }

  pub marks_noted : MarksNoted s l bs
  marks_noted = record { long = room.left_long; noted = read.left_is }
