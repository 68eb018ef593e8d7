-- What a row of a sheet is, by the numbers that are read of it.
use Rattle.std.specs.Prelude.{Some}
use mathlib.Core.Path.{◌≡◌, refl, sym, ap, ◌∙◌}
use mathlib.Core.Bool.{Bool, true, false}
use mathlib.Core.List.{List}
use Prim.Native.Nat.{ℕ, ◌-◌, ◌≤◌, ◌<◌}
use native.Mathlib.Omega.{arith}
use lib.Dec.{eqb}
use lib.ListN.{get_or, drop}
use borrow.Author.Tests.{ne_eqb, eqb-true, eqb-false}
use Rattle.common.specs.Bytes.{Bytes, codes, same}
use Rattle.common.proofs.Choice.{by_test}
use Rattle.sheet.specs.Accepted.{Accepted}
use Rattle.sheet.specs.Column.{parent_of}
use Rattle.sheet.specs.Layout.{row_at, range, depths}
use Rattle.sheet.specs.declared.line.Layout.{Layout}
use Rattle.sheet.specs.declared.line.Row.{Row}
use Rattle.tree.specs.Node.{text, comment}
use Rattle.sheet.proofs.LayoutLaws.{depths_from_length}
use Rattle.tree.specs.Page.{kind_of, node_at}
use Rattle.tree.specs.Rows.{next_sibling_of, past_from, past_of}
use Rattle.tree.proofs.Column.{below_length, depth_is}
use Rattle.tree.proofs.NodeLaws.{tag_of_element, tag_of_other}
use Rattle.tree.proofs.PageLaws.{row_kind, kind_text, is_element, not_element, name_is}
use Rattle.tree.proofs.PastLaws.{past_of_high}
use Rattle.tree.proofs.SheetColumn.{well_formed}
use Rattle.filters.specs.Footer.{Above, is_body, is_not_text, content_follows, followed}
use Rattle.filters.proofs.FooterLaws.{parent_before, follow_end, follow_body, follow_yes, follow_up, above_parent, above_depth, above_up, past_above}

kind_comment : (k : ℕ) → (k ≡ 1 → ⊥) → (k ≡ 3 → ⊥) → kind_of k ≡ comment
unfolding kind_of
kind_comment k n m = rw (ne_eqb k 1 n, ne_eqb k 3 m)

module _ (s : Bytes) (l : Layout) (i : ℕ) {r : Row} (r_is : r ≡ row_at s l i) where
  pub row_text : r.kind ≡ 3 → (node_at s l i).kind ≡ text
  row_text e = row_kind s l i r_is ∙ kind_text r.kind e

  pub row_comment : (r.kind ≡ 1 → ⊥) → (r.kind ≡ 3 → ⊥) → (node_at s l i).kind ≡ comment
  row_comment n m = row_kind s l i r_is ∙ kind_comment r.kind n m

  pub is_text : r.kind ≡ 3 → is_not_text (node_at s l i) ≡ false
  unfolding is_not_text
  is_text e = rw (row_text e, is_not_text)

  pub not_text : (r.kind ≡ 3 → ⊥) → is_not_text (node_at s l i) ≡ true
  unfolding is_not_text
  not_text m =
      by_test (eqb r.kind 1)
      (λ t. rw (is_element s l i r_is (eqb-true r.kind 1 t), is_not_text))
      (λ t. rw (row_comment (eqb-false r.kind 1 t) m, is_not_text))

  -- ---- body
  pub body_other : (r.kind ≡ 1 → ⊥) → false ≡ is_body (node_at s l i)
  unfolding is_body same codes
  body_other n = rw (tag_of_other (node_at s l i) (not_element s l i r_is n))

  pub body_named : r.kind ≡ 1 → {name : Bytes} {b : Bool} → name ≡ range s l r.name_at r.name_len → b ≡ same name (codes "body") → b ≡ is_body (node_at s l i)
  unfolding is_body
  body_named e p q = q ∙ ap (λ (t : Bytes). same t (codes "body")) (p ∙ sym (name_is s l i r_is) ∙ sym (tag_of_element (node_at s l i) (is_element s l i r_is e)))

  -- ---- depths
  pub depth_read : {x : ℕ} → i < l.nodes → x ≡ r.depth → x ≡ get_or (depths s l) i 0
  depth_read h e = depth_is s l i h (e ∙ ap (λ (t : Row). t.depth) r_is)

-- ---- the first row past a row
module _ (s : Bytes) (l : Layout) where
  pub past_in_sheet : (row : ℕ) → row < l.nodes → {end : ℕ} → end ≡ past_of (depths s l) row → end ≤ l.nodes
  past_in_sheet row h e = omega (arith, past_of_high (depths s l) row (below_length s l row h), depths_from_length s l 0 l.nodes)

  -- the loop over a footer's parents has come to a row at depth d, and end is the first row past it
  pub record Climbed (i : ℕ) (stack : List ℕ) (row d end : ℕ) : Type 0 where
    pub inside : row < l.nodes
    pub depth : d ≡ get_or (depths s l) row 0
    pub past : end ≡ past_of (depths s l) row
    pub above : Above (depths s l) row stack
    pub same : followed (node_at s l) (depths s l) row ≡ followed (node_at s l) (depths s l) i

module _ {s : Bytes} {l : Layout} {i : ℕ} {stack : List ℕ} where
  pub climbed_start : {d end : ℕ} → i < l.nodes → d ≡ (row_at s l i).depth → end ≡ past_of (depths s l) i → Above (depths s l) i stack → Climbed s l i stack i d end
  climbed_start h d_is end_is a = record { inside = h; depth = depth_is s l i h d_is; past = end_is; above = a; same = refl }

  module _ {row d end : ℕ} (g : Climbed s l i stack row d end) where
    pub climbed_end : d ≤ 0 → false ≡ followed (node_at s l) (depths s l) i
    climbed_end h = follow_end (node_at s l) (depths s l) i row g.same (omega (arith, g.depth))

    module _ (deep : 0 < d) where
      -- the parent
      abbrev next : ℕ
      next = get_or stack (d - 1) 0

      pub parent_is : parent_of (depths s l) row ≡ Some next
      parent_is = above_parent (depths s l) row g.above g.depth deep

      pub parent_inside : next < l.nodes
      parent_inside = omega (arith, g.inside, parent_before (depths s l) row next parent_is)

      pub climbed_body : {b : Bool} → b ≡ is_body (node_at s l next) → b ≡ true → false ≡ followed (node_at s l) (depths s l) i
      climbed_body e t = follow_body (node_at s l) (depths s l) i row g.same next parent_is (sym e ∙ t)

      module _ {b f : Bool} (e : b ≡ is_body (node_at s l next)) (b_is : b ≡ false) (q : f ≡ content_follows (node_at s l) (depths s l) (next_sibling_of (depths s l) row)) where
        pub climbed_followed : f ≡ true → true ≡ followed (node_at s l) (depths s l) i
        climbed_followed t = follow_yes (node_at s l) (depths s l) i row g.same next parent_is (sym e ∙ b_is) (sym q ∙ t)

        pub climbed_more : Accepted s l → f ≡ false → {past : ℕ} → past ≡ past_from (d - 1) end (drop end (depths s l)) → Climbed s l i stack next (d - 1) past
        climbed_more a t past_is =
            let up = above_depth (depths s l) row g.above g.depth deep in
            record {
              inside = parent_inside;
              depth = up;
              past = past_is ∙ ap (λ (x : ℕ). past_from x end (drop end (depths s l))) up ∙ past_above (depths s l) (well_formed a) row next (below_length s l next parent_inside) parent_is g.past;
              above = above_up (depths s l) row g.above g.depth deep (well_formed a) (below_length s l row g.inside);
              same = follow_up (node_at s l) (depths s l) i row g.same next parent_is (sym e ∙ b_is) (sym q ∙ t);
            }
