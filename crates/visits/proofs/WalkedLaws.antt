-- Where the rows that are reached are left out as they must be, the passes are those of the page: rows of the sheet that are no comments,
-- and the page's events and visits.
use Rattle.std.specs.Prelude.{Option}
use mathlib.Core.Path.{◌≡◌, refl, sym, ap, subst, ◌∙◌}
use mathlib.Core.Bool.{Bool, true, false}
use mathlib.Core.List.{List, [], ◌∷◌, ◌++◌}
use Prim.Native.Nat.{ℕ, suc, ◌≤◌, ◌<◌}
use native.Mathlib.Omega.{arith}
use lib.ListN.{length}
use Rattle.common.specs.Bytes.{Bytes}
use Rattle.common.proofs.Choice.{absurd_test}
use Rattle.options.specs.declared.ExtractOptions.{ExtractOptions}
use Rattle.sheet.specs.Accepted.{Accepted}
use Rattle.sheet.specs.Layout.{depths}
use Rattle.sheet.specs.declared.line.Layout.{Layout}
use Rattle.sheet.proofs.LayoutLaws.{depths_from_length}
use Rattle.tree.specs.Forest.{Forest, empty, node, has_trees}
use Rattle.tree.specs.Node.{Node}
use Rattle.tree.specs.Page.{node_at, page_of}
use Rattle.tree.specs.Rows.{children_of, first_child_of, next_sibling_of}
use Rattle.tree.proofs.Standing.{Stands, root_stands}
use Rattle.html2text.specs.Bounds.{most_events, EachAdds}
use Rattle.html2text.specs.Collect.{Event}
use Rattle.html2text.specs.Walk.{is_comment, left_out, event_at, events, visits, tree_of}
use Rattle.common.proofs.TestLaws.{or_neither}
use Rattle.html2text.proofs.PageBounds.{events_bounded}
use Rattle.html2text.proofs.PageLaws.{page_right}
use Rattle.walk.specs.Turns.{row_turns, turns, events_of, Agree, flagged}
use Rattle.walk.specs.declared.cursor.Turn.{Turn}
use Rattle.walk.specs.declared.cursor.Turn.TheVariants.{Begin, End, LeftOut}
use Rattle.walk.proofs.WalkLaws.{agree_turns, turns_of_walk, tree_most}
use Rattle.visits.specs.Visiting.{events_in, RowShown, EachShown, passes_of, Walked}

-- the events of passes, whatever is said to be left out
events_same : (node_of : ℕ → Node) (hidden other : ℕ → Bool) (ts : List Turn) → events_of node_of hidden ts ≡ events_of node_of other ts
unfolding events_of
events_same node_of hidden other [] = refl
events_same node_of hidden other (Begin i d c ∷ ts) = ap (λ (es : List Event). event_at node_of other i c d false ∷ es) (events_same node_of hidden other ts)
events_same node_of hidden other (End i d ∷ ts) = ap (λ (es : List Event). event_at node_of other i true d true ∷ es) (events_same node_of hidden other ts)
events_same node_of hidden other (LeftOut ∷ ts) = events_same node_of hidden other ts

-- ---- every row that is visited is a row of the sheet, and no comment

module _ (s : Bytes) (l : Layout) where
  shown_append : (ts us : List Turn) → EachShown s l ts → EachShown s l us → EachShown s l (ts ++ us)
  unfolding EachShown
  shown_append [] us h k = k
  shown_append (t ∷ ts) us h k = (h.0, shown_append ts us h.1 k)

  row_shown : (left children : Bool) (i d : ℕ) (below rest : List Turn) → (left ≡ false → RowShown s l i) → EachShown s l below → EachShown s l rest
      → EachShown s l (row_turns left i d children below ++ rest)
  unfolding EachShown
  row_shown true children i d below rest h b r = (tt, r)
  row_shown false true i d below rest h b r = (h refl, shown_append (below ++ End i d ∷ []) rest (shown_append below (End i d ∷ []) b (h refl, tt)) r)
  row_shown false false i d below rest h b r = (h refl, shown_append (below ++ []) rest (shown_append below [] b tt) r)

  module _ (hidden : ℕ → Bool) where
    kept_shown : (i : ℕ) → i < l.nodes → left_out (node_at s l) hidden i ≡ false → RowShown s l i
    kept_shown i h e =
        record { inside = h; shown = λ k. absurd_test (ap is_comment k) (or_neither (is_comment (node_at s l i).kind) (hidden i) e).0 }

    inside_sheet : (i : ℕ) → i < length (depths s l) → i < l.nodes
    inside_sheet i h = omega (arith, depths_from_length s l 0 l.nodes)

    each_shown : (root d : ℕ) (f : Forest ℕ) (c : Option ℕ) (p : ℕ) → Stands (depths s l) root f c p → EachShown s l (turns (left_out (node_at s l) hidden) d f)
    unfolding turns EachShown
    each_shown root d empty c p h = tt
    each_shown root d (node i children rest) c p h =
        row_shown (left_out (node_at s l) hidden i) (has_trees children) i d (turns (left_out (node_at s l) hidden) (suc d) children) (turns (left_out (node_at s l) hidden) d rest)
        (kept_shown i (inside_sheet i h.1.inside))
        (each_shown root (suc d) children (first_child_of (depths s l) i) i h.2)
        (each_shown root d rest (next_sibling_of (depths s l) i) p h.3)

    tree_shown : l.root < length (depths s l) → EachShown s l (turns (left_out (node_at s l) hidden) 0 (tree_of (page_of s l)))
    unfolding turns EachShown
    tree_shown h =
        let below = children_of (depths s l) l.root in
        row_shown (left_out (node_at s l) hidden l.root) (has_trees below) l.root 0 (turns (left_out (node_at s l) hidden) 1 below) []
        (kept_shown l.root (inside_sheet l.root h))
        (each_shown l.root 1 below (first_child_of (depths s l) l.root) l.root (root_stands (depths s l) l.root))
        tt

-- ---- the passes of a page

-- "At most 2·N."
pub passes_few : {s : Bytes} {l : Layout} → Accepted s l → (left : List Bool) → length (passes_of s l left) ≤ most_events
passes_few {s} {l} accepted left =
    let right = page_right accepted in
    omega (arith, tree_most (flagged left) (depths s l) right.column l.root right.root, depths_from_length s l 0 l.nodes, accepted.sized.nodes)

module _
    (s : Bytes) (l : Layout) (left : List Bool) (hidden : ℕ → Bool) (agree : Agree (flagged left) (left_out (node_at s l) hidden) (tree_of (page_of s l))) where
  passes_are : passes_of s l left ≡ turns (left_out (node_at s l) hidden) 0 (tree_of (page_of s l))
  passes_are = agree_turns (flagged left) (left_out (node_at s l) hidden) 0 (tree_of (page_of s l)) agree

  pub events_of_passes : events_in s l (passes_of s l left) ≡ events (node_at s l) hidden 0 (tree_of (page_of s l))
  events_of_passes =
      ap (events_in s l) passes_are
      ∙ events_same (node_at s l) (λ i. false) hidden (turns (left_out (node_at s l) hidden) 0 (tree_of (page_of s l)))
      ∙ sym (turns_of_walk (node_at s l) hidden 0 (tree_of (page_of s l))).events_are

  pub visits_of_passes : length (passes_of s l left) ≡ visits (node_at s l) hidden (tree_of (page_of s l))
  visits_of_passes = ap length passes_are ∙ sym (turns_of_walk (node_at s l) hidden 0 (tree_of (page_of s l))).visits_are

  pub walked : (o : ExtractOptions) → Accepted s l → l.nodes ≤ length left → Walked s l o left
  walked o accepted h =
      let b = events_bounded accepted hidden o in
      record {
        long = h;
        shown = subst (EachShown s l) (sym passes_are) (tree_shown s l hidden (page_right accepted).root);
        few = rw events_of_passes b.few;
        each = subst (EachAdds o) (sym events_of_passes) b.each;
      }
