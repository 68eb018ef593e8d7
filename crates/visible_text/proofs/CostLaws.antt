-- The greatest length of a row's text is at most a sum over the rows below it, which stays below the limit of lengths.
use mathlib.Core.Path.{◌≡◌, refl, ap, ◌∙◌}
use mathlib.Core.Bool.{Bool, true, false, ◌||◌, cond}
use mathlib.Core.List.{List, [], ◌∷◌, ◌++◌}
use Prim.Native.Nat.{ℕ, zero, suc, ◌+◌, ◌-◌, ◌*◌, ◌≤◌, ◌<◌}
use native.Mathlib.Omega.{arith}
use lib.Dec.{eqb, leb}
use lib.ListN.{length, length-append, length-take}
use borrow.Author.Tests.{le-ltb, eqb-true}
use Rattle.common.specs.Bytes.{Bytes, length_limit}
use Rattle.common.proofs.Choice.{by_test, by_cond}
use Rattle.sheet.specs.Accepted.{Accepted}
use Rattle.sheet.specs.Layout.{most_rows, no_row, row_at, depths}
use Rattle.sheet.specs.declared.line.Layout.{Layout}
use Rattle.sheet.specs.declared.line.Row.{Row}
use Rattle.text.specs.Text.{is_ascii_whitespace}
use Rattle.text.proofs.CollapseLaws.{collapse_length}
use Rattle.tree.specs.Forest.{Forest, empty, node, preorder}
use Rattle.tree.specs.Node.{text, Node}
use Rattle.tree.specs.Page.{widest_pool, node_at}
use Rattle.tree.specs.Rows.{children_of, past_of}
use Rattle.tree.specs.TextContent.{text_data, concatenated, text_content}
use Rattle.tree.proofs.Column.{below_length}
use Rattle.tree.proofs.Descendants.{descendants, length_rows}
use Rattle.tree.proofs.NodeLaws.{by_kind}
use Rattle.tree.proofs.PageLaws.{value_is}
use Rattle.tree.proofs.PastLaws.{above_or_not, past_of_high}
use Rattle.tree.proofs.SheetColumn.{rows, well_formed}
use Rattle.tree.proofs.TextLaws.{data_of_text, text_of_element}
use Rattle.tree.proofs.TextLengths.{pool_small}
use Rattle.writer.specs.Out.{Out, nothing, push_all, strip_by}
use Rattle.writer.proofs.CostLaws.{Costs, costs_none, costs_push_all, costs_strip, costs_then, costs_more}
use Rattle.visible_text.specs.CollapseWhitespace.{collapse_whitespace, ends_blank}
use Rattle.visible_text.specs.Inner.{block, paragraph, pre, br, step_at, insert_by, begin_by}
use Rattle.visible_text.specs.VisibleText.{added_text, add_text, begin, enters, walk}
use Rattle.visible_text.specs.WhiteSpace.{white_length, trim_from}
use Rattle.visible_text.proofs.BlankLaws.{collapses_by_five}
use Rattle.visible_text.proofs.StepLaws.{begins_pre, pre_element, enters_step, element_no_text, comment_no_text, begin_text, begin_step, end_step}
use Rattle.visible_text.proofs.WalkLaws.{within, within_entered, within_passed, behind, walk_row}

costs_as : {F : Out → Out} {c : ℕ} (G : Out → Out) → ((o : Out) → F o ≡ G o) → Costs G c → Costs F c
costs_as G e a = record { below = λ o h. rw (e o) (a.below o h); most = λ o h. rw (e o) (a.most o h) }

costs_if : {F G : Out → Out} {c : ℕ} (b : Bool) → Costs F c → Costs G c → Costs (λ o. cond b (F o) (G o)) c
costs_if true f g = f
costs_if false f g = g

-- ---- the steps

insert_costs : (step : ℕ) → Costs (insert_by step) 2
unfolding insert_by
insert_costs step =
    costs_if (eqb step block || eqb step pre) (fed (0x0a ∷ []) (omega arith))
    (costs_if (eqb step paragraph) (fed (0x0a ∷ 0x0a ∷ []) (omega arith)) (costs_more (omega arith) costs_none))
  where
    fed : (s : Bytes) → length s ≤ 2 → Costs (λ o. push_all s (strip_by is_ascii_whitespace o)) 2
    fed s h = costs_more (omega arith) (costs_then (costs_strip is_ascii_whitespace) (costs_push_all s))

begin_by_costs : (step : ℕ) (content : Bytes) → eqb step pre ≡ false → Costs (begin_by step content) 2
unfolding begin_by
begin_by_costs step content n =
    costs_as (λ o. cond (eqb step br) (push_all (0x0a ∷ []) o) (insert_by step o)) (λ o. rw n)
    (costs_if (eqb step br) (costs_more (omega arith) (costs_push_all (0x0a ∷ []))) (insert_costs step))

trim_short : (k : ℕ) (s : Bytes) → length (trim_from k s) ≤ length s
unfolding trim_from
trim_short k [] = omega arith
trim_short (suc k) (c ∷ s) = omega (arith, trim_short k s)
trim_short zero (c ∷ s) = go (white_length (c ∷ s)) refl (λ k. trim_short k s)
  where
    go : (n : ℕ) → white_length (c ∷ s) ≡ n → ((k : ℕ) → length (trim_from k s) ≤ length s) → length (trim_from 0 (c ∷ s)) ≤ suc (length s)
    go zero e f = rw (e, trim_from) (omega arith)
    go (suc k) e f = rw (e, trim_from) (omega (arith, f k))

text_short : (before value : Bytes) → length (added_text before value) ≤ length value
text_short before value =
    let short : length (collapse_whitespace value) ≤ length value = rw (collapses_by_five value) (collapse_length is_ascii_whitespace value) in
    by_cond (λ (t : Bytes). length t ≤ length value) (ends_blank before)
    (λ e. omega (arith, trim_short 0 (collapse_whitespace value)))
    (λ e. short)

text_costs : (value : Bytes) → Costs (add_text value) (length value)
text_costs value =
    record {
      below = λ o g. (costs_push_all (added_text o.text value)).below o g;
      most = λ o g. omega (arith, (costs_push_all (added_text o.text value)).most o g, text_short o.text value);
    }

-- ---- the rows

-- the most LFs of a row: two at its begin and two at its end
abbrev pub feeds : ℕ
feeds = 4

-- what rows add at most, whose values have at most the lengths `len`
unfoldable pub most_of : (ℕ → ℕ) → List ℕ → ℕ
most_of len [] = 0
most_of len (i ∷ l) = len i + feeds + most_of len l

module _ (len : ℕ → ℕ) where
  most_append : (l m : List ℕ) → most_of len (l ++ m) ≡ most_of len l + most_of len m
  unfolding most_of
  most_append [] m = omega arith
  most_append (i ∷ l) m = omega (arith, most_append l m)

  most_times : {k : ℕ} → ((i : ℕ) → len i ≤ k) → (l : List ℕ) → most_of len l ≤ length l * (k + feeds)
  unfolding most_of
  most_times h [] = omega arith
  most_times {k} h (i ∷ l) = omega (arith, h i, most_times h l)

module _ (node_of : ℕ → Node) (len : ℕ → ℕ) (long : (i : ℕ) → length (node_of i).value ≤ len i) where
  data_most : (i : ℕ) → length (text_data (node_of i)) ≤ len i
  unfolding text_data
  data_most i =
      by_kind (node_of i).kind
      (λ k. rw (k, text_data) (omega arith))
      (λ k. rw (data_of_text (node_of i) k) (long i))
      (λ k. rw (k, text_data) (omega arith))

  all_most : (l : List ℕ) → length (concatenated node_of l) ≤ most_of len l
  unfolding concatenated most_of
  all_most [] = omega arith
  all_most (i ∷ l) = omega (arith, length-append (text_data (node_of i)) (concatenated node_of l), data_most i, all_most l)

  abbrev cost : Forest ℕ → ℕ
  cost f = most_of len (preorder f)

  within_costs : (i : ℕ) (children : Forest ℕ) {c : ℕ} → Costs (walk node_of children) c → Costs (within node_of i children) c
  within_costs i children a =
      by_test (enters node_of i)
      (λ e. costs_as (walk node_of children) (within_entered node_of i e children) a)
      (λ e. costs_as (λ o. o) (within_passed node_of i e children) (costs_more (omega arith) costs_none))

  -- the begin of a row and what is below it: of a pre all text below it is added at once, and the walk does not go there
  module _ (i : ℕ) (children : Forest ℕ) (a : Costs (walk node_of children) (cost children)) where
    abbrev begun : Out → Out
    begun o = within node_of i children (begin node_of i children o)

    abbrev content : Bytes
    content = text_content node_of i children

    pre_costs : step_at node_of i ≡ pre → Costs begun (cost children)
    pre_costs p =
        let k = pre_element node_of i p in
        let pushed : (o : Out) → begin node_of i children o ≡ push_all content o =
        λ o. begin_step node_of i children (element_no_text node_of i k) o ∙ begins_pre (step_at node_of i) content p o
        in
        let passed : enters node_of i ≡ false = enters_step node_of i ∙ ap (λ (n : ℕ). leb n paragraph) p in
        costs_more (omega (arith, ap length (text_of_element node_of i children k), all_most (preorder children)))
        (costs_then (costs_as (push_all content) pushed (costs_push_all content))
        (costs_as (λ o. o) (within_passed node_of i passed children) costs_none))

    by_costs : ((node_of i).kind ≡ text → ⊥) → eqb (step_at node_of i) pre ≡ false → Costs begun (2 + cost children)
    by_costs n e =
        let step = step_at node_of i in
        costs_then (costs_as (begin_by step content) (begin_step node_of i children n) (begin_by_costs step content e))
        (within_costs i children a)

    text_row_costs : (node_of i).kind ≡ text → Costs begun (length (node_of i).value + cost children)
    text_row_costs k =
        let value = (node_of i).value in
        costs_then (costs_as (add_text value) (begin_text node_of i children k) (text_costs value)) (within_costs i children a)

    begun_costs : Costs begun (len i + 2 + cost children)
    begun_costs =
        by_kind (node_of i).kind
        (λ k. stepped (element_no_text node_of i k))
        (λ k. costs_more (omega (arith, long i)) (text_row_costs k))
        (λ k. stepped (comment_no_text node_of i k))
      where
        stepped : ((node_of i).kind ≡ text → ⊥) → Costs begun (len i + 2 + cost children)
        stepped n =
            by_test (eqb (step_at node_of i) pre)
            (λ e. costs_more (omega arith) (pre_costs (eqb-true (step_at node_of i) pre e)))
            (λ e. costs_more (omega arith) (by_costs n e))

  behind_costs : (i : ℕ) (rest : Forest ℕ) {c : ℕ} → Costs (walk node_of rest) c → Costs (behind node_of i rest) (c + 2)
  unfolding behind
  behind_costs i empty a =
      let step = step_at node_of i in
      costs_more (omega arith) (costs_as (insert_by step) (end_step node_of i) (insert_costs step))
  behind_costs i (node j children rest) a = costs_more (omega arith) a

  cost_node : (i : ℕ) (children rest : Forest ℕ) → cost (node i children rest) ≡ len i + feeds + cost children + cost rest
  unfolding preorder most_of
  cost_node i children rest = omega (arith, most_append len (preorder children) (preorder rest))

  walk_costs : (f : Forest ℕ) → Costs (walk node_of f) (cost f)
  unfolding walk
  walk_costs empty = costs_more (omega arith) costs_none
  walk_costs (node i children rest) =
      costs_as (λ o. behind node_of i rest (within node_of i children (begin node_of i children o))) (walk_row node_of i children rest)
      (costs_more (omega (arith, cost_node i children rest))
      (costs_then (begun_costs i children (walk_costs children)) (behind_costs i rest (walk_costs rest))))

-- ---- a sheet

module _ (s : Bytes) (l : Layout) where
  -- the length of a row's value, by its line
  abbrev pub len_at : ℕ → ℕ
  len_at i = (row_at s l i).value_len

  len_long : (i : ℕ) → length (node_at s l i).value ≤ len_at i
  len_long i = rw (value_is s l i refl) (simp length-take (omega arith))

  row_past : (i : ℕ) → l.nodes ≤ i → row_at s l i ≡ no_row
  unfolding row_at
  row_past i h = rw (le-ltb i l.nodes h)

module _ {s : Bytes} {l : Layout} (a : Accepted s l) where
  len_small : (i : ℕ) → len_at s l i ≤ widest_pool
  len_small i =
      above_or_not l.nodes i
      (λ h. omega (arith, (a.value i h).inside, pool_small a))
      (λ h. omega (arith, ap (λ (r : Row). r.value_len) (row_past s l i h)))

  module _ (row : ℕ) (h : row < l.nodes) where
    -- what the rows below a row add at most
    abbrev pub most_below : ℕ
    most_below = most_of (len_at s l) (preorder (children_of (depths s l) row))

    pub most_small : most_below < length_limit
    most_small =
        let d = depths s l in
        let n : length (preorder (children_of d row)) ≤ most_rows =
        rw (descendants d (well_formed a) row, length_rows (suc row) (past_of d row - suc row))
        (omega (arith, past_of_high d row (below_length s l row h), rows a, a.sized.nodes))
        in
        omega (arith, most_times (len_at s l) len_small (preorder (children_of d row)))

    pub visible_most : (walk (node_at s l) (children_of (depths s l) row) nothing).peak ≤ most_below
    visible_most =
        let c = walk_costs (node_at s l) (len_at s l) (len_long s l) (children_of (depths s l) row) in
        omega (arith, c.most nothing (omega arith))

    pub visible_small : (walk (node_at s l) (children_of (depths s l) row) nothing).peak < length_limit
    visible_small = omega (arith, visible_most, most_small)
