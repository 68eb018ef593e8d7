-- What is left of the walk below a row, at the next row: the end steps before it, its begin step, and the end.
use mathlib.Core.Path.{◌≡◌, refl, sym, ap, ◌∙◌}
use mathlib.Core.Bool.{true, false, cond}
use mathlib.Core.List.{List, [], ◌∷◌}
use Prim.Native.Nat.{ℕ, zero, suc, ◌+◌, ◌-◌, ◌≤◌, ◌<◌}
use native.Mathlib.Omega.{arith}
use lib.Dec.{leb}
use lib.ListN.{length, get_or}
use Rattle.common.proofs.Choice.{by_test}
use Rattle.tree.specs.Forest.{Forest, empty, node, has_trees}
use Rattle.tree.specs.Node.{Node}
use Rattle.tree.specs.Rows.{children_of, forest_from, past_of, open_rows}
use Rattle.tree.proofs.Forests.{forest_deeper, forest_here, forest_less, forest_done, forest_skip}
use Rattle.tree.proofs.OpenRows.{open_length}
use Rattle.tree.proofs.Order.{trichotomy}
use Rattle.tree.proofs.PastLaws.{above_or_not, past_at}
use Rattle.writer.specs.Out.{Out}
use Rattle.visible_text.specs.Inner.{paragraph, step_at, insert_by, ends_of, closing, remaining}
use Rattle.visible_text.specs.VisibleText.{begin, enters, walk}
use Rattle.visible_text.proofs.StepLaws.{enters_step, end_step}
use Rattle.visible_text.proofs.WalkLaws.{within, within_entered, within_passed, behind, walk_row}

ends_suc : (steps : List ℕ) (n k : ℕ) (o : Out) → ends_of steps (suc n) (suc k) o ≡ ends_of steps n k (insert_by (get_or steps n 0) o)
unfolding ends_of
ends_suc steps n k o = let less : suc n - 1 ≡ n = omega arith in rw less

module _ (node_of : ℕ → Node) (depths : List ℕ) (base : ℕ) where
  walk_empty : {f : Forest ℕ} → f ≡ empty → (o : Out) → walk node_of f o ≡ o
  unfolding walk
  walk_empty e o = rw e

  -- ---- no tree at the depth of an open row or deeper

  -- the innermost open row ends
  closing_end : (k step : ℕ) (up : List ℕ) → forest_from depths k (suc (base + length up)) ≡ empty
      → (o : Out) → closing node_of depths base k (step ∷ up) o ≡ closing node_of depths base k up (insert_by step o)
  unfolding closing
  closing_end k step up e o = rw (e, closing) (ap (closing node_of depths base k up) (walk_empty refl (insert_by step o)))

  -- it has a next sibling
  closing_next : (k step i : ℕ) (up : List ℕ) (children rest : Forest ℕ)
      → forest_from depths k (suc (base + length up)) ≡ node i children rest
      → (o : Out) → closing node_of depths base k (step ∷ up) o ≡ remaining node_of depths base k up o
  unfolding closing
  closing_next k step i up children rest e o = rw (e, closing)

  remaining_empty : (k : ℕ) (up : List ℕ) → forest_from depths k (suc (base + length up)) ≡ empty
      → (o : Out) → remaining node_of depths base k up o ≡ closing node_of depths base k up o
  remaining_empty k up e o = ap (closing node_of depths base k up) (walk_empty e o)

  -- where the same trees of no greater depth are still to come
  closing_same : (k' k : ℕ) (up : List ℕ) → ((x : ℕ) → x ≤ base + length up → forest_from depths k' x ≡ forest_from depths k x)
      → (o : Out) → closing node_of depths base k' up o ≡ closing node_of depths base k up o
  unfolding closing
  closing_same k' k [] same o = refl
  closing_same k' k (step ∷ up) same o =
      ap (λ (f : Forest ℕ). closing node_of depths base k' up (walk node_of f (elim (has_trees f) [ true ↦ o | false ↦ insert_by step o ])))
      (same (suc (base + length up)) (omega arith))
      ∙ closing_same k' k up (λ x g. same x (omega arith)) _

  -- ---- before row k, which stands d below the row, the end steps of the open rows that stand deeper

  module _ (k d : ℕ) (h : k < length depths) (e : get_or depths k 0 ≡ base + d) where
    none_deeper : (n : ℕ) → d ≤ n → forest_from depths k (suc (base + n)) ≡ empty
    none_deeper n g = forest_less depths k (suc (base + n)) h (omega arith)

    pub remaining_ends : (steps : List ℕ) (n : ℕ) → 1 ≤ d → d ≤ suc n
        → (o : Out) → remaining node_of depths base k (open_rows steps n) o ≡ remaining node_of depths base k (open_rows steps (d - 1))
        (ends_of steps n (n - d) o)
    unfolding open_rows ends_of
    remaining_ends steps zero low high o =
        let one : d - 1 ≡ 0 = omega arith in
        let none : 0 - d ≡ 0 = omega arith in
        rw (one, none)
    remaining_ends steps (suc n) low high o =
        let up = open_rows steps n in
        let long = open_length steps n in
        let closed : d ≤ suc n → remaining node_of depths base k (get_or steps n 0 ∷ up) o ≡ closing node_of depths base k (get_or steps n 0 ∷ up)
        o =
        λ g. remaining_empty k (get_or steps n 0 ∷ up) (rw long (none_deeper (suc n) g)) o
        in
        trichotomy d (suc n)
        (λ g.
        let last : d - 1 ≡ suc n = omega arith in
        let none : suc n - d ≡ 0 = omega arith in
        rw (last, none))
        (λ g.
        let last : d - 1 ≡ n = omega arith in
        let none : suc n - d ≡ 0 = omega arith in
        let here : get_or depths k 0 ≡ suc (base + length up) = omega (arith, long) in
        closed (omega arith) ∙ closing_next k (get_or steps n 0) k up _ _ (forest_here depths k (suc (base + length up)) h here) o ∙ rw
        (last, none))
        (λ g.
        let more : suc n - d ≡ suc (n - d) = omega arith in
        let nothing_here : forest_from depths k (suc (base + length up)) ≡ empty = rw long (none_deeper n (omega arith)) in
        closed (omega arith)
        ∙ closing_end k (get_or steps n 0) up nothing_here o
        ∙ sym (remaining_empty k up nothing_here (insert_by (get_or steps n 0) o))
        ∙ remaining_ends steps n low (omega arith) (insert_by (get_or steps n 0) o)
        ∙ ap (remaining node_of depths base k (open_rows steps (d - 1))) (sym (rw more (ends_suc steps n (n - d) o))))

    -- ---- row k begins, below open rows whose steps are `up`

    module _ (up : List ℕ) (long : d ≡ suc (length up)) where
      depth_here : get_or depths k 0 ≡ suc (base + length up)
      depth_here = omega arith

      abbrev rest : Forest ℕ
      rest = forest_from depths (suc k) (suc (base + length up))

      tree_here : forest_from depths k (suc (base + length up)) ≡ node k (children_of depths k) rest
      tree_here = forest_here depths k (suc (base + length up)) h depth_here ∙ rw depth_here

      -- the row at which the walk goes on
      record GoesOn (k' : ℕ) : Type 0 where
        above : (x : ℕ) → x ≤ base + length up → forest_from depths k' x ≡ forest_from depths k x
        beside : forest_from depths k' (suc (base + length up)) ≡ rest
        below : (o : Out) → walk node_of (forest_from depths k' (suc (base + suc (length up)))) o ≡ within node_of k (children_of depths k) o

      goes_below : enters node_of k ≡ true → GoesOn (suc k)
      goes_below t =
          let deep : suc (base + suc (length up)) ≡ suc (get_or depths k 0) = omega (arith, depth_here) in
          record {
            above = λ x g. sym (forest_deeper depths k x h (omega (arith, depth_here)));
            beside = refl;
            below = λ o. ap (λ (x : ℕ). walk node_of (forest_from depths (suc k) x) o) deep ∙ sym
                (within_entered node_of k t (children_of depths k) o);
          }

      goes_past : enters node_of k ≡ false → GoesOn (past_of depths k)
      goes_past t =
          let x = get_or depths k 0 in
          let gone : forest_from depths (past_of depths k) (suc (base + suc (length up))) ≡ empty =
          above_or_not (length depths) (past_of depths k)
          (λ g. forest_less depths (past_of depths k) _ g (omega (arith, past_at depths x (suc k) g, depth_here)))
          (λ g. forest_done depths (past_of depths k) _ g)
          in
          record {
            above = λ y g. sym (forest_deeper depths k y h (omega (arith, depth_here)) ∙ forest_skip depths x y (suc k)
                (omega (arith, depth_here)));
            beside = sym (forest_skip depths x (suc (base + length up)) (suc k) (omega (arith, depth_here)));
            below = λ o. walk_empty gone o ∙ sym (within_passed node_of k t (children_of depths k) o);
          }

      behind_is : (f : Forest ℕ) (o : Out)
          → walk node_of f (elim (has_trees f) [ true ↦ o | false ↦ insert_by (step_at node_of k) o ]) ≡ behind node_of k f o
      unfolding behind walk
      behind_is empty o = sym (end_step node_of k o)
      behind_is (node i children later) o = refl

      goes_on : (k' : ℕ) → GoesOn k'
          → (o : Out) → remaining node_of depths base k up o ≡ remaining node_of depths base k' (step_at node_of k ∷ up)
          (begin node_of k (children_of depths k) o)
      unfolding closing
      goes_on k' g o =
          let begun = begin node_of k (children_of depths k) o in
          let inner = within node_of k (children_of depths k) begun in
          ap (closing node_of depths base k up)
          (ap (λ (f : Forest ℕ). walk node_of f o) tree_here ∙ walk_row node_of k (children_of depths k) rest o ∙ sym
          (behind_is rest inner))
          ∙ sym (closing_same k' k up g.above _)
          ∙ ap (λ (f : Forest ℕ). closing node_of depths base k' up
          (walk node_of f (elim (has_trees f) [ true ↦ inner | false ↦ insert_by (step_at node_of k) inner ]))) (sym g.beside)
          ∙ ap (closing node_of depths base k' (step_at node_of k ∷ up)) (sym (g.below begun))

      pub remaining_begins : (o : Out)
          → remaining node_of depths base k up o
          ≡ remaining node_of depths base (cond (leb (step_at node_of k) paragraph) (suc k) (past_of depths k)) (step_at node_of k ∷ up)
          (begin node_of k (children_of depths k) o)
      remaining_begins o =
          by_test (enters node_of k)
          (λ t. rw (sym (enters_step node_of k) ∙ t) (goes_on (suc k) (goes_below t) o))
          (λ t. rw (sym (enters_step node_of k) ∙ t) (goes_on (past_of depths k) (goes_past t) o))

  -- ---- no row is left

  module _ (k : ℕ) (past : k < length depths → get_or depths k 0 ≤ base) where
    none_left : (n : ℕ) → forest_from depths k (suc (base + n)) ≡ empty
    none_left n = above_or_not (length depths) k (λ g. forest_less depths k _ g (omega (arith, past g))) (λ g. forest_done depths k _ g)

    closing_ends : (steps : List ℕ) (n : ℕ) (o : Out) → closing node_of depths base k (open_rows steps n) o ≡ ends_of steps n n o
    unfolding open_rows ends_of closing
    closing_ends steps zero o = refl
    closing_ends steps (suc n) o =
        closing_end k (get_or steps n 0) (open_rows steps n) (none_left (length (open_rows steps n))) o
        ∙ closing_ends steps n (insert_by (get_or steps n 0) o)
        ∙ sym (ends_suc steps n n o)

    pub remaining_done : (steps : List ℕ) (n : ℕ) (o : Out) → remaining node_of depths base k (open_rows steps n) o ≡ ends_of steps n n o
    remaining_done steps n o = remaining_empty k (open_rows steps n) (none_left (length (open_rows steps n))) o ∙ closing_ends steps n o

-- ---- at first all is left

pub remaining_starts : (node_of : ℕ → Node) (depths : List ℕ) (row : ℕ)
    → (o : Out) → remaining node_of depths (get_or depths row 0) (suc row) [] o ≡ walk node_of (children_of depths row) o
unfolding closing
remaining_starts node_of depths row o =
    let none : get_or depths row 0 + 0 ≡ get_or depths row 0 = omega arith in
    ap (λ (x : ℕ). walk node_of (forest_from depths (suc row) (suc x)) o) none
