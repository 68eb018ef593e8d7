-- The Rust's loop gives the entries and the passes of the recursion over the tree, and comes to its end within 2·N passes.
use Rattle.std.specs.Prelude.{Option, None, Some}
use mathlib.Core.Path.{◌≡◌, refl, sym, ap, ◌∙◌}
use mathlib.Core.Bool.{Bool, true, false, ◌||◌, cond}
use mathlib.Core.List.{List, [], ◌∷◌, ◌++◌}
use Prim.Native.Nat.{ℕ, zero, suc, ◌+◌, ◌-◌, ◌*◌, ◌≤◌}
use native.Mathlib.Nat.{zero-add, add-zero, add_assoc}
use native.Mathlib.Numerals.{add-one}
use native.Mathlib.Omega.{arith}
use lib.Dec.{eqb}
use lib.ListN.{length, get_or, length-append}
use borrow.Author.Tests.{eq-eqb}
use Rattle.common.proofs.Choice.{by_cond, absurd_test}
use Rattle.options.specs.declared.ExtractOptions.{ExtractOptions}
use Rattle.sheet.specs.Column.{parent_of}
use Rattle.tree.specs.Forest.{Forest, empty, node, has_trees, preorder}
use Rattle.tree.specs.Page.{Page}
use Rattle.tree.specs.Rows.{children_of, first_child_of, next_sibling_of, past_of}
use Rattle.tree.proofs.Descendants.{descendants, length_rows}
use Rattle.tree.proofs.PastLaws.{past_of_low, past_of_high}
use Rattle.tree.proofs.Scans.{above_found}
use Rattle.tree.proofs.Standing.{RowStands, Stands, root_stands}
use Rattle.html2text.specs.Collect.{Event, collect, collect_all}
use Rattle.html2text.specs.Serialize.{one}
use Rattle.html2text.specs.Theorems.{HidesRows, PageRight, WalkOfTree}
use Rattle.html2text.specs.Walk.{is_comment, is_some, left_out, left_out_at, event_at, events, visits, tree_of, Sofar, Cursor, onward, turn, loop_from}
use Rattle.html2text.proofs.CollectLaws.{collect_all_append}

sofar_same : (s t : Sofar) → s.nodes ≡ t.nodes → s.passes ≡ t.passes → s ≡ t
sofar_same s t e f = λ i. record { nodes = e i; passes = f i }

module _ (p : Page) (hidden_at : ℕ → ℕ → Bool) (hidden : ℕ → Bool) (o : ExtractOptions) (hides : HidesRows p hidden_at hidden) where
  abbrev at : Option ℕ → ℕ → Bool → Cursor
  at c d end = record { current = c; depth = d; end = end }

  abbrev loop_at : ℕ → Cursor → Sofar → Sofar
  loop_at k t s = loop_from p hidden_at o k t.current t.depth t.end s

  -- n passes more, with the events E
  abbrev grown : List Event → ℕ → Sofar → Sofar
  grown E n s = record { nodes = collect_all o s.nodes E; passes = s.passes + n }

  -- from t the loop comes to u in n passes, with the events E
  record Goes (t u : Cursor) (E : List Event) (n : ℕ) : Type 0 where
    goes : (s : Sofar) (k : ℕ) → loop_at (n + k) t s ≡ loop_at k u (grown E n s)

  goes_none : (t : Cursor) → Goes t t [] 0
  unfolding collect_all
  goes_none t = record { goes = λ s k. ap (λ (n : ℕ). loop_at n t s) (zero-add k) ∙ ap (loop_at k t) (sofar_same s (grown [] 0 s) refl (sym (add-zero s.passes))) }

  goes_then : {t u v : Cursor} {E F : List Event} {n m : ℕ} → Goes t u E n → Goes u v F m → Goes t v (E ++ F) (n + m)
  goes_then {t} {u} {v} {E} {F} {n} {m} g h = record {
    goes = λ s k.
        ap (λ (x : ℕ). loop_at x t s) (add_assoc n m k)
        ∙ g.goes s (m + k)
        ∙ h.goes (grown E n s) k
        ∙ ap (loop_at k v) (sofar_same _ _ (sym (collect_all_append o s.nodes E F)) (add_assoc s.passes n m));
  }

  goes_count : {t u : Cursor} {E : List Event} {n m : ℕ} → n ≡ m → Goes t u E n → Goes t u E m
  goes_count e g = rw (← e) g

  -- ---- one pass

  abbrev event_of : ℕ → ℕ → Bool → Event
  event_of i d end = event_at p.node hidden i (is_some (first_child_of p.depths i)) d end

  -- where the row is left out, b
  abbrev visited : Bool → ℕ → ℕ → Bool → Sofar → Sofar
  visited b i d end s = record { nodes = cond b s.nodes (collect o s.nodes (event_of i d end)); passes = suc s.passes }

  visited_grown : (b : Bool) (i d : ℕ) (end : Bool) (s : Sofar) → visited b i d end s ≡ grown (cond b [] (event_of i d end ∷ [])) 1 s
  unfolding collect_all
  visited_grown true i d end s = sofar_same _ _ refl (sym (add-one s.passes))
  visited_grown false i d end s = sofar_same _ _ refl (sym (add-one s.passes))

  goes_pass : (b : Bool) (i d : ℕ) (end : Bool) → left_out_at p hidden_at o i d ≡ b
      → Goes (at (Some i) d end) (turn p hidden_at o i d (b || end)) (cond b [] (event_of i d end ∷ [])) 1
  unfolding loop_from
  goes_pass b i d end l = record {
    goes = λ s k.
        let more : 1 + k ≡ suc k = omega arith in
        ap (λ (n : ℕ). loop_at n (at (Some i) d end) s) more
        ∙ ap (λ (c : Bool). loop_at k (turn p hidden_at o i d (c || end)) (visited c i d end s)) l
        ∙ ap (loop_at k (turn p hidden_at o i d (b || end))) (visited_grown b i d end s);
  }

  -- ---- a row, with what is below it

  -- the loop has counted d at row i
  abbrev Counted : ℕ → ℕ → Type 0
  Counted i d = get_or p.depths i 0 ≡ d + get_or p.depths p.root 0

  left_at : (b : Bool) (i d : ℕ) → Counted i d → left_out p.node hidden i ≡ b → left_out_at p hidden_at o i d ≡ b
  left_at b i d e l = ap (λ (h : Bool). is_comment (p.node i).kind || h) (hides i d e) ∙ l

  counted_below : (i q d : ℕ) → parent_of p.depths i ≡ Some q → Counted q d → Counted i (suc d)
  counted_below i q d u e = omega (arith, (above_found p.depths (get_or p.depths i 0) i q u).1)

  abbrev row_events : Bool → ℕ → Forest ℕ → ℕ → List Event
  row_events b i children d =
      cond b []
      (event_at p.node hidden i (has_trees children) d false
      ∷ (events p.node hidden (suc d) children ++ cond (has_trees children) (event_at p.node hidden i true d true ∷ []) []))

  abbrev row_visits : Bool → Forest ℕ → ℕ
  row_visits b children = cond b 1 (1 + one (has_trees children) + visits p.node hidden children)

  -- all of a forest at depth d, from its first row c to the end of its parent q
  abbrev ForestGoes : Forest ℕ → Option ℕ → ℕ → ℕ → Type 0
  ForestGoes f c q d = Goes (at c (suc d) false) (at (Some q) d true) (events p.node hidden (suc d) f) (visits p.node hidden f)

  goes_row : (b : Bool) (children : Forest ℕ) (i d : ℕ) → Counted i d → left_out p.node hidden i ≡ b → Stands p.depths p.root children (first_child_of p.depths i) i
      → (has_trees children ≡ true → ForestGoes children (first_child_of p.depths i) i d)
      → Goes (at (Some i) d false) (onward p hidden_at o i d) (row_events b i children d) (row_visits b children)
  unfolding events visits
  goes_row true children i d e l s below = goes_pass true i d false (left_at true i d e l)
  goes_row false empty i d e l s below = rw s at (goes_pass false i d false (left_at false i d e l))
  goes_row false (node j c r) i d e l s below =
      let m = left_at false i d e l in
      let v = visits p.node hidden (node j c r) in
      let enter : Goes (at (Some i) d false) (at (first_child_of p.depths i) (suc d) false) (event_at p.node hidden i true d false ∷ []) 1 =
      rw s.0 (rw s.0 at (goes_pass false i d false m)) in
      let leave : Goes (at (Some i) d true) (onward p hidden_at o i d) (event_at p.node hidden i true d true ∷ []) 1 = rw s.0 at (goes_pass false i d true m) in
      goes_count (omega arith) (goes_then enter (goes_then (below refl) leave))

  -- ---- a forest

  onward_up : (i q d : ℕ) → eqb i p.root ≡ false → next_sibling_of p.depths i ≡ None → parent_of p.depths i ≡ Some q → onward p hidden_at o i (suc d) ≡ at (Some q) d true
  onward_up i q d r n u = let e : suc d - 1 ≡ d = omega arith in rw (r, n, u, e)

  onward_beside : (i j d : ℕ) → eqb i p.root ≡ false → next_sibling_of p.depths i ≡ Some j → onward p hidden_at o i d ≡ at (next_sibling_of p.depths i) d false
  onward_beside i j d r n = rw (r, n)

  goes_on : (rest : Forest ℕ) (i q d : ℕ) → RowStands p.depths p.root i q → Stands p.depths p.root rest (next_sibling_of p.depths i) q
      → (has_trees rest ≡ true → ForestGoes rest (next_sibling_of p.depths i) q d)
      → Goes (onward p hidden_at o i (suc d)) (at (Some q) d true) (events p.node hidden (suc d) rest) (visits p.node hidden rest)
  unfolding events visits
  goes_on empty i q d r s later = rw (onward_up i q d r.below s r.parent) (goes_none (at (Some q) d true))
  goes_on (node j c l) i q d r s later = rw (onward_beside i j (suc d) r.below s.0) (later refl)

  goes_forest : (f : Forest ℕ) (c : Option ℕ) (q d : ℕ) → Counted q d → Stands p.depths p.root f c q → has_trees f ≡ true → ForestGoes f c q d
  unfolding events visits
  goes_forest empty c q d e s h = absurd_test h refl
  goes_forest (node i children rest) c q d e s h =
      let below = counted_below i q d s.1.parent e in
      rw s.0
      (goes_then
      (goes_row (left_out p.node hidden i) children i (suc d) below refl s.2 (goes_forest children (first_child_of p.depths i) i (suc d) below s.2))
      (goes_on rest i q d s.1 s.3 (goes_forest rest (next_sibling_of p.depths i) q d e s.3)))

  -- ---- the root's tree

  onward_root : onward p hidden_at o p.root 0 ≡ at None 0 true
  onward_root = rw (eq-eqb p.root p.root refl)

  goes_tree : Goes (at (Some p.root) 0 false) (at None 0 true) (events p.node hidden 0 (tree_of p)) (visits p.node hidden (tree_of p))
  unfolding events visits
  goes_tree =
      let i = p.root in
      let s = root_stands p.depths i in
      let children = children_of p.depths i in
      let e : Counted i 0 = sym (zero-add (get_or p.depths i 0)) in
      goes_then
      (rw onward_root at (goes_row (left_out p.node hidden i) children i 0 e refl s (goes_forest children (first_child_of p.depths i) i 0 e s)))
      (goes_none (at None 0 true))

  stop : (k : ℕ) (s : Sofar) → loop_at k (at None 0 true) s ≡ s
  unfolding loop_from
  stop zero s = refl
  stop (suc k) s = refl

  one_most : (b : Bool) → one b ≤ 1
  one_most true = omega arith
  one_most false = omega arith

  -- "reached rows plus entered rows"
  visits_rows : (f : Forest ℕ) → visits p.node hidden f ≤ 2 * length (preorder f)
  unfolding visits preorder
  visits_rows empty = omega arith
  visits_rows (node i children rest) =
      let a = visits_rows children in
      let b = visits_rows rest in
      let n = length-append (preorder children) (preorder rest) in
      by_cond (λ (v : ℕ). v + visits p.node hidden rest ≤ 2 * suc (length (preorder children ++ preorder rest))) (left_out p.node hidden i)
      (λ e. omega arith) (λ e. omega (arith, one_most (has_trees children)))

  module _ (right : PageRight p) where
    tree_rows : length (preorder (tree_of p)) ≤ length p.depths
    unfolding preorder
    tree_rows =
        let i = p.root in
        let n : length (preorder (children_of p.depths i)) ≡ past_of p.depths i - suc i = ap length (descendants p.depths right.column i) ∙ length_rows (suc i) (past_of p.depths i - suc i) in
        omega (arith, length-append (preorder (children_of p.depths i)) [], past_of_low p.depths i, past_of_high p.depths i right.root)

    most : visits p.node hidden (tree_of p) ≤ 2 * length p.depths
    most = omega (arith, visits_rows (tree_of p), tree_rows)

    over : (m : ℕ) → visits p.node hidden (tree_of p) ≤ m
        → loop_at m (at (Some p.root) 0 false) (record { nodes = []; passes = 0 })
        ≡ record { nodes = collect_all o [] (events p.node hidden 0 (tree_of p)); passes = visits p.node hidden (tree_of p) }
    over m h =
        let n = visits p.node hidden (tree_of p) in
        let k = m - n in
        let fuel : n + k ≡ m = omega arith in
        let begin : Sofar = record { nodes = []; passes = 0 } in
        ap (λ (x : ℕ). loop_at x (at (Some p.root) 0 false) begin) (sym fuel)
        ∙ goes_tree.goes begin k
        ∙ stop k (grown (events p.node hidden 0 (tree_of p)) n begin)
        ∙ sofar_same _ _ refl (zero-add n)

    pub walk_of_tree : WalkOfTree p hidden_at hidden o
    walk_of_tree =
        let same = over (2 * length p.depths) most in
        record { same = same; ends = λ k. over (2 * length p.depths + k) (omega (arith, most)) ∙ sym same; most = most }
