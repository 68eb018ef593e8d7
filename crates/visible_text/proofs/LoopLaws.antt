-- The Rust's two loops give the text of the recursion, each within as many passes as there are rows.
use Rattle.std.specs.Prelude.{Option, None, Some}
use mathlib.Core.Path.{◌≡◌, refl, sym, ap, ◌∙◌}
use mathlib.Core.Bool.{Bool, true, false, cond}
use mathlib.Core.List.{List, ◌++◌}
use mathlib.Core.Logic.{inl, inr}
use Prim.Native.Nat.{ℕ, zero, suc, ◌+◌, ◌-◌, ◌≤◌, ◌<◌}
use native.Mathlib.Nat.{zero-add}
use native.Mathlib.Omega.{arith}
use lib.Dec.{eqb}
use lib.ListN.{length, get_or, length-append}
use borrow.Author.Tests.{eq-eqb}
use Rattle.common.proofs.Choice.{by_cond, absurd_test}
use Rattle.tree.specs.Forest.{Forest, empty, node, has_trees, preorder, Place}
use Rattle.tree.specs.Node.{Node}
use Rattle.tree.specs.Rows.{WellFormed, children_of, first_child_of, next_sibling_of, past_of}
use Rattle.tree.proofs.Descendants.{descendants, length_rows}
use Rattle.tree.proofs.PastLaws.{past_of_low, past_of_high}
use Rattle.tree.proofs.Places.{place_is, place_below, each_row}
use Rattle.tree.proofs.Scans.{above_found}
use Rattle.tree.proofs.Standing.{RowStands, Stands, root_stands}
use Rattle.writer.specs.Out.{Out, nothing}
use Rattle.visible_text.specs.Theorems.{LoopIsWalk}
use Rattle.visible_text.specs.VisibleText.{begin, enters, end, walk, visible, Cursor, climb, following, loop_from}

module _ (depths : List ℕ) where
  -- below each row of f stands what the column has below it
  abbrev Own : Forest ℕ → Type 0
  Own empty = Unit {0}
  Own (node i children rest) = (children ≡ children_of depths i) × Own children × Own rest

  own : (p : Option ℕ) (f : Forest ℕ) → ((q : Option ℕ) (i : ℕ) (cs rs : Forest ℕ) → Place p f q i cs rs → cs ≡ children_of depths i) → Own f
  unfolding Place
  own p empty h = tt
  own p (node i children rest) h = (
    h p i children rest (inl (refl, refl, refl, refl)),
    own (Some i) children (λ q j cs rs v. h q j cs rs (inr (inl v))),
    own p rest (λ q j cs rs v. h q j cs rs (inr (inr v))),
  )

  module _ (w : WellFormed depths) where
    root_own : (root : ℕ) → root < length depths → Own (children_of depths root)
    root_own root h =
        let s = each_row depths w root h in
        rw (← (place_is depths s.parent root s.children s.rest s.place).children_are)
        (own (Some root) s.children
        (λ q i cs rs v.
        (place_is depths q i cs rs (place_below s.parent root s.children s.rest q i cs rs None _ s.place v)).children_are))

    depth_most : (i : ℕ) → i < length depths → get_or depths i 0 ≤ i
    depth_most zero h = omega (arith, w.root)
    depth_most (suc i) h = omega (arith, w.step i h, depth_most i (omega arith))

    rows_most : (root : ℕ) → root < length depths → length (preorder (children_of depths root)) ≤ length depths
    rows_most root h =
        let n : length (preorder (children_of depths root)) ≡ past_of depths root - suc root =
        ap length (descendants depths w root) ∙ length_rows (suc root) (past_of depths root - suc root) in
        omega (arith, past_of_low depths root, past_of_high depths root h)

module _ (node_of : ℕ → Node) (depths : List ℕ) (w : WellFormed depths) (root most : ℕ) (enough : length depths ≤ most) where
  abbrev climb_at : ℕ → ℕ → Out → Cursor
  climb_at n i o = climb node_of depths root n i o

  abbrev loop_at : ℕ → Option ℕ → Out → Out
  loop_at k c o = loop_from node_of depths root most k c o

  -- the outer loop behind a climb
  abbrev from : ℕ → Cursor → Out
  from k c = loop_at k (following node_of depths root c.row) c.text

  -- what the loop gives that has done with row i and all below it
  abbrev going_on : ℕ → ℕ → Out → Out
  going_on k i o = from k (climb_at most i o)

  stop : (k : ℕ) (o : Out) → loop_at k None o ≡ o
  unfolding loop_from
  stop zero o = refl
  stop (suc k) o = refl

  -- ---- the inner loop

  climb_root : (n : ℕ) (o : Out) → climb_at n root o ≡ record { row = Some root; text = o }
  unfolding climb
  climb_root zero o = refl
  climb_root (suc n) o = rw (eq-eqb root root refl, climb)

  climb_beside : (n i j : ℕ) (o : Out) → eqb i root ≡ false → next_sibling_of depths i ≡ Some j
      → climb_at n i o ≡ record { row = Some i; text = o }
  unfolding climb
  climb_beside zero i j o e s = refl
  climb_beside (suc n) i j o e s = rw (e, climb) (rw s)

  climb_up : (n i p : ℕ) (o : Out) → RowStands depths root i p → next_sibling_of depths i ≡ None
      → climb_at (suc n) i o ≡ climb_at n p (end node_of i o)
  unfolding climb
  climb_up n i p o r s = rw (r.below, climb) (rw s (rw r.parent))

  -- further passes change nothing of a climb from p that has as many as p is deep
  abbrev Climbs : ℕ → Type 0
  Climbs p = (n : ℕ) (o : Out) → get_or depths p 0 ≤ n → climb_at (suc n) p o ≡ climb_at n p o

  climbs_root : Climbs root
  climbs_root n o h = climb_root (suc n) o ∙ sym (climb_root n o)

  climbs_beside : (i j : ℕ) → eqb i root ≡ false → next_sibling_of depths i ≡ Some j → Climbs i
  climbs_beside i j e s n o h = climb_beside (suc n) i j o e s ∙ sym (climb_beside n i j o e s)

  climbs_up : (i p : ℕ) → RowStands depths root i p → next_sibling_of depths i ≡ None → Climbs p → Climbs i
  climbs_up i p r s up zero o h = absurd (omega (arith, (above_found depths (get_or depths i 0) i p r.parent).1))
  climbs_up i p r s up (suc n) o h =
      climb_up (suc n) i p o r s
      ∙ up n (end node_of i o) (omega (arith, (above_found depths (get_or depths i 0) i p r.parent).1))
      ∙ sym (climb_up n i p o r s)

  climbs_row : (rest : Forest ℕ) (i p : ℕ) → RowStands depths root i p → Stands depths root rest (next_sibling_of depths i) p
      → Climbs p → Climbs i
  climbs_row empty i p r s up = climbs_up i p r s up
  climbs_row (node j c l) i p r s up = climbs_beside i j r.below s.0

  -- ---- behind a row

  go_root : (k : ℕ) (o : Out) → going_on k root o ≡ o
  go_root k o = ap (from k) (climb_root most o) ∙ rw (eq-eqb root root refl) (stop k o)

  go_beside : (k i j : ℕ) (o : Out) → eqb i root ≡ false → next_sibling_of depths i ≡ Some j
      → going_on k i o ≡ loop_at k (next_sibling_of depths i) o
  go_beside k i j o e s = ap (from k) (climb_beside most i j o e s) ∙ rw e

  go_up : (k i p : ℕ) (o : Out) → RowStands depths root i p → next_sibling_of depths i ≡ None → Climbs p
      → going_on k i o ≡ going_on k p (end node_of i o)
  go_up k i p o r s up =
      let n = most - 1 in
      let deep = depth_most depths w i r.inside in
      let above = (above_found depths (get_or depths i 0) i p r.parent).1 in
      let some_pass : suc n ≡ most = omega (arith, r.inside) in
      ap (λ (m : ℕ). from k (climb_at m i o)) (sym some_pass)
      ∙ ap (from k) (climb_up n i p o r s)
      ∙ ap (from k) (sym (up n (end node_of i o) (omega (arith, r.inside, deep, above))))
      ∙ ap (λ (m : ℕ). from k (climb_at m p (end node_of i o))) some_pass

  -- ---- a row, with what is below it

  -- how many rows of f begin
  abbrev begun : Forest ℕ → ℕ
  begun empty = 0
  begun (node i children rest) = suc (cond (enters node_of i) (begun children) 0 + begun rest)

  -- all of a forest, from its first row c, and on behind its parent p
  abbrev ForestGoes : Forest ℕ → Option ℕ → ℕ → Type 0
  ForestGoes f c p = (k : ℕ) (o : Out) → loop_at (begun f + k) c o ≡ going_on k p (walk node_of f o)

  abbrev below : Bool → ℕ → Forest ℕ → Out → Out
  below b i children o = elim b [ true ↦ walk node_of children (begin node_of i children o) | false ↦ begin node_of i children o ]

  go_row : (b : Bool) (children : Forest ℕ) (i : ℕ) → enters node_of i ≡ b → children ≡ children_of depths i
      → Stands depths root children (first_child_of depths i) i
      → (has_trees children ≡ true → ForestGoes children (first_child_of depths i) i)
      → (k : ℕ) (o : Out) → loop_at (suc (cond b (begun children) 0 + k)) (Some i) o ≡ going_on k i (below b i children o)
  unfolding loop_from walk
  go_row false children i e c s later k o = rw (e, loop_from) (rw (← c, zero-add))
  go_row true empty i e c s later k o = rw (e, loop_from) (rw (s, ← c, zero-add))
  go_row true (node j d l) i e c s later k o =
      rw (e, loop_from) (rw (s.0, ← c) (rw s.0 at (later refl k (begin node_of i (node j d l) o))))

  -- ---- a forest

  go_on : (rest : Forest ℕ) (i p : ℕ) → RowStands depths root i p → Stands depths root rest (next_sibling_of depths i) p → Climbs p
      → (has_trees rest ≡ true → ForestGoes rest (next_sibling_of depths i) p)
      → (k : ℕ) (o : Out)
      → going_on (begun rest + k) i o ≡ going_on k p (elim (has_trees rest) [ true ↦ walk node_of rest o | false ↦ end node_of i o ])
  go_on empty i p r s up later k o = ap (λ (n : ℕ). going_on n i o) (zero-add k) ∙ go_up k i p o r s up
  go_on (node j c l) i p r s up later k o = go_beside (begun (node j c l) + k) i j o r.below s.0 ∙ later refl k o

  go_forest : (f : Forest ℕ) (c : Option ℕ) (p : ℕ) → Climbs p → Stands depths root f c p → Own depths f
      → has_trees f ≡ true → ForestGoes f c p
  unfolding walk
  go_forest empty c p up s whole h k o = absurd_test h refl
  go_forest (node i children rest) c p up s whole h k o =
      let b = enters node_of i in
      let n = cond b (begun children) 0 in
      let fuel : suc (n + begun rest) + k ≡ suc (n + (begun rest + k)) = omega arith in
      rw (s.0, fuel)
      (go_row b children i refl whole.0 s.2
      (go_forest children (first_child_of depths i) i (climbs_row rest i p s.1 s.3 up) s.2 whole.1)
      (begun rest + k) o
      ∙ go_on rest i p s.1 s.3 up (go_forest rest (next_sibling_of depths i) p up s.3 whole.2) k (below b i children o))

  begun_rows : (f : Forest ℕ) → begun f ≤ length (preorder f)
  unfolding preorder
  begun_rows empty = omega arith
  begun_rows (node i children rest) =
      let a = begun_rows children in
      let b = begun_rows rest in
      let n = length-append (preorder children) (preorder rest) in
      by_cond (λ (v : ℕ). suc (v + begun rest) ≤ suc (length (preorder children ++ preorder rest))) (enters node_of i)
      (λ e. omega arith) (λ e. omega arith)

  all_below : (f : Forest ℕ) (c : Option ℕ) → Stands depths root f c root → Own depths f → begun f ≤ most
      → loop_at most c nothing ≡ walk node_of f nothing
  unfolding walk
  all_below empty c s whole h = rw s (stop most nothing)
  all_below (node i children rest) c s whole h =
      let f = node i children rest in
      let k = most - begun f in
      let fuel : begun f + k ≡ most = omega arith in
      ap (λ (n : ℕ). loop_at n c nothing) (sym fuel)
      ∙ go_forest f c root climbs_root s whole refl k nothing
      ∙ go_root k (walk node_of f nothing)

pub loop_is_walk : LoopIsWalk
unfolding visible
loop_is_walk node_of depths w row h n enough =
    let f = children_of depths row in
    all_below node_of depths w row n enough f (first_child_of depths row) (root_stands depths row) (root_own depths w row h)
    (omega (arith, begun_rows node_of depths w row n enough f, rows_most depths w row h))
