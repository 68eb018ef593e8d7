-- Where all rows before it are right, a row's parent is an element unless the row just before it is its parent and is none.
use Rattle.std.specs.Prelude.{Some}
use mathlib.Core.Path.{◌≡◌, refl, sym, ap, ◌∙◌}
use mathlib.Core.Bool.{true, ◌&&◌, cond}
use Prim.Native.Nat.{ℕ, zero, suc, ◌-◌, ◌≤◌, ◌<◌}
use native.Mathlib.Omega.{arith}
use lib.Dec.{leb, eqb}
use lib.ListN.{get_or}
use borrow.Author.Tests.{leb-true, eqb-true, eqb-false, eq-eqb, ne_eqb}
use Rattle.common.specs.Bytes.{Bytes}
use Rattle.common.proofs.Choice.{by_test, and_parts}
use Rattle.sheet.specs.Column.{last_above, parent_of}
use Rattle.sheet.specs.Layout.{most_depth, row_at, pool_of, depths}
use Rattle.sheet.specs.Notes.{later_right, tree_right}
use Rattle.sheet.specs.Verdict.{body_right, is_element, node_tree}
use Rattle.sheet.specs.declared.line.Layout.{Layout}
use Rattle.sheet.specs.declared.line.Row.{Row}
use Rattle.sheet.proofs.LayoutLaws.{depths_at}

module _ (s : Bytes) (l : Layout) where
  -- what the test of a later row says
  pub record Later (i : ℕ) : Type 0 where
    pub some_depth : 1 ≤ (row_at s l (suc i)).depth
    pub depth_within : (row_at s l (suc i)).depth ≤ most_depth
    pub no_jump : (row_at s l (suc i)).depth ≤ suc (row_at s l i).depth
    pub parent : is_element (row_at s l) (parent_of (depths s l) (suc i)) ≡ true

  pub later : (i : ℕ) → node_tree s l (suc i) ≡ true → Later i
  unfolding node_tree
  later i e =
      let d = (row_at s l (suc i)).depth in
      let p = and_parts (leb 1 d) (leb d most_depth && (leb d (suc (row_at s l i).depth) && is_element (row_at s l) (parent_of (depths s l) (suc i)))) e in
      let q = and_parts (leb d most_depth) (leb d (suc (row_at s l i).depth) && is_element (row_at s l) (parent_of (depths s l) (suc i))) p.1 in
      let r = and_parts (leb d (suc (row_at s l i).depth)) (is_element (row_at s l) (parent_of (depths s l) (suc i))) q.1 in
      record {
        some_depth = leb-true 1 d p.0;
        depth_within = leb-true d most_depth q.0;
        no_jump = leb-true d (suc (row_at s l i).depth) r.0;
        parent = r.1;
      }

  body_depth : node_tree s l 0 ≡ true → (row_at s l 0).depth ≡ 0
  unfolding node_tree body_right
  body_depth e = let r = row_at s l 0 in eqb-true r.depth 0 (and_parts (eqb r.depth 0) _ (and_parts (eqb r.kind 1) _ e).1).0

  above_next : (d k : ℕ) → k < l.nodes → (suc (row_at s l k).depth ≡ d → ⊥) → last_above (depths s l) d (suc k) ≡ last_above (depths s l) d k
  above_next d k h n = rw (ne_eqb (suc (get_or (depths s l) k 0)) d (λ e. n (ap suc (sym (depths_at s l k h)) ∙ e)), last_above)

  -- every depth down to row i's has an element above it
  elements_above : (i : ℕ) → i < l.nodes → ((j : ℕ) → j ≤ i → node_tree s l j ≡ true) → (d : ℕ) → 1 ≤ d → d ≤ (row_at s l i).depth → is_element (row_at s l) (last_above (depths s l) d i) ≡ true
  elements_above zero h f d p q = absurd (omega (arith, body_depth (f 0 (omega arith))))
  elements_above (suc k) h f d p q =
      let t = later k (f (suc k) (omega arith)) in
      by_test (eqb d (row_at s l (suc k)).depth)
      (λ e. ap (λ (x : ℕ). is_element (row_at s l) (last_above (depths s l) x (suc k))) (eqb-true d (row_at s l (suc k)).depth e ∙ sym (depths_at s l (suc k) h)) ∙ t.parent)
      (λ e.
      let n = eqb-false d (row_at s l (suc k)).depth e in
      let lower : d ≤ (row_at s l k).depth = omega (arith, n, t.no_jump) in
      ap (is_element (row_at s l)) (above_next d k (omega arith) (λ z. omega arith)) ∙ elements_above k (omega arith) (λ j u. f j (omega arith)) d p lower)

  module _ (k : ℕ) (h : suc k < l.nodes) (f : (j : ℕ) → j ≤ k → node_tree s l j ≡ true) where
    parent_before : (row_at s l (suc k)).depth ≡ suc (row_at s l k).depth → parent_of (depths s l) (suc k) ≡ Some k
    parent_before e =
        rw (eq-eqb (suc (get_or (depths s l) k 0)) (get_or (depths s l) (suc k) 0) (ap suc (depths_at s l k (omega arith)) ∙ sym e ∙ sym (depths_at s l (suc k) h)), last_above)

    parent_earlier : ((row_at s l (suc k)).depth ≡ suc (row_at s l k).depth → ⊥) → parent_of (depths s l) (suc k) ≡ last_above (depths s l) (row_at s l (suc k)).depth k
    parent_earlier n =
        ap (λ (d : ℕ). last_above (depths s l) d (suc k)) (depths_at s l (suc k) h) ∙ above_next (row_at s l (suc k)).depth k (omega arith) (λ e. n (sym e))

    parent_test : 1 ≤ (row_at s l (suc k)).depth → (row_at s l (suc k)).depth ≤ suc (row_at s l k).depth
        → cond (eqb (row_at s l (suc k)).depth (suc (row_at s l k).depth)) (eqb (row_at s l k).kind 1) true ≡ is_element (row_at s l) (parent_of (depths s l) (suc k))
    parent_test p q =
        by_test (eqb (row_at s l (suc k)).depth (suc (row_at s l k).depth))
        (λ e. rw e (ap (is_element (row_at s l)) (sym (parent_before (eqb-true _ _ e)))))
        (λ e.
        let n = eqb-false (row_at s l (suc k)).depth (suc (row_at s l k).depth) e in
        rw e (sym (ap (is_element (row_at s l)) (parent_earlier n) ∙ elements_above k (omega arith) f (row_at s l (suc k)).depth p (omega (arith, n)))))

    later_test : later_right (row_at s l k) (row_at s l (suc k)) ≡ node_tree s l (suc k)
    unfolding node_tree later_right
    later_test =
        by_test (leb 1 (row_at s l (suc k)).depth)
        (λ p. by_test (leb (row_at s l (suc k)).depth (suc (row_at s l k).depth))
        (λ q. rw (q, parent_test (leb-true 1 _ p) (leb-true _ (suc (row_at s l k).depth) q)))
        (λ q. rw q))
        (λ p. rw p)

  pub tree_test : (i : ℕ) → i < l.nodes → ((j : ℕ) → j < i → node_tree s l j ≡ true) → (before : Row) → (0 < i → before ≡ row_at s l (i - 1)) → tree_right (pool_of s l) i before (row_at s l i) ≡ node_tree s l i
  unfolding node_tree
  tree_test zero h f before b = refl
  tree_test (suc k) h f before b =
      let e : before ≡ row_at s l k = b (omega arith) ∙ ap (row_at s l) (omega arith) in
      rw e (later_test k h (λ j u. f j (omega arith)))
