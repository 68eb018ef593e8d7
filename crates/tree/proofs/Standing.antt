-- The rows below a row of a depth column stand as its forest has them: parent, first child and next sibling.
use Rattle.std.specs.Prelude.{Option, None, Some}
use mathlib.Core.Path.{◌≡◌, refl, ◌∙◌}
use mathlib.Core.Bool.{false}
use mathlib.Core.List.{List, [], ◌∷◌}
use Prim.Native.Nat.{ℕ, suc, ◌<◌}
use native.Mathlib.Omega.{arith}
use lib.Dec.{eqb}
use lib.ListN.{length, get_or, drop}
use borrow.Author.Tests.{ne_eqb}
use Rattle.sheet.specs.Column.{last_above, parent_of}
use Rattle.tree.specs.Forest.{Forest, empty, node}
use Rattle.tree.specs.Rows.{build, numbered, children_of, scan_of, first_child_of, next_sibling_of}
use Rattle.tree.proofs.Left.{left_head, left_tail, left_inside}
use Rattle.tree.proofs.Order.{trichotomy, build_deeper, build_here, build_less}
use Rattle.tree.proofs.Scans.{scan_cons_less, scan_cons_hit, scan_cons_more, above_suc_hit, above_suc_more}

module _ (depths : List ℕ) (root : ℕ) where
  -- row i has the parent p, and is not the root
  pub record RowStands (i p : ℕ) : Type 0 where
    pub inside : i < length depths
    pub below : eqb i root ≡ false
    pub parent : parent_of depths i ≡ Some p

  -- the rows of f stand below p, and the first of them is c
  abbrev pub Stands : Forest ℕ → Option ℕ → ℕ → Type 0
  Stands empty c p = c ≡ None
  Stands (node i children rest) c p =
      (c ≡ Some i) × RowStands i p × Stands children (first_child_of depths i) i × Stands rest (next_sibling_of depths i) p

  module _ (k d x : ℕ) (l : List ℕ) (e : x ∷ l ≡ drop k depths) where
    stands_here : (p : ℕ) → root < k → x ≡ suc d → last_above depths (suc d) k ≡ Some p
        → (Stands (build (numbered (suc k) l) (suc (suc d))) (scan_of (suc (suc d)) (suc k) l) k)
        → (Stands (build (numbered (suc k) l) (suc d)) (scan_of (suc d) (suc k) l) p)
        → Stands (node k (build (numbered (suc k) l) (suc (suc d))) (build (numbered (suc k) l) (suc d))) (Some k) p
    stands_here p r q a children rest =
        let depth : get_or depths k 0 ≡ suc d = left_head depths k x l e 0 ∙ q in
        let left = left_tail depths k x l e in (
          refl,
          record { inside = left_inside depths k x l e; below = ne_eqb k root (λ z. omega arith); parent = rw depth a },
          rw (depth, ← left) children,
          rw (depth, ← left) rest,
        )

  stands : (k d : ℕ) (l : List ℕ) → l ≡ drop k depths → root < k → (p : ℕ) → last_above depths (suc d) k ≡ Some p
      → Stands (build (numbered k l) (suc d)) (scan_of (suc d) k l) p
  unfolding build numbered scan_of
  stands k d [] e r p a = refl
  stands k d (x ∷ l) e r p a =
      let x_is = left_head depths k x l e 0 in
      let left = left_tail depths k x l e in
      let StandsAt : Forest ℕ → Option ℕ → Type 0 = λ f c. Stands f c p in
      trichotomy x (suc d)
      (λ g.
      rw (build_deeper (x, k) (numbered (suc k) l) (suc d) g, scan_cons_more (suc d) k x l g)
      (stands (suc k) d l left (omega arith) p (above_suc_more depths (suc d) k x x_is (λ z. omega arith) ∙ a)))
      (λ q.
      rw (build_here (x, k) (numbered (suc k) l) (suc d) q, scan_cons_hit (suc d) k x l q)
      (stands_here k d x l e p r q a
      (stands (suc k) (suc d) l left (omega arith) k (above_suc_hit depths (suc (suc d)) k x x_is (omega arith)))
      (stands (suc k) d l left (omega arith) p (above_suc_more depths (suc d) k x x_is (λ z. omega arith) ∙ a))))
      (λ g. rw (build_less (x, k) (numbered (suc k) l) (suc d) g, scan_cons_less (suc d) k x l g))

  pub root_stands : Stands (children_of depths root) (first_child_of depths root) root
  root_stands =
      let d = get_or depths root 0 in
      stands (suc root) d (drop (suc root) depths) refl (omega arith) root (above_suc_hit depths (suc d) root d refl refl)
