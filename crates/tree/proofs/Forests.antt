-- The trees that begin at a row or later, by the depth of that row.
use mathlib.Core.Path.{◌≡◌, refl, sym, ap, ◌∙◌}
use mathlib.Core.Bool.{Bool, true, false}
use mathlib.Core.List.{List, ◌∷◌}
use Prim.Native.Nat.{ℕ, suc, ◌≤◌, ◌<◌}
use native.Mathlib.Omega.{arith}
use lib.Dec.{eqb, ltb}
use lib.ListN.{length, get_or, drop, drop_of_length-le}
use lib.Seq.{drop-cons}
use borrow.Author.Tests.{lt-ltb, le-ltb, ltb-true, eqb-true}
use Rattle.common.proofs.Choice.{by_test, and_parts}
use Rattle.tree.specs.Forest.{Forest, empty, node, has_trees}
use Rattle.tree.specs.Rows.{WellFormed, build, numbered, children_of, forest_from, stands_at, past_from}
use Rattle.tree.proofs.Order.{build_deeper, build_here, build_less}
use Rattle.tree.proofs.PastLaws.{above_or_not, skip}

pub no_trees : (f : Forest ℕ) → has_trees f ≡ false → f ≡ empty
no_trees empty e = refl
no_trees (node i cs rs) e = cc

module _ (depths : List ℕ) where
  module _ (k d : ℕ) (h : k < length depths) where
    left_is : numbered k (drop k depths) ≡ (get_or depths k 0, k) ∷ numbered (suc k) (drop (suc k) depths)
    unfolding numbered
    left_is = ap (numbered k) (drop-cons depths k 0 h)

    from_row : forest_from depths k d ≡ build ((get_or depths k 0, k) ∷ numbered (suc k) (drop (suc k) depths)) d
    from_row = ap (λ (l : List (ℕ × ℕ)). build l d) left_is

    pub forest_deeper : d < get_or depths k 0 → forest_from depths k d ≡ forest_from depths (suc k) d
    forest_deeper g = from_row ∙ build_deeper (get_or depths k 0, k) _ d g

    pub forest_here : get_or depths k 0 ≡ d → forest_from depths k d ≡ node k (forest_from depths (suc k) (suc d)) (forest_from depths (suc k) d)
    forest_here e = from_row ∙ build_here (get_or depths k 0, k) _ d e

    pub forest_less : get_or depths k 0 < d → forest_from depths k d ≡ empty
    forest_less g = from_row ∙ build_less (get_or depths k 0, k) _ d g

  pub forest_done : (k d : ℕ) → length depths ≤ k → forest_from depths k d ≡ empty
  unfolding numbered build
  forest_done k d h = ap (λ (l : List ℕ). build (numbered k l) d) (drop_of_length-le depths {i = k} h)

  -- no row deeper than d begins a tree at depth d or less
  pub forest_skip : (d e k : ℕ) → e ≤ d → forest_from depths k e ≡ forest_from depths (past_from d k (drop k depths)) e
  unfolding numbered
  forest_skip d e k h =
      skip depths d (λ j l. build (numbered j l) e) (λ j x l g. build_deeper (x, j) (numbered (suc j) l) e (omega arith)) k

  -- ---- a row at a depth

  pub stands_there : (k d : ℕ) → stands_at depths k d ≡ true → (k < length depths) × (get_or depths k 0 ≡ d)
  unfolding stands_at
  stands_there k d e =
      let p = and_parts (ltb k (length depths)) (eqb (get_or depths k 0) d) e in
      (ltb-true k (length depths) p.0, eqb-true (get_or depths k 0) d p.1)

  pub stands : (k d : ℕ) → k < length depths → stands_at depths k d ≡ eqb (get_or depths k 0) d
  unfolding stands_at
  stands k d h = rw (lt-ltb k (length depths) h)

  pub stands_not : (k d : ℕ) → length depths ≤ k → stands_at depths k d ≡ false
  unfolding stands_at
  stands_not k d h = rw (le-ltb k (length depths) h)

  -- where no row of depth d stands and none deeper, no tree of depth d begins
  pub forest_none : (k d : ℕ) → stands_at depths k d ≡ false → (k < length depths → get_or depths k 0 ≤ d) → forest_from depths k d ≡ empty
  forest_none k d e low =
      above_or_not (length depths) k
      (λ h.
      by_test (eqb (get_or depths k 0) d)
      (λ t. absurd (mathlib.Core.Bool.true≢false (sym (stands k d h ∙ t) ∙ e)))
      (λ t. let n = borrow.Author.Tests.eqb-false (get_or depths k 0) d t in let m = low h in forest_less k d h (omega arith)))
      (λ h. forest_done k d h)

  -- a row has children exactly where the row behind it is one deeper
  pub children_are : WellFormed depths → (k : ℕ) → k < length depths
      → has_trees (children_of depths k) ≡ stands_at depths (suc k) (suc (get_or depths k 0))
  children_are w k h =
      by_test (stands_at depths (suc k) (suc (get_or depths k 0)))
      (λ e. let p = stands_there (suc k) _ e in ap has_trees (forest_here (suc k) (suc (get_or depths k 0)) p.0 p.1) ∙ sym e)
      (λ e. ap has_trees (forest_none (suc k) (suc (get_or depths k 0)) e (λ i. w.step k i)) ∙ sym e)
