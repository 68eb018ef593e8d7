-- Tree order of the forest of well-formed rows is the rows, and the forest is the only one.
use mathlib.Core.Path.{◌≡◌, refl, sym, ap, ap₂, subst, ◌∙◌}
use mathlib.Core.Bool.{cond}
use mathlib.Core.List.{List, [], ◌∷◌, ◌++◌, map, map-append, append_assoc, append-nil}
use Prim.Native.Nat.{ℕ, suc, ◌≤◌, ◌<◌}
use native.Mathlib.Omega.{arith}
use lib.Dec.{ltb}
use lib.ListN.{get_or, drop}
use borrow.Author.Tests.{le-ltb, lt-ltb, ltb-true, ltb-false}
use Rattle.common.proofs.Choice.{by_test}
use Rattle.tree.specs.Forest.{Forest, empty, node, preorder, preorder_at}
use Rattle.tree.specs.Rows.{WellFormed, depths_of, build}
use Rattle.tree.specs.Tree.{TreeOf}
use Rattle.tree.proofs.Left.{left_head, left_tail, left_inside}

-- x against d
pub trichotomy {ℓ} : {P : Type ℓ} (x d : ℕ) → (d < x → P) → (x ≡ d → P) → (x < d → P) → P
trichotomy x d more equal less =
    by_test (ltb d x) (λ e. more (ltb-true d x e))
    (λ e. by_test (ltb x d) (λ f. less (ltb-true x d f)) (λ f. let a = ltb-false d x e in let b = ltb-false x d f in equal (omega arith)))

-- no depth is more than one above the one before it, which for the first is p
abbrev pub Steps : ℕ → List ℕ → Type 0
Steps p [] = Unit {0}
Steps p (x ∷ depths) = (x ≤ suc p) × Steps x depths

-- behind each row of a well-formed column
pub steps_after : (depths : List ℕ) → WellFormed depths → (k : ℕ) (l : List ℕ) → l ≡ drop (suc k) depths → Steps (get_or depths k 0) l
steps_after depths w k [] e = tt
steps_after depths w k (x ∷ l) e =
    let x_is = left_head depths (suc k) x l e 0 in (
      omega (arith, x_is, w.step k (left_inside depths (suc k) x l e)),
      subst (λ (p : ℕ). Steps p l) x_is (steps_after depths w (suc k) l (left_tail depths (suc k) x l e)),
    )

module _ {A : Type 0} where
  -- ---- `build` at the first row, by its depth

  module _ (r : ℕ × A) (l : List (ℕ × A)) (d : ℕ) where
    pub build_deeper : d < r.0 → build (r ∷ l) d ≡ build l d
    unfolding build
    build_deeper h = rw (lt-ltb d r.0 h, build)

    pub build_here : r.0 ≡ d → build (r ∷ l) d ≡ node r.1 (build l (suc d)) (build l d)
    unfolding build
    build_here h = rw (le-ltb d r.0 (omega arith), build) (rw (le-ltb r.0 d (omega arith)))

    pub build_less : r.0 < d → build (r ∷ l) d ≡ empty
    unfolding build
    build_less h = rw (le-ltb d r.0 (omega arith), build) (rw (lt-ltb r.0 d h))

  -- ---- the rows of a forest

  -- the rows up to the first that is less deep than d; and the rows from there on
  abbrev pub within : ℕ → List (ℕ × A) → List (ℕ × A)
  within d [] = []
  within d (r ∷ l) = cond (ltb r.0 d) [] (r ∷ within d l)

  abbrev beyond : ℕ → List (ℕ × A) → List (ℕ × A)
  beyond d [] = []
  beyond d (r ∷ l) = cond (ltb r.0 d) (r ∷ l) (beyond d l)

  -- children and then later siblings are all rows that are not less deep
  split : (d : ℕ) (l : List (ℕ × A)) → within (suc d) l ++ within d (beyond (suc d) l) ≡ within d l
  split d [] = refl
  split d (r ∷ l) =
      by_test (ltb r.0 (suc d)) (λ e. simp e)
      (λ e. let h = ltb-false r.0 (suc d) e in rw (e, le-ltb r.0 d (omega arith)) (ap (λ (k : List (ℕ × A)). r ∷ k) (split d l)))

  -- rows that begin at most one deeper than p have nothing to pass over
  beyond_none : (p : ℕ) (l : List (ℕ × A)) → Steps p (depths_of l) → beyond (suc (suc p)) l ≡ l
  beyond_none p [] h = refl
  beyond_none p (r ∷ l) h = rw (lt-ltb r.0 (suc (suc p)) (omega arith))

  preorder_build : (p d : ℕ) (l : List (ℕ × A)) → Steps p (depths_of l) → preorder_at d (build l d) ≡ within d (beyond (suc d) l)
  unfolding preorder_at build
  preorder_build p d [] h = refl
  preorder_build p d (r ∷ l) h =
      trichotomy r.0 d
      (λ g. rw (build_deeper r l d g, le-ltb r.0 (suc d) (omega arith)) (preorder_build r.0 d l h.1))
      (λ e.
      let s : Steps d (depths_of l) = subst (λ (x : ℕ). Steps x (depths_of l)) e h.1 in
      rw (build_here r l d e, lt-ltb r.0 (suc d) (omega arith), le-ltb r.0 d (omega arith))
      (ap₂ (λ (x : ℕ) (k : List (ℕ × A)). (x, r.1) ∷ k) (sym e)
      (ap₂ (λ (a b : List (ℕ × A)). a ++ b) (preorder_build d (suc d) l s ∙ ap (within (suc d)) (beyond_none d l s)) (preorder_build d d l s) ∙ split d l)))
      (λ g. rw (build_less r l d g, lt-ltb r.0 (suc d) (omega arith), lt-ltb r.0 d g))

  -- the descendants of a row at depth p are the rows behind it up to the first that is not deeper
  pub preorder_below : (p : ℕ) (l : List (ℕ × A)) → Steps p (depths_of l) → preorder_at (suc p) (build l (suc p)) ≡ within (suc p) l
  preorder_below p l h = preorder_build p (suc p) l h ∙ ap (within (suc p)) (beyond_none p l h)

  within_zero : (l : List (ℕ × A)) → within 0 l ≡ l
  within_zero [] = refl
  within_zero (r ∷ l) = rw (le-ltb r.0 0 (omega arith)) (ap (λ (k : List (ℕ × A)). r ∷ k) (within_zero l))

  -- ---- a forest is built anew from its tree order

  build_past : (e d : ℕ) (f : Forest A) (r : List (ℕ × A)) → d < e → build (preorder_at e f ++ r) d ≡ build r d
  unfolding preorder_at
  build_past e d empty r h = refl
  build_past e d (node a cs rs) r h =
      build_deeper (e, a) ((preorder_at (suc e) cs ++ preorder_at e rs) ++ r) d h
      ∙ rw append_assoc (build_past (suc e) d cs (preorder_at e rs ++ r) (omega arith) ∙ build_past e d rs r h)

  -- no tree of depth d or more begins here
  abbrev Low : ℕ → List (ℕ × A) → Type 0
  Low d r = (e : ℕ) → d ≤ e → build r e ≡ empty

  low_after : (d : ℕ) (f : Forest A) (r : List (ℕ × A)) → Low d r → Low (suc d) (preorder_at d f ++ r)
  unfolding preorder_at
  low_after d empty r h = λ e p. h e (omega arith)
  low_after d (node a cs rs) r h = λ e p. build_less (d, a) ((preorder_at (suc d) cs ++ preorder_at d rs) ++ r) e (omega arith)

  build_back : (d : ℕ) (f : Forest A) (r : List (ℕ × A)) → Low d r → build (preorder_at d f ++ r) d ≡ f
  unfolding preorder_at
  build_back d empty r h = h d (omega arith)
  build_back d (node a cs rs) r h =
      build_here (d, a) ((preorder_at (suc d) cs ++ preorder_at d rs) ++ r) d refl
      ∙ rw append_assoc
      (ap₂ (λ (x y : Forest A). node a x y) (build_back (suc d) cs (preorder_at d rs ++ r) (low_after d rs r h))
      (build_past (suc d) d cs (preorder_at d rs ++ r) (omega arith) ∙ build_back d rs r h))

  pub build_preorder : (f : Forest A) → build (preorder_at 0 f) 0 ≡ f
  unfolding build
  build_preorder f = ap (λ (l : List (ℕ × A)). build l 0) (sym (append-nil (preorder_at 0 f))) ∙ build_back 0 f [] (λ e p. refl)

  -- ---- the theorem

  order_of : (rows : List (ℕ × A)) → WellFormed (depths_of rows) → preorder_at 0 (build rows 0) ≡ rows
  order_of [] w = absurd (omega (arith, w.row))
  order_of (r ∷ l) w =
      preorder_build 0 0 (r ∷ l) (omega (arith, w.root), steps_after (depths_of (r ∷ l)) w 0 (depths_of l) refl)
      ∙ rw (lt-ltb r.0 1 (omega (arith, w.root))) (within_zero (r ∷ l))

  pub tree_of : (rows : List (ℕ × A)) → WellFormed (depths_of rows) → TreeOf rows (build rows 0)
  tree_of rows w = record {
    order = order_of rows w;
    only = λ other e. sym (build_preorder other) ∙ ap (λ (l : List (ℕ × A)). build l 0) e;
  }

  -- tree order without the depths
  pub preorder_rows : (d : ℕ) (f : Forest A) → map (λ r. r.1) (preorder_at d f) ≡ preorder f
  unfolding preorder preorder_at
  preorder_rows d empty = refl
  preorder_rows d (node a cs rs) =
      ap (λ (l : List A). a ∷ l)
      (map-append (λ (r : ℕ × A). r.1) (preorder_at (suc d) cs) (preorder_at d rs) ∙ ap₂ (λ (x y : List A). x ++ y) (preorder_rows (suc d) cs) (preorder_rows d rs))
