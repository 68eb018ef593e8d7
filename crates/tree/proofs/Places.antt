-- Every row of a depth column has one place in its forest; parent, first child and next sibling there are those of the column.
use Rattle.std.specs.Prelude.{Option, None, Some}
use mathlib.Core.Path.{◌≡◌, refl, sym, ap, subst, ◌∙◌}
use mathlib.Core.List.Memᴰ
use mathlib.Core.List.{List, [], ◌∷◌, Memᴰ}
use mathlib.Core.Logic.{inl, inr, ⊎_elim}
use Prim.Native.Nat.{ℕ, zero, suc, ◌+◌, ◌<◌}
use native.Mathlib.Omega.{arith}
use lib.ListN.{length, get_or, drop}
use Rattle.sheet.specs.Column.{last_above, parent_of}
use Rattle.tree.specs.Forest.{Forest, empty, node, preorder_at, first, Place}
use Rattle.tree.specs.Rows.{WellFormed, depths_of, build, numbered, forest_from, forest_of, scan_of}
use Rattle.tree.specs.Tree.{TreeOf}
use Rattle.tree.proofs.Left.{left_head, left_tail, left_inside}
use Rattle.tree.proofs.Order.{trichotomy, build_deeper, build_here, build_less, tree_of}
use Rattle.tree.proofs.Scans.{scan_cons_less, scan_cons_hit, scan_cons_more, above_suc_hit, above_suc_more}

pub depths_numbered : (k : ℕ) (l : List ℕ) → depths_of (numbered k l) ≡ l
unfolding numbered
depths_numbered k [] = refl
depths_numbered k (x ∷ l) = ap (λ (t : List ℕ). x ∷ t) (depths_numbered (suc k) l)

-- the search of the column finds the first tree
pub scan_first : (d j : ℕ) (l : List ℕ) → first (build (numbered j l) d) ≡ scan_of d j l
unfolding first build numbered scan_of
scan_first d j [] = refl
scan_first d j (x ∷ l) =
    trichotomy x d
    (λ g. ap first (build_deeper (x, j) (numbered (suc j) l) d g) ∙ scan_first d (suc j) l ∙ sym (scan_cons_more d j x l g))
    (λ e. ap first (build_here (x, j) (numbered (suc j) l) d e) ∙ sym (scan_cons_hit d j x l e))
    (λ g. ap first (build_less (x, j) (numbered (suc j) l) d g) ∙ sym (scan_cons_less d j x l g))

-- a place of row j is all given by the column
pub record PlaceIs (depths : List ℕ) (q : Option ℕ) (j : ℕ) (children rest : Forest ℕ) : Type 0 where
  pub inside : j < length depths
  pub parent_is : q ≡ parent_of depths j
  pub children_are : children ≡ forest_from depths (suc j) (suc (get_or depths j 0))
  pub rest_is : rest ≡ forest_from depths (suc j) (get_or depths j 0)

module _ (depths : List ℕ) where
  here : (k d x : ℕ) (l : List ℕ) → x ∷ l ≡ drop k depths → x ≡ d → (p : Option ℕ) → p ≡ last_above depths d k
      → PlaceIs depths p k (build (numbered (suc k) l) (suc d)) (build (numbered (suc k) l) d)
  here k d x l e s p p_is =
      let d_is : get_or depths k 0 ≡ d = left_head depths k x l e 0 ∙ s in
      record {
        inside = left_inside depths k x l e;
        parent_is = p_is ∙ rw d_is;
        children_are = rw (d_is, ← left_tail depths k x l e);
        rest_is = rw (d_is, ← left_tail depths k x l e);
      }

  place_from : (k d : ℕ) (l : List ℕ) → l ≡ drop k depths → (p : Option ℕ) → p ≡ last_above depths d k → (q : Option ℕ) (j : ℕ) (cs rs : Forest ℕ)
      → Place p (build (numbered k l) d) q j cs rs → PlaceIs depths q j cs rs
  unfolding Place build numbered
  place_from k d [] e p p_is q j cs rs w = absurd w
  place_from k d (x ∷ l) e p p_is q j cs rs w =
      let x_is = left_head depths k x l e 0 in
      let t_is = left_tail depths k x l e in
      let place_in : Forest ℕ → Type 0 = λ f. Place p f q j cs rs in
      trichotomy x d
      (λ g.
      place_from (suc k) d l t_is p (p_is ∙ sym (above_suc_more depths d k x x_is (omega arith))) q j cs rs
      (subst place_in (build_deeper (x, k) (numbered (suc k) l) d g) w))
      (λ s.
      ⊎_elim
      (λ h. rw (← h.0, ← h.1, ← h.2, ← h.3) (here k d x l e s p p_is))
      (⊎_elim
      (λ u. place_from (suc k) (suc d) l t_is (Some k) (sym (above_suc_hit depths (suc d) k x x_is (omega arith))) q j cs rs u)
      (λ u. place_from (suc k) d l t_is p (p_is ∙ sym (above_suc_more depths d k x x_is (omega arith))) q j cs rs u))
      (subst place_in (build_here (x, k) (numbered (suc k) l) d s) w))
      (λ g. absurd (subst place_in (build_less (x, k) (numbered (suc k) l) d g) w))

  pub place_is : (q : Option ℕ) (j : ℕ) (cs rs : Forest ℕ) → Place None (forest_of depths) q j cs rs → PlaceIs depths q j cs rs
  place_is q j cs rs w = place_from 0 0 depths refl None refl q j cs rs w

-- ---- a place among the children or the later siblings of a place is a place

module _ {A : Type 0} (q : Option A) (a : A) (cs rs : Forest A) (r : Option A) (b : A) (ds es : Forest A) where
  pub place_below : (p : Option A) (f : Forest A) → Place p f q a cs rs → Place (Some a) cs r b ds es → Place p f r b ds es
  unfolding Place
  place_below p empty w v = absurd w
  place_below p (node i c l) w v =
      ⊎_elim
      (λ h. inr (inl (rw (h.1, h.2) v)))
      (⊎_elim (λ u. inr (inl (place_below (Some i) c u v))) (λ u. inr (inr (place_below p l u v))))
      w

  pub place_beside : (p : Option A) (f : Forest A) → Place p f q a cs rs → Place q rs r b ds es → Place p f r b ds es
  unfolding Place
  place_beside p empty w v = absurd w
  place_beside p (node i c l) w v =
      ⊎_elim
      (λ h. inr (inr (rw (h.0, h.3) v)))
      (⊎_elim (λ u. inr (inl (place_beside (Some i) c u v))) (λ u. inr (inr (place_beside p l u v))))
      w

-- ---- every row has a place

pub record Somewhere (p : Option ℕ) (f : Forest ℕ) (j : ℕ) : Type 0 where
  pub parent : Option ℕ
  pub children : Forest ℕ
  pub rest : Forest ℕ
  pub place : Place p f parent j children rest

somewhere : (p : Option ℕ) (d : ℕ) (f : Forest ℕ) (r : ℕ × ℕ) → Memᴰ r (preorder_at d f) → Somewhere p f r.1
unfolding Place preorder_at
somewhere p d empty r m = absurd (Memᴰ.not-nil m)
somewhere p d (node i cs rs) r m =
    ⊎_elim
    (λ e. record { parent = p; children = cs; rest = rs; place = inl (refl, ap (λ (x : ℕ × ℕ). x.1) (sym e), refl, refl) })
    (λ n.
    ⊎_elim
    (λ u. let s = somewhere (Some i) (suc d) cs r u in record { parent = s.parent; children = s.children; rest = s.rest; place = inr (inl s.place) })
    (λ u. let s = somewhere p d rs r u in record { parent = s.parent; children = s.children; rest = s.rest; place = inr (inr s.place) })
    (Memᴰ.append_cases (preorder_at (suc d) cs) n))
    (Memᴰ.cases_cons m)

numbered_mem : (k : ℕ) (l : List ℕ) (i : ℕ) → i < length l → Memᴰ (get_or l i 0, k + i) (numbered k l)
unfolding numbered
numbered_mem k [] i h = absurd (omega arith)
numbered_mem k (x ∷ l) zero h = Memᴰ.head (let q : k + 0 ≡ k = omega arith in ap (λ (j : ℕ). (x, j)) q)
numbered_mem k (x ∷ l) (suc i) h =
    let q : k + suc i ≡ suc k + i = omega arith in
    Memᴰ.tail (Memᴰ.cast (ap (λ (j : ℕ). (get_or l i 0, j)) q) (numbered_mem (suc k) l i (omega arith)))

module _ (depths : List ℕ) (w : WellFormed depths) where
  pub tree_of_numbered : TreeOf (numbered 0 depths) (forest_of depths)
  tree_of_numbered = tree_of (numbered 0 depths) (rw depths_numbered w)

  pub each_row : (j : ℕ) → j < length depths → Somewhere None (forest_of depths) j
  each_row j h =
      let q : 0 + j ≡ j = omega arith in
      subst (Somewhere None (forest_of depths)) q
      (somewhere None 0 (forest_of depths) (get_or depths j 0, 0 + j) (rw tree_of_numbered.order (numbered_mem 0 depths j h)))
