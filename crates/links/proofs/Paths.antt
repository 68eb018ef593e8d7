-- The links that are open at a row, by their depths: how many are less deep than a depth, and which stay open.
use Rattle.std.proofs.Common.{◌≡◌, ℕ, suc, ◌<◌, ◌≤◌, true, false, ltb, List, [], ◌∷◌, length, refl, ap, arith, le-ltb, lt-ltb}
use Rattle.tree.proofs.PastLaws.{above_or_not}

-- how many are less deep than x
unfoldable pub below : ℕ → List ℕ → ℕ
below x [] = 0
below x (e ∷ path) = elim (ltb e x) [ true ↦ suc (below x path) | false ↦ below x path ]

-- those that stay open at a row of depth x
unfoldable pub kept : ℕ → List ℕ → List ℕ
kept x [] = []
kept x (e ∷ path) = elim (ltb e x) [ true ↦ e ∷ kept x path | false ↦ kept x path ]

-- none is less deep than d
pub data Deep (d : ℕ) : List ℕ → Type 0 where
  none : Deep d []
  more : {e : ℕ} {path : List ℕ} → d ≤ e → Deep d path → Deep d (e ∷ path)

module _ (x e : ℕ) (path : List ℕ) where
  pub below_yes : e < x → below x (e ∷ path) ≡ suc (below x path)
  unfolding below
  below_yes h = rw (lt-ltb e x h, below)

  pub below_no : x ≤ e → below x (e ∷ path) ≡ below x path
  unfolding below
  below_no h = rw (le-ltb e x h, below)

  pub kept_yes : e < x → kept x (e ∷ path) ≡ e ∷ kept x path
  unfolding kept
  kept_yes h = rw (lt-ltb e x h, kept)

  pub kept_no : x ≤ e → kept x (e ∷ path) ≡ kept x path
  unfolding kept
  kept_no h = rw (le-ltb e x h, kept)

-- a fact by whether e is less deep than x
pub by_depth {ℓ} : {P : Type ℓ} (e x : ℕ) → (e < x → P) → (x ≤ e → P) → P
by_depth e x f g = above_or_not x e f g

pub below_mono : (x y : ℕ) (path : List ℕ) → x ≤ y → below x path ≤ below y path
unfolding below
below_mono x y [] h = omega arith
below_mono x y (e ∷ path) h =
    let r = below_mono x y path h in
    by_depth e x
    (λ g. omega (arith, below_yes x e path g, below_yes y e path (omega arith)))
    (λ g. by_depth e y (λ k. omega (arith, below_no x e path g, below_yes y e path k)) (λ k. omega (arith, below_no x e path g, below_no y e path k)))

pub below_most : (x : ℕ) (path : List ℕ) → below x path ≤ length path
unfolding below
below_most x [] = omega arith
below_most x (e ∷ path) =
    let r = below_most x path in
    by_depth e x (λ g. omega (arith, below_yes x e path g)) (λ g. omega (arith, below_no x e path g))

pub kept_most : (x : ℕ) (path : List ℕ) → length (kept x path) ≤ length path
unfolding kept
kept_most x [] = omega arith
kept_most x (e ∷ path) =
    let r = kept_most x path in
    by_depth e x (λ g. omega (arith, ap length (kept_yes x e path g))) (λ g. omega (arith, ap length (kept_no x e path g)))

pub kept_deep : (d x : ℕ) (path : List ℕ) → Deep d path → Deep d (kept x path)
unfolding kept
kept_deep d x [] none = none
kept_deep d x (e ∷ path) (more h p) =
    by_depth e x (λ g. rw (kept_yes x e path g) (more h (kept_deep d x path p))) (λ g. rw (kept_no x e path g) (kept_deep d x path p))

-- at most x deep nothing changes
pub below_kept : (y x : ℕ) (path : List ℕ) → y ≤ x → below y (kept x path) ≡ below y path
unfolding below kept
below_kept y x [] h = refl
below_kept y x (e ∷ path) h =
    by_depth e x
    (λ g.
    rw (kept_yes x e path g)
    (by_depth e y (λ k. rw (below_yes y e (kept x path) k, below_yes y e path k) (ap suc (below_kept y x path h))) (λ k. rw (below_no y e (kept x path) k, below_no y e path k) (below_kept y x path h))))
    (λ g. rw (kept_no x e path g, below_no y e path (omega arith)) (below_kept y x path h))

pub below_next : (x : ℕ) (path : List ℕ) → below (suc x) (kept x path) ≡ below x path
unfolding below kept
below_next x [] = refl
below_next x (e ∷ path) =
    by_depth e x
    (λ g. rw (kept_yes x e path g, below_yes x e path g, below_yes (suc x) e (kept x path) (omega arith)) (ap suc (below_next x path)))
    (λ g. rw (kept_no x e path g, below_no x e path g) (below_next x path))
