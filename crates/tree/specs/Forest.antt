-- A list of trees, with the terms of the DOM standard, section 1.1 "Trees" (https://dom.spec.whatwg.org/#trees).
use Rattle.std.specs.Prelude.{◌≡◌, Bool, true, false, List, [], ◌∷◌, ◌++◌, ◌⊎◌, ℕ, suc, Option, None, Some}

-- a row, its children and its later siblings
pub data Forest (A : Type 0) : Type 0 where
  empty : Forest A
  node : A → Forest A → Forest A → Forest A

module _ {A : Type 0} where
  -- there is a tree
  abbrev pub has_trees : Forest A → Bool
  has_trees empty = false
  has_trees (node a children rest) = true

  -- "tree order is preorder, depth-first traversal of a tree"
  unfoldable pub preorder : Forest A → List A
  preorder empty = []
  preorder (node a children rest) = a ∷ (preorder children ++ preorder rest)

  -- the same, each row with its depth, where the first tree stands at depth d
  unfoldable pub preorder_at : ℕ → Forest A → List (ℕ × A)
  preorder_at d empty = []
  preorder_at d (node a children rest) = (d, a) ∷ (preorder_at (suc d) children ++ preorder_at d rest)

  -- Of the children of a row: "the first child of an object is its first child or null if it has no children".
  -- Of its later siblings: "the next sibling of an object is its first following sibling or null if it has no following sibling".
  unfoldable pub first : Forest A → Option A
  first empty = None
  first (node a children rest) = Some a

  -- "An object that participates in a tree has a parent, which is either null or an object, and has children, which is an ordered set of objects."
  -- In a forest whose trees have the parent p there stands row a: its parent is q, its children are `children`, its later siblings `rest`.
  unfoldable pub Place : Option A → Forest A → Option A → A → Forest A → Forest A → Type 0
  Place p empty q a children rest = ⊥
  Place p (node b below later) q a children rest =
      ((p ≡ q) × (b ≡ a) × (below ≡ children) × (later ≡ rest)) ⊎ (Place (Some b) below q a children rest ⊎ Place p later q a children rest)

-- "An object A is called a descendant of an object B, if either A is a child of B or A is a child of an object C that is a descendant of B."
-- `parent_of` says the parent of each row.
pub data Descendant {A : Type 0} (parent_of : A → Option A) (b : A) : A → Type 0 where
  child : {a : A} → parent_of a ≡ Some b → Descendant parent_of b a
  below : {a c : A} → Descendant parent_of b c → parent_of a ≡ Some c → Descendant parent_of b a
