-- What is left of the passes: at a row that is reached, at the end of a row, and behind rows that are passed over.
use mathlib.Core.Path.{◌≡◌, refl, sym, ap, ap₂, ◌∙◌}
use mathlib.Core.Bool.{Bool, true, false}
use mathlib.Core.List.{List, [], ◌∷◌, ◌++◌, append_assoc}
use Prim.Native.Nat.{ℕ, suc, ◌+◌, ◌≤◌, ◌<◌}
use native.Mathlib.Omega.{arith}
use lib.ListN.{length, get_or, drop}
use Rattle.tree.specs.Forest.{Forest, empty, node, has_trees}
use Rattle.tree.specs.Rows.{children_of, forest_from, past_from}
use Rattle.tree.proofs.Forests.{no_trees, forest_deeper, forest_here, forest_skip}
use Rattle.walk.specs.Turns.{tree_at, row_turns, turns, remaining}
use Rattle.walk.specs.declared.cursor.Turn.{Turn}
use Rattle.walk.specs.declared.cursor.Turn.TheVariants.{Begin, End, LeftOut}

-- ---- a first tree and the others

pub turns_split : (left : ℕ → Bool) (d i : ℕ) (children rest : Forest ℕ) → turns left d (node i children rest) ≡ turns left d (node i children empty) ++ turns left d rest
unfolding turns
turns_split left d i children rest = sym (append_assoc (row_turns (left i) i d (has_trees children) (turns left (suc d) children)) [] (turns left d rest))

module _ (left : ℕ → Bool) (d i : ℕ) (children : Forest ℕ) (after : List Turn) where
  pub turns_left_out : left i ≡ true → turns left d (node i children empty) ++ after ≡ LeftOut ∷ after
  unfolding turns
  turns_left_out e = rw (e, turns)

  module _ (kept : left i ≡ false) where
    pub turns_alone : has_trees children ≡ false → turns left d (node i children empty) ++ after ≡ Begin i d false ∷ after
    unfolding turns
    turns_alone e = rw (kept, no_trees children e, turns)

    pub turns_open : has_trees children ≡ true → turns left d (node i children empty) ++ after ≡ Begin i d true ∷ (turns left (suc d) children ++ (End i d ∷ after))
    unfolding turns
    turns_open e =
        let below = turns left (suc d) children in
        rw (kept, e, turns)
        (ap (λ (ts : List Turn). Begin i d true ∷ ts) (append_assoc (below ++ (End i d ∷ [])) [] after ∙ append_assoc below (End i d ∷ []) after))

-- ---- where the walk stands

module _ (depths : List ℕ) (left : ℕ → Bool) (base : ℕ) where
  -- two places from which the same trees begin
  remaining_same : (j k : ℕ) (rows : List ℕ) → ((d : ℕ) → d ≤ base + length rows → forest_from depths j d ≡ forest_from depths k d)
      → remaining depths left base j rows ≡ remaining depths left base k rows
  unfolding remaining
  remaining_same j k [] e = refl
  remaining_same j k (i ∷ up) e =
      ap₂ (λ (f : Forest ℕ) (ts : List Turn). turns left (suc (length up)) f ++ (End i (length up) ∷ ts)) (e (base + suc (length up)) (omega arith))
      (remaining_same j k up (λ d h. e d (omega arith)))

  pub remaining_skip : (k : ℕ) (rows : List ℕ)
      → remaining depths left base k rows ≡ remaining depths left base (past_from (base + length rows) k (drop k depths)) rows
  remaining_skip k rows = remaining_same k (past_from (base + length rows) k (drop k depths)) rows (λ d h. forest_skip depths (base + length rows) d k h)

  -- a row stands just below the innermost open one
  pub remaining_here : (k i : ℕ) (up : List ℕ) → k < length depths → get_or depths k 0 ≡ base + suc (length up)
      → remaining depths left base k (i ∷ up) ≡ turns left (suc (length up)) (tree_at depths k) ++ remaining depths left base (suc k) (i ∷ up)
  unfolding remaining
  remaining_here k i up h e =
      let d = base + suc (length up) in
      let tree : forest_from depths k d ≡ node k (children_of depths k) (forest_from depths (suc k) d) = forest_here depths k d h e ∙ rw e in
      ap₂ (λ (f : Forest ℕ) (ts : List Turn). turns left (suc (length up)) f ++ (End i (length up) ∷ ts)) tree
      (remaining_same k (suc k) up (λ x g. forest_deeper depths k x h (omega arith)))
      ∙ rw (turns_split left (suc (length up)) k (children_of depths k) (forest_from depths (suc k) d))
      (append_assoc (turns left (suc (length up)) (tree_at depths k)) (turns left (suc (length up)) (forest_from depths (suc k) d)) (End i (length up) ∷ remaining depths left base (suc k) up))

  -- no row stands there
  pub remaining_end : (k i : ℕ) (up : List ℕ) → forest_from depths k (base + suc (length up)) ≡ empty
      → remaining depths left base k (i ∷ up) ≡ End i (length up) ∷ remaining depths left base k up
  unfolding remaining turns
  remaining_end k i up e = rw e

  -- below a row that is opened
  pub remaining_open : (k i : ℕ) (up : List ℕ) → get_or depths i 0 ≡ base + length up
      → turns left (suc (length up)) (forest_from depths k (suc (get_or depths i 0))) ++ (End i (length up) ∷ remaining depths left base k up) ≡ remaining depths left base k (i ∷ up)
  unfolding remaining
  remaining_open k i up e =
      let d : suc (get_or depths i 0) ≡ base + suc (length up) = omega arith in
      rw d
