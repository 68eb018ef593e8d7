-- Each way of the cursor takes the first of the passes that are left.
use Rattle.std.specs.Prelude.{Some}
use mathlib.Core.Path.{◌≡◌, refl, sym, ap, subst, ◌∙◌}
use mathlib.Core.Bool.{Bool, true, false}
use mathlib.Core.List.{List, [], ◌∷◌, ◌++◌, append-nil}
use Prim.Native.Nat.{ℕ, zero, suc, ◌+◌, ◌-◌, ◌≤◌, ◌<◌}
use native.Mathlib.Omega.{arith}
use native.Mathlib.Numerals.{add-one}
use lib.ListN.{length, get_or, set, drop, length-set}
use Rattle.tree.specs.Forest.{has_trees}
use Rattle.tree.specs.Rows.{children_of, stands_at, past_from, open_rows}
use Rattle.tree.proofs.Forests.{stands_there, forest_none, children_are}
use Rattle.tree.proofs.OpenRows.{open_length, open_more, open_less}
use Rattle.tree.proofs.PastLaws.{past_at}
use Rattle.walk.specs.Turns.{tree_at, turns, flagged, remaining, turns_left, ColumnRight, Fits, Advances}
use Rattle.walk.specs.declared.cursor.Turn.{Turn}
use Rattle.walk.specs.declared.cursor.Turn.TheVariants.{Begin, End, LeftOut}
use Rattle.walk.specs.declared.cursor.Walk.{Walk}
use Rattle.walk.specs.declared.cursor.Walk.TheVariants.{Root, Below}
use Rattle.walk.proofs.TurnLaws.{turns_left_out, turns_alone, turns_open, remaining_skip, remaining_here, remaining_end, remaining_open}

module _ (depths : List ℕ) (left : List Bool) (stack : List ℕ) (base above k : ℕ) where
  -- the passes of row k, and those behind it
  abbrev pub reached : List Turn
  reached = turns (flagged left) above (tree_at depths k) ++ remaining depths (flagged left) base (suc k) (open_rows stack above)

  module _ (right : ColumnRight depths (length stack)) (h : k < length depths) (e : get_or depths k 0 ≡ base + above) where
    after_is : remaining depths (flagged left) base (suc k) (open_rows stack above) ≡ turns_left depths (flagged left) (Below base (k + 1) above) stack
    after_is = rw add-one

    children_of_law : {there : Bool} → there ≡ stands_at depths (k + 1) (base + above + 1) → has_trees (children_of depths k) ≡ there
    children_of_law {there} s =
        let d : suc (get_or depths k 0) ≡ base + above + 1 = omega arith in
        children_are depths right.column k h ∙ rw (d, ← add-one) (sym s)

    pub reach_left_out : get_or left k false ≡ true → Advances depths left reached (Some (LeftOut, Below base (k + 1) above)) stack
    reach_left_out l = (
      turns_left_out (flagged left) above k (children_of depths k) _ l ∙ ap (λ (ts : List Turn). LeftOut ∷ ts) after_is,
      omega (arith, right.deep k h),
    )

    module _ (kept : get_or left k false ≡ false) where
      pub reach_alone : false ≡ stands_at depths (k + 1) (base + above + 1) → Advances depths left reached (Some (Begin k above false, Below base (k + 1) above)) stack
      reach_alone s = (
        turns_alone (flagged left) above k (children_of depths k) _ kept (children_of_law s) ∙ ap (λ (ts : List Turn). Begin k above false ∷ ts) after_is,
        omega (arith, right.deep k h),
      )

      pub reach_open : true ≡ stands_at depths (k + 1) (base + above + 1) → Advances depths left reached (Some (Begin k above true, Below base (k + 1) (above + 1))) (set stack above k)
      reach_open s =
          let room : above < length stack = omega (arith, right.deep k h) in
          let up = open_rows stack above in
          let n = open_length stack above in (
            turns_open (flagged left) above k (children_of depths k) _ kept (children_of_law s)
                ∙ ap (λ (ts : List Turn). Begin k above true ∷ ts)
                (ap (λ (m : ℕ). turns (flagged left) (suc m) (children_of depths k) ++ (End k m ∷ remaining depths (flagged left) base (suc k) up)) (sym n)
                ∙ remaining_open depths (flagged left) base (suc k) k up (rw n e)
                ∙ rw (add-one, add-one, open_more stack above k room)),
            omega (arith, right.deep k h, length-set stack above k),
          )

-- ---- below the root

module _ (depths : List ℕ) (left : List Bool) (stack : List ℕ) (base k : ℕ) where
  abbrev pub below : ℕ → List Turn
  below above = remaining depths (flagged left) base k (open_rows stack above)

  pub all_done : (above : ℕ) → above ≡ 0 → below above ≡ []
  unfolding open_rows remaining
  all_done above z = rw z

  -- the innermost open row and the others; from the next row that is not too deep
  skipped : (n j : ℕ) → j ≡ past_from (base + suc n) k (drop k depths) → below (suc n) ≡ remaining depths (flagged left) base j (get_or stack n 0 ∷ open_rows stack n)
  skipped n j j_is =
      remaining_skip depths (flagged left) base k (open_rows stack (suc n))
      ∙ rw (open_length stack (suc n), ← j_is, open_less)

  pub reach_below : (above j : ℕ) → (above ≡ 0 → ⊥) → j ≡ past_from (base + above) k (drop k depths) → true ≡ stands_at depths j (base + above)
      → below above ≡ reached depths left stack base above j
  reach_below zero j n j_is s = absurd (n refl)
  reach_below (suc n) j m j_is s =
      let at = stands_there depths j (base + suc n) (sym s) in
      let up = open_rows stack n in
      let l = open_length stack n in
      skipped n j j_is
      ∙ remaining_here depths (flagged left) base j (get_or stack n 0) up at.0 (rw l at.1)
      ∙ rw (l, open_less)

  pub end_below : (above j : ℕ) → (above ≡ 0 → ⊥) → j ≡ past_from (base + above) k (drop k depths) → base + above ≤ length stack → false ≡ stands_at depths j (base + above)
      → Advances depths left (below above) (Some (End (get_or stack (above - 1) 0) (above - 1), Below base j (above - 1))) stack
  end_below zero j n j_is room s = absurd (n refl)
  end_below (suc n) j m j_is room s =
      let l = open_length stack n in
      let p : suc n - 1 ≡ n = omega arith in
      let low : j < length depths → get_or depths j 0 ≤ base + suc n = rw j_is (past_at depths (base + suc n) k) in (
        skipped n j j_is
            ∙ remaining_end depths (flagged left) base j (get_or stack n 0) (open_rows stack n) (rw l (forest_none depths j (base + suc n) (sym s) low))
            ∙ rw (l, p),
        omega arith,
      )

-- ---- by where the walk stands

pub fits_of : (depths : List ℕ) (room : ℕ) {w v : Walk} → w ≡ v → Fits depths room w → Fits depths room v
fits_of depths room e f = subst (Fits depths room) e f

pub left_of : (depths : List ℕ) (left : ℕ → Bool) (stack : List ℕ) {w v : Walk} → w ≡ v → turns_left depths left w stack ≡ turns_left depths left v stack
left_of depths left stack e = ap (λ (x : Walk). turns_left depths left x stack) e

pub left_at_root : (depths : List ℕ) (left : List Bool) (stack : List ℕ) (i : ℕ) {w : Walk} → w ≡ Root i
    → turns_left depths (flagged left) w stack ≡ reached depths left stack (get_or depths i 0) 0 i
unfolding open_rows remaining
left_at_root depths left stack i e = left_of depths (flagged left) stack e ∙ sym (append-nil (turns (flagged left) 0 (tree_at depths i)))
