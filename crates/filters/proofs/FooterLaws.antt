-- The loops over the rows above a row, and the first row past each of them.
use Rattle.std.specs.Prelude.{None, Some, is_some}
use mathlib.Core.Path.{◌≡◌, refl, sym, ap, ◌∙◌}
use mathlib.Core.Bool.{Bool, true, false, ◌||◌}
use mathlib.Core.List.{List}
use Prim.Native.Nat.{ℕ, zero, suc, ◌-◌, ◌≤◌, ◌<◌}
use native.Mathlib.Omega.{arith}
use lib.ListN.{length, get_or, drop}
use Rattle.common.proofs.Choice.{by_test}
use Rattle.sheet.specs.Column.{last_above, parent_of}
use Rattle.tree.specs.Forest.{child}
use Rattle.tree.specs.Node.{Node}
use Rattle.tree.specs.Rows.{WellFormed, next_sibling_of, past_from, past_of}
use Rattle.tree.proofs.Descendants.{descendant_is}
use Rattle.tree.proofs.PastLaws.{past_of_high, past_inside, past_at, past_is, past_skip, above_skip, past_some, past_none}
use Rattle.tree.proofs.Scans.{above_found, above_suc_more}
use Rattle.filters.specs.Footer.{Above, is_body, is_not_text, body_from, body_above, content_follows, followed_from, followed}

pub parent_before : (depths : List ℕ) (row above : ℕ) → parent_of depths row ≡ Some above → above < row
parent_before depths row above e = (above_found depths (get_or depths row 0) row above e).0

module _ (node_of : ℕ → Node) (depths : List ℕ) where
  one_less : (row above : ℕ) → parent_of depths row ≡ Some above → get_or depths row 0 ≡ suc (get_or depths above 0)
  one_less row above e = sym (above_found depths (get_or depths row 0) row above e).1

  -- ---- the nearest body

  body_here : (d row : ℕ) → is_body (node_of row) ≡ true → body_from node_of depths d row ≡ row
  unfolding body_from
  body_here zero row e = refl
  body_here (suc d) row e = rw (e, body_from)

  body_top : (d row : ℕ) → is_body (node_of row) ≡ false → parent_of depths row ≡ None → body_from node_of depths d row ≡ row
  unfolding body_from
  body_top zero row e p = refl
  body_top (suc d) row e p = rw (e, p, body_from)

  body_above_law : (row above : ℕ) → is_body (node_of row) ≡ false → parent_of depths row ≡ Some above → body_above node_of depths row ≡ body_above node_of depths above
  unfolding body_from
  body_above_law row above e p = rw (one_less row above p, e, p, body_from)

  module _ (i row : ℕ) (w : body_above node_of depths row ≡ body_above node_of depths i) where
    pub body_found : is_body (node_of row) ≡ true → row ≡ body_above node_of depths i
    body_found e = sym (body_here (get_or depths row 0) row e) ∙ w

    pub body_none : is_body (node_of row) ≡ false → parent_of depths row ≡ None → row ≡ body_above node_of depths i
    body_none e p = sym (body_top (get_or depths row 0) row e p) ∙ w

    pub body_up : (above : ℕ) → is_body (node_of row) ≡ false → parent_of depths row ≡ Some above → body_above node_of depths above ≡ body_above node_of depths i
    body_up above e p = sym (body_above_law row above e p) ∙ w

    pub body_end : row ≤ 0 → row ≡ body_above node_of depths i
    body_end h =
        let z : row ≡ 0 = omega arith in
        by_test (is_body (node_of row)) body_found (λ e. body_none e (ap (parent_of depths) z))

  -- ---- the loop over a footer's parents

  follows_body : (d row above : ℕ) → parent_of depths row ≡ Some above → is_body (node_of above) ≡ true → followed_from node_of depths d row ≡ false
  unfolding followed_from
  follows_body zero row above p e = refl
  follows_body (suc d) row above p e = rw (p, e, followed_from)

  module _ (i row : ℕ) (w : followed node_of depths row ≡ followed node_of depths i) where
    pub follow_end : get_or depths row 0 ≤ 0 → false ≡ followed node_of depths i
    unfolding followed_from
    follow_end h = let z : get_or depths row 0 ≡ 0 = omega arith in sym (ap (λ (d : ℕ). followed_from node_of depths d row) z) ∙ w

    module _ (above : ℕ) (p : parent_of depths row ≡ Some above) where
      pub follow_body : is_body (node_of above) ≡ true → false ≡ followed node_of depths i
      follow_body e = sym (follows_body (get_or depths row 0) row above p e) ∙ w

      pub follow_yes : is_body (node_of above) ≡ false → content_follows node_of depths (next_sibling_of depths row) ≡ true → true ≡ followed node_of depths i
      unfolding followed_from
      follow_yes e f = sym (rw (one_less row above p, p, e, f, followed_from)) ∙ w

      pub follow_up : is_body (node_of above) ≡ false → content_follows node_of depths (next_sibling_of depths row) ≡ false → followed node_of depths above ≡ followed node_of depths i
      unfolding followed_from
      follow_up e f = sym (rw (one_less row above p, p, e, f, followed_from)) ∙ w

  -- ---- what stands behind a row, `end` being the first row past it

  module _ (row end : ℕ) (end_is : end ≡ past_of depths row) where
    pub none_behind : length depths ≤ end → false ≡ content_follows node_of depths (next_sibling_of depths row)
    none_behind h = rw (past_none depths (get_or depths row 0) (suc row) end end_is (λ g e. omega arith))

    pub none_beside : (get_or depths end 0 ≡ get_or depths row 0 → ⊥) → false ≡ content_follows node_of depths (next_sibling_of depths row)
    none_beside h = rw (past_none depths (get_or depths row 0) (suc row) end end_is (λ g. h))

    pub sibling_behind : end < length depths → get_or depths end 0 ≡ get_or depths row 0 → {r : Bool} → r ≡ (is_not_text (node_of end) || is_some (next_sibling_of depths end)) → r ≡ content_follows node_of depths (next_sibling_of depths row)
    sibling_behind h e q = q ∙ rw (past_some depths (get_or depths row 0) (suc row) end end_is h e)

module _ (depths : List ℕ) (j k : ℕ) (h : j < length depths) (low : j < k) (high : k ≤ past_of depths j) where
  -- the first row past row j, from a row below it on
  past_from_below : past_from (get_or depths j 0) k (drop k depths) ≡ past_of depths j
  past_from_below =
      past_is depths (get_or depths j 0) k (past_of depths j) high (past_of_high depths j h)
      (λ i l m. past_inside depths (get_or depths j 0) (suc j) i (omega arith) m)
      (λ g. past_at depths (get_or depths j 0) (suc j) g)

  -- a row that is less deep than row j is the last before row k if it is the last before row j
  above_same : (e : ℕ) → e ≤ get_or depths j 0 → last_above depths e k ≡ last_above depths e j
  above_same e g =
      sym (above_skip depths (get_or depths j 0) e (omega arith) k)
      ∙ ap (last_above depths e) past_from_below
      ∙ above_skip depths (get_or depths j 0) e (omega arith) (suc j)
      ∙ above_suc_more depths e j (get_or depths j 0) refl (omega arith)

-- ---- the rows above a row, by their depths

module _ (depths : List ℕ) (row : ℕ) {stack : List ℕ} {d : ℕ} (a : Above depths row stack) (d_is : d ≡ get_or depths row 0) (deep : 0 < d) where
  pub above_inside : d - 1 < length stack
  above_inside = omega (arith, a.long)

  pub above_parent : parent_of depths row ≡ Some (get_or stack (d - 1) 0)
  above_parent =
      let e : get_or depths row 0 ≡ suc (d - 1) = omega arith in
      ap (λ (x : ℕ). last_above depths x row) e ∙ a.row (d - 1) (omega arith)

  pub above_depth : d - 1 ≡ get_or depths (get_or stack (d - 1) 0) 0
  above_depth = omega (arith, (above_found depths (get_or depths row 0) row (get_or stack (d - 1) 0) above_parent).1)

  pub above_up : WellFormed depths → row < length depths → Above depths (get_or stack (d - 1) 0) stack
  above_up w h =
      let above = get_or stack (d - 1) 0 in
      let before = parent_before depths row above above_parent in
      let inside = (descendant_is depths w above (omega arith) row).0 (child above_parent) in
      record {
        long = omega (arith, above_depth, a.long);
        row = λ x g. sym (above_same depths above row (omega arith) before (omega (arith, inside.1)) (suc x) g) ∙ a.row x (omega (arith, above_depth));
      }

-- the first row past a row, from the first row past a child of it
pub past_above : (depths : List ℕ) → WellFormed depths → (row above : ℕ) → above < length depths → parent_of depths row ≡ Some above → {end : ℕ} → end ≡ past_of depths row
    → past_from (get_or depths above 0) end (drop end depths) ≡ past_of depths above
past_above depths w row above h p {end} end_is =
    let e = get_or depths above 0 in
    let d = get_or depths row 0 in
    let inside = (descendant_is depths w above h row).0 (child p) in
    let less : e ≤ d = omega (arith, (above_found depths d row above p).1) in
    rw end_is (sym (past_skip depths d e less (suc row)) ∙ past_from_below depths above (suc row) h (omega (arith, inside.0)) inside.1)
