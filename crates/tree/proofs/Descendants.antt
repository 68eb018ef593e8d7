-- The descendants of a row are the rows behind it up to the first one past.
use Rattle.std.proofs.lemmas.Option.{none-some, same_Some}
use Rattle.std.specs.Prelude.{Option, None, Some}
use mathlib.Core.Path.{◌≡◌, refl, sym, ap, ◌∙◌}
use mathlib.Core.List.{List, [], ◌∷◌, map}
use mathlib.Core.Logic.{◌↔◌}
use Prim.Native.Nat.{ℕ, zero, suc, ◌-◌, ◌≤◌, ◌<◌}
use native.Mathlib.Omega.{arith}
use lib.Dec.{eqb}
use lib.ListN.{length, get_or, drop, get_or-eq_default}
use borrow.Author.Tests.{le-ltb, lt-ltb, eqb-true, eqb-false}
use Rattle.common.proofs.Choice.{by_test}
use Rattle.sheet.specs.Column.{last_above, parent_of}
use Rattle.tree.specs.Forest.{preorder, Descendant, child, below}
use Rattle.tree.specs.Rows.{WellFormed, numbered, rows_from, past_from, past_of, forest_from}
use Rattle.tree.proofs.Order.{trichotomy, within, preorder_below, preorder_rows, steps_after}
use Rattle.tree.proofs.PastLaws.{above_or_not, past_low, past_inside, past_at, past_of_low, past_of_high, past_is}
use Rattle.tree.proofs.Places.{depths_numbered}
use Rattle.tree.proofs.Scans.{past_cons_stop, past_cons_more, above_suc_hit, above_suc_more, above_found}

-- ---- a run of row numbers

module _ (i p : ℕ) where
  pub rows_done : p ≤ i → rows_from i (p - i) ≡ []
  unfolding rows_from
  rows_done h = let z : p - i ≡ 0 = omega arith in rw z

  pub rows_more : i < p → rows_from i (p - i) ≡ i ∷ rows_from (suc i) (p - suc i)
  unfolding rows_from
  rows_more h = let z : p - i ≡ suc (p - suc i) = omega arith in rw z

pub length_rows : (i n : ℕ) → length (rows_from i n) ≡ n
unfolding rows_from
length_rows i zero = refl
length_rows i (suc n) = ap suc (length_rows (suc i) n)

within_numbers : (d k : ℕ) (l : List ℕ) → map (λ r. r.1) (within (suc d) (numbered k l)) ≡ rows_from k (past_from d k l - k)
unfolding numbered past_from
within_numbers d k [] = sym (rows_done k k (omega arith))
within_numbers d k (x ∷ l) =
    above_or_not x d
    (λ g.
    rw (past_cons_more d k x l g, le-ltb x (suc d) (omega arith), rows_more k (past_from d (suc k) l) (past_low d (suc k) l))
    (ap (λ (t : List ℕ). k ∷ t) (within_numbers d (suc k) l)))
    (λ g. rw (past_cons_stop d k x l g, lt-ltb x (suc d) (omega arith), rows_done k k (omega arith)))

pub descendants : (depths : List ℕ) → WellFormed depths → (j : ℕ) → preorder (forest_from depths (suc j) (suc (get_or depths j 0))) ≡ rows_from (suc j) (past_of depths j - suc j)
descendants depths w j =
    let d = get_or depths j 0 in
    let l = drop (suc j) depths in
    sym (preorder_rows (suc d) (forest_from depths (suc j) (suc d)))
    ∙ ap (map (λ (r : ℕ × ℕ). r.1)) (preorder_below d (numbered (suc j) l) (rw depths_numbered (steps_after depths w j l refl)))
    ∙ within_numbers d (suc j) l

-- ---- by their parents

module _ (depths : List ℕ) (w : WellFormed depths) where
  -- behind the last row before k that is one less deep than d, up to k, which is d deep or more, every row is
  above_between : (d k b : ℕ) → k < length depths → d ≤ get_or depths k 0 → last_above depths d k ≡ Some b → (i : ℕ) → b < i → i ≤ k → d ≤ get_or depths i 0
  above_between d zero b h g e i low high = absurd (omega arith)
  above_between d (suc j) b h g e i low high =
      above_or_not i j
      (λ m. let i_is : i ≡ suc j = omega arith in rw i_is g)
      (λ m.
      let x = get_or depths j 0 in
      by_test (eqb (suc x) d)
      (λ t.
      let j_is : j ≡ b = same_Some j b (sym (above_suc_hit depths d j x refl (eqb-true (suc x) d t)) ∙ e) in
      absurd (omega arith))
      (λ t.
      let miss = eqb-false (suc x) d t in
      above_between d j b (omega arith) (omega (arith, w.step j h)) (sym (above_suc_more depths d j x refl miss) ∙ e) i low m))

  above_exists : (b d k : ℕ) → b < k → k < length depths → d ≤ get_or depths k 0 → get_or depths b 0 < d → (c : ℕ) × (b ≤ c) × (c < k) × (last_above depths d k ≡ Some c)
  above_exists b d zero low h g less = absurd (omega arith)
  above_exists b d (suc j) low h g less =
      by_test (eqb (suc (get_or depths j 0)) d)
      (λ t. (j, omega arith, omega arith, above_suc_hit depths d j (get_or depths j 0) refl (eqb-true (suc (get_or depths j 0)) d t)))
      (λ t.
      let miss = eqb-false (suc (get_or depths j 0)) d t in
      let deep : d ≤ get_or depths j 0 = omega (arith, w.step j h) in
      above_or_not j b
      (λ m.
      let r = above_exists b d j m (omega arith) deep less in
      (r.0, r.1, omega (arith, r.2), above_suc_more depths d j (get_or depths j 0) refl miss ∙ r.3))
      (λ m. let e : j ≡ b = omega arith in absurd (omega (arith, ap (λ (i : ℕ). get_or depths i 0) e))))

  above_zero : (k : ℕ) → last_above depths 0 k ≡ None
  above_zero zero = refl
  above_zero (suc j) = above_suc_more depths 0 j (get_or depths j 0) refl (omega arith) ∙ above_zero j

  -- a row with a parent is a row of the column
  child_inside : (a b : ℕ) → parent_of depths a ≡ Some b → a < length depths
  child_inside a b e =
      above_or_not (length depths) a (λ h. h)
      (λ h.
      let n = ap (λ (d : ℕ). last_above depths d a) (get_or-eq_default depths 0 {n = a} h) ∙ above_zero a in
      absurd (none-some b (sym n ∙ e)))

  -- the rows behind the parent of a row, up to the row itself, are deeper than the parent
  parent_between : (a b : ℕ) → parent_of depths a ≡ Some b → (i : ℕ) → b < i → i ≤ a → get_or depths b 0 < get_or depths i 0
  parent_between a b e i low high =
      omega (arith, (above_found depths (get_or depths a 0) a b e).1, above_between (get_or depths a 0) a b (child_inside a b e) (omega arith) e i low high)

  pub has_parent : (i : ℕ) → suc i < length depths → (q : ℕ) × (parent_of depths (suc i) ≡ Some q)
  has_parent i h =
      let x = above_exists 0 (get_or depths (suc i) 0) (suc i) (omega arith) h (omega arith) (omega (arith, w.root, w.later i h)) in
      (x.0, x.3)

  before_past : (b a : ℕ) → a < length depths → ((i : ℕ) → b < i → i ≤ a → get_or depths b 0 < get_or depths i 0) → a < past_of depths b
  before_past b a h deep =
      let p = past_of depths b in
      above_or_not p a (λ g. g)
      (λ g. absurd (omega (arith, deep p (past_of_low depths b) g, past_at depths (get_or depths b 0) (suc b) (omega arith))))

  down : (b a : ℕ) → Descendant (parent_of depths) b a → (b < a) × (a < past_of depths b)
  down b a (child e) = ((above_found depths (get_or depths a 0) a b e).0, before_past b a (child_inside a b e) (parent_between a b e))
  down b a (below {c = c} s e) =
      let r = down b c s in
      let inside = past_inside depths (get_or depths b 0) (suc b) in (
        omega (arith, (above_found depths (get_or depths a 0) a c e).0, r.0),
        before_past b a (child_inside a c e)
            (λ i low high. above_or_not i c (λ g. omega (arith, parent_between a c e i g high, inside c r.0 r.1)) (λ g. inside i low (omega (arith, r.1)))),
      )

  up : (b : ℕ) → b < length depths → (n a : ℕ) → a < n → b < a → a < past_of depths b → Descendant (parent_of depths) b a
  up b h zero a fuel low high = absurd (omega arith)
  up b h (suc n) a fuel low high =
      let x = above_exists b (get_or depths a 0) a low (omega (arith, past_of_high depths b h)) (omega arith) (past_inside depths (get_or depths b 0) (suc b) a low high) in
      trichotomy x.0 b
      (λ g. below (up b h n x.0 (omega (arith, x.2)) g (omega (arith, x.2))) x.3)
      (λ e. child (x.3 ∙ ap {B = Option ℕ} Some e))
      (λ g. absurd (omega (arith, x.1)))

  pub descendant_is : (j : ℕ) → j < length depths → (i : ℕ) → Descendant (parent_of depths) j i ↔ ((j < i) × (i < past_of depths j))
  descendant_is j h i = (down j i, λ r. up j h (suc i) i (omega arith) r.0 r.1)

  -- where the row past row j is no deeper than its parent, it is the first past the parent too
  pub past_up : (j q : ℕ) → parent_of depths j ≡ Some q → (past_of depths j < length depths → get_or depths (past_of depths j) 0 ≤ get_or depths q 0) → past_of depths q ≡ past_of depths j
  past_up j q e at =
      let x = above_found depths (get_or depths j 0) j q e in
      past_is depths (get_or depths q 0) (suc q) (past_of depths j) (omega (arith, x.0, past_of_low depths j)) (past_of_high depths j (child_inside j q e))
      (λ i low high.
      above_or_not i j (λ g. omega (arith, x.1, past_inside depths (get_or depths j 0) (suc j) i g high)) (λ g. parent_between j q e i low g))
      at
