-- The first row past a subtree: what lies before it, what the searches find from there on, and the next sibling.
use Rattle.std.proofs.lemmas.Option.{none-some, same_Some}
use Rattle.std.specs.Prelude.{None, Some}
use mathlib.Core.Path.{◌≡◌, refl, sym, ap, ◌∙◌}
use mathlib.Core.List.{List, [], ◌∷◌}
use Prim.Native.Nat.{ℕ, suc, ◌+◌, ◌≤◌, ◌<◌}
use native.Mathlib.Omega.{arith}
use lib.Dec.{eqb}
use lib.ListN.{length, get_or, drop, length-drop}
use borrow.Author.Tests.{eqb-true, eqb-false}
use Rattle.common.proofs.Choice.{by_test}
use Rattle.sheet.specs.Column.{last_above}
use Rattle.tree.specs.Rows.{WellFormed, scan_of, first_child_of, past_from, past_of}
use Rattle.tree.specs.Tree.{PastAtDepth, SiblingPast}
use Rattle.tree.proofs.Left.{left_head, left_tail}
use Rattle.tree.proofs.Order.{trichotomy}
use Rattle.tree.proofs.Scans.{scan_cons_more, past_cons_stop, past_cons_more, above_suc_more, scan_less, scan_hit, scan_done}

-- x against d, where the search goes on or stops
pub above_or_not {ℓ} : {P : Type ℓ} (x d : ℕ) → (d < x → P) → (x ≤ d → P) → P
above_or_not x d more stop = trichotomy x d more (λ e. stop (omega arith)) (λ g. stop (omega arith))

pub past_low : (d k : ℕ) (l : List ℕ) → k ≤ past_from d k l
unfolding past_from
past_low d k [] = omega arith
past_low d k (x ∷ l) =
    above_or_not x d (λ g. omega (arith, past_cons_more d k x l g, past_low d (suc k) l)) (λ g. omega (arith, past_cons_stop d k x l g))

pub past_high : (d k : ℕ) (l : List ℕ) → past_from d k l ≤ k + length l
unfolding past_from
past_high d k [] = omega arith
past_high d k (x ∷ l) =
    above_or_not x d (λ g. omega (arith, past_cons_more d k x l g, past_high d (suc k) l)) (λ g. omega (arith, past_cons_stop d k x l g))

module _ (depths : List ℕ) where
  pub past_of_low : (j : ℕ) → j < past_of depths j
  past_of_low j = past_low (get_or depths j 0) (suc j) (drop (suc j) depths)

  pub past_of_high : (j : ℕ) → j < length depths → past_of depths j ≤ length depths
  past_of_high j h = omega (arith, past_high (get_or depths j 0) (suc j) (drop (suc j) depths), length-drop (suc j) depths)

  module _ (d : ℕ) where
    -- ---- the rows before it are deeper, and it is not

    inside_from : (k : ℕ) (l : List ℕ) → l ≡ drop k depths → (i : ℕ) → k ≤ i → i < past_from d k l → d < get_or depths i 0
    unfolding past_from
    inside_from k [] e i low high = absurd (omega arith)
    inside_from k (x ∷ l) e i low high =
        above_or_not x d
        (λ g.
        trichotomy i k
        (λ more. inside_from (suc k) l (left_tail depths k x l e) i more (rw (past_cons_more d k x l g) at high))
        (λ same. rw (same, left_head depths k x l e 0) g)
        (λ less. absurd (omega arith)))
        (λ g. absurd (omega (arith, past_cons_stop d k x l g)))

    pub past_inside : (k i : ℕ) → k ≤ i → i < past_from d k (drop k depths) → d < get_or depths i 0
    past_inside k i low high = inside_from k (drop k depths) refl i low high

    at_from : (k : ℕ) (l : List ℕ) → l ≡ drop k depths → past_from d k l < length depths → get_or depths (past_from d k l) 0 ≤ d
    unfolding past_from
    at_from k [] e h = absurd (omega (arith, ap length e ∙ length-drop k depths))
    at_from k (x ∷ l) e h =
        above_or_not x d
        (λ g. rw (past_cons_more d k x l g) (at_from (suc k) l (left_tail depths k x l e) (rw (past_cons_more d k x l g) at h)))
        (λ g. rw (past_cons_stop d k x l g, left_head depths k x l e 0) g)

    pub past_at : (k : ℕ) → past_from d k (drop k depths) < length depths → get_or depths (past_from d k (drop k depths)) 0 ≤ d
    past_at k h = at_from k (drop k depths) refl h

    -- ---- a search that looks for no deeper row may begin there

    -- any search that passes over a deeper row
    module _ {B : Type 0} (search_from : ℕ → List ℕ → B) (deeper : (k x : ℕ) (l : List ℕ) → d < x → search_from k (x ∷ l) ≡ search_from (suc k) l) where
      skip_from : (k : ℕ) (l : List ℕ) → l ≡ drop k depths → search_from k l ≡ search_from (past_from d k l) (drop (past_from d k l) depths)
      unfolding past_from
      skip_from k [] q = rw (← q)
      skip_from k (x ∷ l) q =
          above_or_not x d
          (λ g. deeper k x l g ∙ rw (past_cons_more d k x l g) (skip_from (suc k) l (left_tail depths k x l q)))
          (λ g. rw (past_cons_stop d k x l g, ← q))

      pub skip : (k : ℕ) → search_from k (drop k depths) ≡ search_from (past_from d k (drop k depths)) (drop (past_from d k (drop k depths)) depths)
      skip k = skip_from k (drop k depths) refl

    module _ (e : ℕ) (low : e ≤ d) where
      pub past_skip : (k : ℕ) → past_from e k (drop k depths) ≡ past_from e (past_from d k (drop k depths)) (drop (past_from d k (drop k depths)) depths)
      past_skip k = skip (past_from e) (λ i x l g. past_cons_more e i x l (omega arith)) k

      pub scan_skip : (k : ℕ) → scan_of e k (drop k depths) ≡ scan_of e (past_from d k (drop k depths)) (drop (past_from d k (drop k depths)) depths)
      scan_skip k = skip (scan_of e) (λ i x l g. scan_cons_more e i x l (omega arith)) k

    -- a parent at depth d or less is not among them
    module _ (e : ℕ) (low : e ≤ suc d) where
      above_skip_from : (k : ℕ) (l : List ℕ) → l ≡ drop k depths → last_above depths e (past_from d k l) ≡ last_above depths e k
      unfolding past_from
      above_skip_from k [] q = refl
      above_skip_from k (x ∷ l) q =
          above_or_not x d
          (λ g.
          rw (past_cons_more d k x l g) (above_skip_from (suc k) l (left_tail depths k x l q))
          ∙ above_suc_more depths e k x (left_head depths k x l q 0) (omega arith))
          (λ g. rw (past_cons_stop d k x l g))

      pub above_skip : (k : ℕ) → last_above depths e (past_from d k (drop k depths)) ≡ last_above depths e k
      above_skip k = above_skip_from k (drop k depths) refl

    -- ---- it is the only such row

    pub past_is : (k p : ℕ) → k ≤ p → p ≤ length depths → ((i : ℕ) → k ≤ i → i < p → d < get_or depths i 0) → (p < length depths → get_or depths p 0 ≤ d)
        → past_from d k (drop k depths) ≡ p
    past_is k p low high inside at =
        let q = past_from d k (drop k depths) in
        trichotomy q p
        (λ g.
        let top : q ≤ length depths = omega (arith, past_high d k (drop k depths), length-drop k depths) in
        absurd (omega (arith, past_inside k p low g, at (omega arith))))
        (λ e. e)
        (λ g. absurd (omega (arith, inside q (past_low d k (drop k depths)) g, past_at k (omega arith))))

    -- ---- the row that the scan finds

    module _ (k s : ℕ) (s_is : s ≡ past_from d k (drop k depths)) where
      from_past : scan_of d k (drop k depths) ≡ scan_of d s (drop s depths)
      from_past = rw s_is (scan_skip d (omega arith) k)

      pub past_some : s < length depths → get_or depths s 0 ≡ d → scan_of d k (drop k depths) ≡ Some s
      past_some h e = from_past ∙ scan_hit depths d s (get_or depths s 0) h refl e

      pub past_none : (s < length depths → get_or depths s 0 ≡ d → ⊥) → scan_of d k (drop k depths) ≡ None
      past_none n =
          from_past
          ∙ above_or_not (length depths) s
          (λ h.
          let at : get_or depths s 0 ≤ d = rw s_is (past_at k (omega arith)) in
          let other = n h in
          scan_less depths d s (get_or depths s 0) h refl (omega arith))
          (λ h. scan_done depths d s h)

    pub scan_past : (k s : ℕ) → scan_of d k (drop k depths) ≡ Some s → PastAtDepth depths d k s
    scan_past k s q =
        let p = past_from d k (drop k depths) in
        above_or_not (length depths) p
        (λ h.
        by_test (eqb (get_or depths p 0) d)
        (λ t.
        let at = eqb-true (get_or depths p 0) d t in
        let s_is : p ≡ s = same_Some p s (sym (past_some k p refl h at) ∙ q) in
        record { past = sym s_is; inside = rw (← s_is) h; depth = rw (← s_is) at })
        (λ t. absurd (none-some s (sym (past_none k p refl (λ i. eqb-false (get_or depths p 0) d t)) ∙ q))))
        (λ h. absurd (none-some s (sym (past_none k p refl (λ i. absurd (omega arith))) ∙ q)))

  pub sibling_past : (j : ℕ) → SiblingPast depths j
  sibling_past j s = (scan_past (get_or depths j 0) (suc j) s, λ p. past_some (get_or depths j 0) (suc j) s p.past p.inside p.depth)

  -- ---- the first child of a row is the next row, if that is deeper

  pub first_child_next : WellFormed depths → (j : ℕ) → suc j < length depths → get_or depths j 0 < get_or depths (suc j) 0 → first_child_of depths j ≡ Some (suc j)
  first_child_next w j h g = scan_hit depths (suc (get_or depths j 0)) (suc j) (get_or depths (suc j) 0) h refl (omega (arith, w.step j h))

  pub first_child_none : (j : ℕ) → (suc j < length depths → get_or depths (suc j) 0 ≤ get_or depths j 0) → first_child_of depths j ≡ None
  first_child_none j n =
      above_or_not (length depths) (suc j)
      (λ h. scan_less depths (suc (get_or depths j 0)) (suc j) (get_or depths (suc j) 0) h refl (omega (arith, n h)))
      (λ h. scan_done depths (suc (get_or depths j 0)) (suc j) h)
