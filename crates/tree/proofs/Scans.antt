-- One step of each search of a depth column, as a loop makes it: x is the depth of the row that is looked at.
use Rattle.std.proofs.lemmas.Option.{none-some, same_Some}
use Rattle.std.specs.Prelude.{None, Some}
use mathlib.Core.Path.{◌≡◌, refl, sym, ap, ◌∙◌}
use mathlib.Core.List.{List, ◌∷◌}
use Prim.Native.Nat.{ℕ, zero, suc, ◌+◌, ◌-◌, ◌≤◌, ◌<◌}
use native.Mathlib.Omega.{arith}
use native.Mathlib.Numerals.{add-one}
use lib.Dec.{eqb}
use lib.ListN.{length, get_or, drop, drop_of_length-le}
use lib.Seq.{drop-cons}
use borrow.Author.Tests.{le-ltb, lt-ltb, ne_eqb, eq-eqb, eqb-true, eqb-false}
use Rattle.common.proofs.Choice.{by_test}
use Rattle.sheet.specs.Column.{last_above}
use Rattle.tree.specs.Rows.{scan_of, first_child_of, next_sibling_of, past_from, past_of}

-- ---- by the first row of a list

module _ (d j x : ℕ) (l : List ℕ) where
  pub scan_cons_less : x < d → scan_of d j (x ∷ l) ≡ None
  unfolding scan_of
  scan_cons_less p = rw (lt-ltb x d p, scan_of)

  pub scan_cons_hit : x ≡ d → scan_of d j (x ∷ l) ≡ Some j
  unfolding scan_of
  scan_cons_hit p = rw (le-ltb x d (omega arith), scan_of) (rw (eq-eqb x d p))

  pub scan_cons_more : d < x → scan_of d j (x ∷ l) ≡ scan_of d (suc j) l
  unfolding scan_of
  scan_cons_more p = rw (le-ltb x d (omega arith), scan_of) (rw (ne_eqb x d (omega arith)))

  pub past_cons_stop : x ≤ d → past_from d j (x ∷ l) ≡ j
  unfolding past_from
  past_cons_stop p = rw (le-ltb d x p, past_from)

  pub past_cons_more : d < x → past_from d j (x ∷ l) ≡ past_from d (suc j) l
  unfolding past_from
  past_cons_more p = rw (lt-ltb d x p, past_from)

module _ (depths : List ℕ) (d j x : ℕ) where
  pub above_suc_hit : get_or depths j 0 ≡ x → suc x ≡ d → last_above depths d (suc j) ≡ Some j
  above_suc_hit e p = rw (eq-eqb (suc (get_or depths j 0)) d (omega arith), last_above)

  pub above_suc_more : get_or depths j 0 ≡ x → (suc x ≡ d → ⊥) → last_above depths d (suc j) ≡ last_above depths d j
  above_suc_more e p = rw (ne_eqb (suc (get_or depths j 0)) d (λ q. p (omega arith)), last_above)

-- the parent that is found stands before and is one less deep
pub above_found : (depths : List ℕ) (d k q : ℕ) → last_above depths d k ≡ Some q → (q < k) × (suc (get_or depths q 0) ≡ d)
above_found depths d zero q e = absurd (none-some q e)
above_found depths d (suc j) q e =
    let x = get_or depths j 0 in
    by_test (eqb (suc x) d)
    (λ t.
    let hit = eqb-true (suc x) d t in
    let j_is : j ≡ q = same_Some j q (sym (above_suc_hit depths d j x refl hit) ∙ e) in
    (omega arith, rw (← j_is) hit))
    (λ t. let r = above_found depths d j q (sym (above_suc_more depths d j x refl (eqb-false (suc x) d t)) ∙ e) in (omega (arith, r.0), r.1))

-- ---- by the row at an index, as a loop counts it

module _ (depths : List ℕ) (j : ℕ) where
  pub first_child_start : first_child_of depths j ≡ scan_of (get_or depths j 0 + 1) (j + 1) (drop (j + 1) depths)
  first_child_start = simp add-one

  pub next_sibling_start : next_sibling_of depths j ≡ scan_of (get_or depths j 0) (j + 1) (drop (j + 1) depths)
  next_sibling_start = simp add-one

  pub past_start : past_of depths j ≡ past_from (get_or depths j 0) (j + 1) (drop (j + 1) depths)
  past_start = simp add-one

module _ (depths : List ℕ) (d j x : ℕ) (h : j < length depths) (e : x ≡ get_or depths j 0) where
  left_is : drop j depths ≡ x ∷ drop (suc j) depths
  left_is = rw e (drop-cons depths j 0 h)

  pub scan_less : x < d → scan_of d j (drop j depths) ≡ None
  scan_less p = rw left_is (scan_cons_less d j x (drop (suc j) depths) p)

  pub scan_hit : x ≡ d → scan_of d j (drop j depths) ≡ Some j
  scan_hit p = rw left_is (scan_cons_hit d j x (drop (suc j) depths) p)

  pub scan_more : d ≤ x → (x ≡ d → ⊥) → scan_of d j (drop j depths) ≡ scan_of d (j + 1) (drop (j + 1) depths)
  scan_more p q = rw (add-one, left_is) (scan_cons_more d j x (drop (suc j) depths) (omega arith))

  pub past_stop : x ≤ d → past_from d j (drop j depths) ≡ j
  past_stop p = rw left_is (past_cons_stop d j x (drop (suc j) depths) p)

  pub past_more : d < x → past_from d j (drop j depths) ≡ past_from d (j + 1) (drop (j + 1) depths)
  past_more p = rw (add-one, left_is) (past_cons_more d j x (drop (suc j) depths) p)

module _ (depths : List ℕ) (d j : ℕ) (h : length depths ≤ j) where
  pub scan_done : scan_of d j (drop j depths) ≡ None
  unfolding scan_of
  scan_done = rw (drop_of_length-le depths {i = j} h)

  pub past_done : past_from d j (drop j depths) ≡ j
  unfolding past_from
  past_done = rw (drop_of_length-le depths {i = j} h)

-- downwards, to the row before j
module _ (depths : List ℕ) (d j x : ℕ) (h : 0 < j) (e : x ≡ get_or depths (j - 1) 0) where
  from_suc : last_above depths d j ≡ last_above depths d (suc (j - 1))
  from_suc = let p : j ≡ suc (j - 1) = omega arith in ap (last_above depths d) p

  pub above_hit : x + 1 ≡ d → last_above depths d j ≡ Some (j - 1)
  above_hit p = from_suc ∙ above_suc_hit depths d (j - 1) x (sym e) (omega arith)

  pub above_more : (x + 1 ≡ d → ⊥) → last_above depths d j ≡ last_above depths d (j - 1)
  above_more p = from_suc ∙ above_suc_more depths d (j - 1) x (sym e) (λ q. p (omega arith))

pub above_done : (depths : List ℕ) (d j : ℕ) → j ≤ 0 → last_above depths d j ≡ None
above_done depths d j h = let z : j ≡ 0 = omega arith in ap (last_above depths d) z
